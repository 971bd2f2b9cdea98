-- The numbers of a tree, read with what is left behind them.
use Rattle.std.proofs.Common.{arith, ◌≡◌, ℕ, ◌≤◌, ◌<◌, Bool, true, false, ◌&&◌, nat_le, nat_lt, List, [], ◌∷◌, Option, Some, None, Ok, Err, codes, option_map, refl, sym, ap, ◌∙◌}
use Rattle.std.specs.Str.{bytes_eq}
use Rattle.std.proofs.lemmas.Bool.Decides.{nat_tests}
use Rattle.std.proofs.lemmas.Slice.Eq.{bytes_eq-Decides}
use Rattle.wt_text.specs.Words.{tokens, number}
use Rattle.wt_text.specs.Spellings.{IsNotEmpty}
use Rattle.wt_text.specs.Readers.{wrong, past}
use Rattle.wt_text.proofs.Split.{some_tokens}
use Rattle.wt_line.specs.declared.faults.What.TheVariants.{Tiles, Nodes, Number}
use Rattle.wt_line.specs.Given.{left, held, held_number}
use Rattle.wt_line.proofs.Held.{is_held}
use Rattle.wt_cert.specs.Trees.{children, ending, tile_left, cell_left, ending_left}

is_in : (n m : ℕ) → n ≤ m → nat_le n m ≡ true
is_in n m le = grind (arith, nat_tests)

is_past : (n m : ℕ) → m < n → nat_le n m ≡ false
is_past n m lt = grind (arith, nat_tests)

has_room : (n m : ℕ) → n < m → nat_lt n m ≡ true
has_room n m lt = grind (arith, nat_tests)

is_full : (n m : ℕ) → m ≤ n → nat_lt n m ≡ false
is_full n m le = grind (arith, nat_tests)

pub no_spelling : (t : List ℕ) (ts : List (List ℕ)) → held_number (t ∷ ts) ≡ None → number t ≡ None
no_spelling t ts e = go (number t) e
  where
    go : (r : Option ℕ) → option_map {U = ℕ × List (List ℕ)} (λ m. (m, ts)) (held r) ≡ None → r ≡ None
    go None h = refl
    go (Some v) h = absurd cc

-- ---- a tile

pub no_tile : (ts : List (List ℕ)) → held_number ts ≡ None → tile_left ts ≡ Err wrong
no_tile [] e = refl
no_tile (t ∷ ts) e = rw (no_spelling t ts e) refl

pub tile_past : (ts rest : List (List ℕ)) (n : ℕ) → held_number ts ≡ Some (n, rest) → 65535 < n → tile_left ts ≡ Err (past Number)
tile_past ts rest n e lt =
    let h = is_held ts n rest e in
    rw (h.first, h.spelled, is_past h.value 65535 (omega (arith, h.same, lt))) refl

pub tile_within : (ts rest : List (List ℕ)) (n : ℕ) → held_number ts ≡ Some (n, rest) → n ≤ 65535 → tile_left ts ≡ Ok (n, rest)
tile_within ts rest n e le =
    let h = is_held ts n rest e in
    let v : h.value ≡ n = omega (arith, h.same, le) in
    rw (h.first, h.spelled, v, is_in n 65535 le) refl

-- ---- a cell

pub none_full : (nodes : ℕ) (ts : List (List ℕ)) → ts ≡ [] → cell_left nodes ts ≡ Err wrong
none_full nodes ts e = rw e refl

pub one_full : (nodes : ℕ) (ts : List (List ℕ)) (t : List ℕ) (more : Bool) (line : List ℕ) → ts ≡ t ∷ left more line → more ≡ false → cell_left nodes ts ≡ Err wrong
one_full nodes ts t true line e m = absurd cc
one_full nodes ts t false line e m = rw e refl

-- there is a token behind
behind : (f : List (List ℕ) → Type 0) (line : List ℕ) → ((t : List ℕ) (ts : List (List ℕ)) → f (t ∷ ts)) → f (tokens line)
behind f line h = go (tokens line) (some_tokens line)
  where
    go : (ts : List (List ℕ)) → IsNotEmpty ts → f ts
    go [] s = absurd s
    go (t ∷ ts) s = h t ts

pub cell_full : (nodes : ℕ) (ts : List (List ℕ)) (t : List ℕ) (more : Bool) (line : List ℕ) → 1048576 ≤ nodes → ts ≡ t ∷ left more line → more ≡ true → cell_left nodes ts ≡ Err (past Nodes)
cell_full nodes ts t false line full e m = absurd cc
cell_full nodes ts t true line full e m = ap (cell_left nodes) e ∙ behind (λ x. cell_left nodes (t ∷ x) ≡ Err (past Nodes)) line (λ k us. rw (is_full nodes 1048576 full) refl)

pub no_cell : (nodes : ℕ) (ts : List (List ℕ)) → nodes < 1048576 → held_number ts ≡ None → cell_left nodes ts ≡ Err wrong
no_cell nodes [] lt e = refl
no_cell nodes (t ∷ []) lt e = refl
no_cell nodes (t ∷ u ∷ ts) lt e = rw (has_room nodes 1048576 lt, no_spelling t (u ∷ ts) e) refl

pub cell_alone : (nodes : ℕ) (ts : List (List ℕ)) (n : ℕ) (more : Bool) (line : List ℕ) → held_number ts ≡ Some (n, left more line) → more ≡ false → cell_left nodes ts ≡ Err wrong
cell_alone nodes ts n true line e m = absurd cc
cell_alone nodes ts n false line e m = let h = is_held ts n [] e in rw h.first refl

pub cell_past : (nodes : ℕ) (ts : List (List ℕ)) (n : ℕ) (more : Bool) (line : List ℕ) → nodes < 1048576 → held_number ts ≡ Some (n, left more line) → more ≡ true → 65535 < n → cell_left nodes ts ≡ Err (past Number)
cell_past nodes ts n false line room e m lt = absurd cc
cell_past nodes ts n true line room e m lt =
    let h = is_held ts n (tokens line) e in
    let p : nat_le h.value 65535 ≡ false = is_past h.value 65535 (omega (arith, h.same, lt)) in
    ap (cell_left nodes) h.first ∙ behind (λ x. cell_left nodes (h.token ∷ x) ≡ Err (past Number)) line (λ k us. rw (has_room nodes 1048576 room, h.spelled, p) refl)

pub cell_within : (nodes : ℕ) (ts : List (List ℕ)) (n : ℕ) (more : Bool) (line : List ℕ) → nodes < 1048576 → held_number ts ≡ Some (n, left more line) → more ≡ true → n ≤ 65535 → cell_left nodes ts ≡ Ok (n, left more line)
cell_within nodes ts n false line room e m le = absurd cc
cell_within nodes ts n true line room e m le =
    let h = is_held ts n (tokens line) e in
    let v : h.value ≡ n = omega (arith, h.same, le) in
    ap (cell_left nodes) h.first ∙ behind (λ x. cell_left nodes (h.token ∷ x) ≡ Ok (n, x)) line (λ k us. rw (has_room nodes 1048576 room, h.spelled, v, is_in n 65535 le) refl)

-- ---- what stands after a cell

pub none_ends : (citing : Bool) (ts : List (List ℕ)) → ts ≡ [] → ending_left citing ts ≡ Err wrong
none_ends citing ts e = rw e refl

-- a number is no word
no_word : (t w : List ℕ) (v : ℕ) → number t ≡ Some v → number w ≡ None → bytes_eq t w ≡ false
no_word t w v e n = go (bytes_eq t w) refl
  where
    go : (b : Bool) → bytes_eq t w ≡ b → b ≡ false
    go false h = refl
    go true h = let same : t ≡ w = (bytes_eq-Decides t w).0 h in let both : Some v ≡ None = sym e ∙ ap number same ∙ n in absurd cc

and_false : (a : Bool) → (a && false) ≡ false
and_false true = refl
and_false false = refl

counted : (citing : Bool) (t : List ℕ) (v : ℕ) → number t ≡ Some v → ending citing t ≡ Some (children v)
counted citing t v e = rw (no_word t (codes "c1") v e refl, no_word t (codes "c2") v e refl, and_false citing, e) refl

pub count_past : (citing : Bool) (ts rest : List (List ℕ)) (n : ℕ) → held_number ts ≡ Some (n, rest) → 256 < n → ending_left citing ts ≡ Err (past Tiles)
count_past citing ts rest n e lt =
    let h = is_held ts n rest e in
    rw (h.first, counted citing h.token h.value h.spelled, is_past h.value 256 (omega (arith, h.same, lt))) refl

pub count_within : (citing : Bool) (ts rest : List (List ℕ)) (n : ℕ) → held_number ts ≡ Some (n, rest) → n ≤ 256 → ending_left citing ts ≡ Ok (children n, rest)
count_within citing ts rest n e le =
    let h = is_held ts n rest e in
    let v : h.value ≡ n = omega (arith, h.same, le) in
    rw (h.first, counted citing h.token h.value h.spelled, v, is_in n 256 le) refl

pub no_count : (ts : List (List ℕ)) → held_number ts ≡ None → ending_left false ts ≡ Err wrong
no_count [] e = refl
no_count (t ∷ ts) e = rw (no_spelling t ts e) refl
