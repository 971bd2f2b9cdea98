-- Edges numbered by first coming, and their tiles as a tile set.
use Rattle.std.proofs.Common.{arith, ◌≡◌, ◌≢◌, ℕ, zero, suc, ◌+◌, ◌<◌, ◌≤◌, Bool, true, false, ◌&&◌, ◌||◌, nat_eq, nat_le, nat_lt, List, [], ◌∷◌, ◌++◌, length, length-append, get_or, slice_get, Contains, Some, refl, sym, ap, ◌∙◌}
use Rattle.std.proofs.lemmas.Bool.{and_parts, or_left, or_right}
use Rattle.std.specs.List.{list_any}
use Rattle.std.specs.Fmt.{decimal}
use Rattle.std.specs.Str.{all_ascii_digits}
use Rattle.std.proofs.lemmas.List.FromFn.{map-range_with_len_more}
use Rattle.std.proofs.lemmas.Fmt.{length-decimal-le, decimal_nonempty}
use Rattle.std.proofs.lemmas.Bool.Decides.{nat_tests}
use Rattle.wt_text.proofs.Numbers.{decimal_digits}
use Rattle.wt_tile.specs.declared.fusion.Edge.{Edge}
use Rattle.wt_tile.specs.declared.fusion.Edge.TheVariants.{One as single, Two as pair}
use Rattle.wt_tile.specs.Names.{is_name_byte, all_name_bytes, name_of}
use Rattle.wt_tile.specs.Colours.{IsNumbering}
use Rattle.wt_marker.specs.Coarse.{same_edge, place, come, names_of}
use Rattle.wt_marker.proofs.Truth.{not_both}

-- Edges.

pub edge_same : (x y : Edge) → same_edge x y ≡ true → x ≡ y
edge_same (single a) (single b) e = let h : a ≡ b = grind (arith, nat_tests, e) in cc
edge_same (single a) (pair b c) e = absurd cc
edge_same (pair a b) (single c) e = absurd cc
edge_same (pair a b) (pair c d) e =
    let g = and_parts (nat_eq a c) (nat_eq b d) e in
    let h : a ≡ c = grind (arith, nat_tests, g.0) in
    let k : b ≡ d = grind (arith, nat_tests, g.1) in cc

pub own_edge : (x : Edge) → same_edge x x ≡ true
own_edge (single a) = grind (arith, nat_tests)
own_edge (pair a b) =
    let e : nat_eq a a ≡ true = grind (arith, nat_tests) in
    let f : nat_eq b b ≡ true = grind (arith, nat_tests) in rw (e, f) refl

-- Places.

pub place_at : (e : Edge) (xs : List Edge) → list_any (same_edge e) xs ≡ true → slice_get xs (place e xs) ≡ Some e
place_at e [] h = absurd cc
place_at e (x ∷ xs) h = go (same_edge e x) refl (λ k. place_at e xs k)
  where
    go : (b : Bool) → same_edge e x ≡ b → (list_any (same_edge e) xs ≡ true → slice_get xs (place e xs) ≡ Some e) → slice_get (x ∷ xs) (place e (x ∷ xs)) ≡ Some e
    go true t r = rw t (ap (λ y. Some y) (sym (edge_same e x t)))
    go false t r = rw t (r (rw t at h))

pub place_within : (e : Edge) (xs : List Edge) → list_any (same_edge e) xs ≡ true → place e xs < length xs
place_within e [] h = absurd cc
place_within e (x ∷ xs) h = go (same_edge e x) refl (λ k. place_within e xs k)
  where
    go : (b : Bool) → same_edge e x ≡ b → (list_any (same_edge e) xs ≡ true → place e xs < length xs) → place e (x ∷ xs) < length (x ∷ xs)
    go true t r = rw t (omega arith)
    go false t r = let k = r (rw t at h) in rw t (omega arith)

pub place_new : (e : Edge) (xs : List Edge) → list_any (same_edge e) xs ≡ false → place e xs ≡ length xs
place_new e [] h = refl
place_new e (x ∷ xs) h = go (same_edge e x) refl (λ k. place_new e xs k)
  where
    go : (b : Bool) → same_edge e x ≡ b → (list_any (same_edge e) xs ≡ false → place e xs ≡ length xs) → place e (x ∷ xs) ≡ length (x ∷ xs)
    go true t r = absurd (let k : true ≡ false = rw t at h in cc)
    go false t r = rw t (ap suc (r (rw t at h)))

contains_tail : (e x : Edge) (xs : List Edge) → Contains xs e → Contains (x ∷ xs) e
contains_tail e x xs h = let lt = h.1 in (suc h.0, omega arith, h.2)

pub has_contains : (e : Edge) (xs : List Edge) → list_any (same_edge e) xs ≡ true → Contains xs e
has_contains e [] h = absurd cc
has_contains e (x ∷ xs) h = go (same_edge e x) refl (λ k. has_contains e xs k)
  where
    go : (b : Bool) → same_edge e x ≡ b → (list_any (same_edge e) xs ≡ true → Contains xs e) → Contains (x ∷ xs) e
    go true t r = (0, omega arith, sym (edge_same e x t))
    go false t r = contains_tail e x xs (r (rw t at h))

contains_at : (e : Edge) (xs : List Edge) (k : ℕ) → k < length xs → get_or xs k e ≡ e → list_any (same_edge e) xs ≡ true
contains_at e [] k lt h = absurd (omega arith)
contains_at e (x ∷ xs) zero lt h = or_left (same_edge e x) (list_any (same_edge e) xs) (rw h (own_edge e))
contains_at e (x ∷ xs) (suc k) lt h = or_right (same_edge e x) (list_any (same_edge e) xs) (contains_at e xs k (omega arith) h)

pub contains_has : (e : Edge) (xs : List Edge) → Contains xs e → list_any (same_edge e) xs ≡ true
contains_has e xs h = contains_at e xs h.0 h.1 h.2

seam : {A : Type 0} (xs : List A) (x : A) → slice_get (xs ++ x ∷ []) (length xs) ≡ Some x
seam [] x = refl
seam (y ∷ xs) x = seam xs x

-- what the numbering of an edge answers
pub numbered_place : (old new : List Edge) (e : Edge) (n : ℕ) → (Contains old e → new ≡ old) → ((Contains old e → ⊥) → new ≡ old ++ e ∷ []) → IsNumbering new → slice_get new n ≡ Some e
    → (n ≡ place e old) × (new ≡ come old e) × (length new ≤ length old + 1)
numbered_place old new e n held added num at = go (list_any (same_edge e) old) refl
  where
    go : (b : Bool) → list_any (same_edge e) old ≡ b → (n ≡ place e old) × (new ≡ come old e) × (length new ≤ length old + 1)
    go true t =
        let same = held (has_contains e old t) in
        (num.once n (place e old) e at (rw same (place_at e old t)), (rw t same), (rw same (omega arith)))
    go false t =
        let more = added (λ h. not_both (list_any (same_edge e) old) (contains_has e old h) t) in
        let p = place_new e old t in
        (num.once n (place e old) e at (rw (more, p) (seam old e)), (rw t more), (rw more (omega (arith, length-append old (e ∷ [])))))

-- Names.

digit_named : (b : ℕ) → (nat_le 48 b && nat_le b 57) ≡ true → is_name_byte b ≡ true
digit_named b e =
    let g = and_parts (nat_le 48 b) (nat_le b 57) e in
    go ((nat_le 97 b && nat_le b 122) || (nat_le 65 b && nat_le b 90)) (nat_eq b 95) (nat_eq b 46) (nat_eq b 45) (nat_eq b 39)
  where
    go : (p q r s t : Bool) → (p || (nat_le 48 b && nat_le b 57) || q || r || s || t) ≡ true
    go true q r s t = refl
    go false q r s t = rw e refl

pub digits_named : (bs : List ℕ) → all_ascii_digits bs ≡ true → all_name_bytes bs ≡ true
digits_named [] e = refl
digits_named (b ∷ bs) e = let g = and_parts _ (all_ascii_digits bs) e in rw (digit_named b g.0, digits_named bs g.1) refl

pub named : (n : ℕ) → n < 65536 → name_of (decimal n) ≡ Some (decimal n)
named n lt =
    let some = decimal_nonempty n (omega arith) in
    let few = length-decimal-le 5 n (omega arith) (omega arith) (omega arith) in
    let a : nat_lt 0 (length (decimal n)) ≡ true = grind (arith, nat_tests) in
    let b : nat_le (length (decimal n)) 16 ≡ true = grind (arith, nat_tests) in
    rw (a, b, digits_named (decimal n) (decimal_digits n (omega arith))) refl

pub names_more : (old new : List (List ℕ)) (name : List ℕ) (n : ℕ) → old ≡ names_of n → name ≡ decimal n → new ≡ old ++ name ∷ [] → new ≡ names_of (n + 1)
names_more old new name n e g h =
    let more : names_of (n + 1) ≡ names_of n ++ decimal n ∷ [] = map-range_with_len_more decimal 0 n n (omega arith) in
    h ∙ (rw (e, g) (sym more))
