-- A tree that fits is read from its spelling.
use Rattle.std.proofs.Common.{arith, ◌≡◌, ℕ, zero, suc, ◌+◌, ◌≤◌, ◌<◌, ◌^◌, Bool, true, false, ◌&&◌, List, ◌∷◌, ◌++◌, Some, Ok, codes, refl, ap, ◌∙◌, append_assoc}
use Rattle.wt_grid.specs.declared.axis.Axis.TheVariants.{One, Two}
use Rattle.wt_grid.specs.declared.axis.Axis.{Axis}
use Rattle.std.specs.Str.{bytes_eq, all_ascii_digits}
use Rattle.std.specs.Fmt.{decimal}
use Rattle.std.proofs.lemmas.Bool.{le-leb, lt-ltb}
use Rattle.std.proofs.lemmas.Slice.Eq.{bytes_eq-Decides}
use Rattle.wt_line.specs.declared.faults.What.{What}
use Rattle.wt_line.specs.declared.faults.What.TheVariants.{Number}
use Rattle.wt_text.specs.Words.{number, is_decimal}
use Rattle.wt_text.proofs.Numbers.{number_again, is_decimal_again, decimal_digits}
use Rattle.wt_refute.specs.Refutation.{Refutation, Branches, branch, cite, no_more, more, node_count, branch_count}
use Rattle.wt_cert.specs.Trees.{axis_word, tree_spelling, branches_spelling, children, cites, ending, is_forest, limited, cell_in, branches_in, tree_in, IsWritableTree, AreWritableBranches}

pub small_again : (what : What) (n : ℕ) → n ≤ 65535 → limited 65535 what (number (decimal n)) ≡ Ok n
small_again what n le = rw (number_again n (omega arith), le-leb n 65535 le) refl

cell_again : (nodes c : ℕ) → nodes < 1048576 → c ≤ 65535 → cell_in nodes (decimal c) ≡ Ok c
cell_again nodes c lt le = rw (lt-ltb nodes 1048576 lt) (small_again Number c le)

-- a decimal is no word that begins with a letter
not_word : (w : List ℕ) (n : ℕ) → n < 2 ^ 64 → all_ascii_digits w ≡ false → bytes_eq (decimal n) w ≡ false
not_word w n small letter = go (bytes_eq (decimal n) w) refl
  where
    go : (b : Bool) → bytes_eq (decimal n) w ≡ b → b ≡ false
    go false e = refl
    go true e =
        let same : decimal n ≡ w = (bytes_eq-Decides (decimal n) w).0 e in
        let digits : all_ascii_digits (decimal n) ≡ true = decimal_digits n small in
        absurd cc

none_of : (b c : Bool) → c ≡ false → (b && c) ≡ false
none_of true c e = e
none_of false c e = refl

pub children_again : (citing : Bool) (n : ℕ) → n < 2 ^ 64 → ending citing (decimal n) ≡ Some (children n)
children_again citing n small =
    let one : (citing && bytes_eq (decimal n) (codes "c1")) ≡ false = none_of citing _ (not_word (codes "c1") n small refl) in
    let two : (citing && bytes_eq (decimal n) (codes "c2")) ≡ false = none_of citing _ (not_word (codes "c2") n small refl) in
    rw (one, two, number_again n small) refl

pub cites_again : (citing : Bool) (axis : Axis) → citing ≡ true → ending citing (axis_word axis) ≡ Some (cites axis)
cites_again true One e = refl
cites_again true Two e = refl
cites_again false axis e = absurd cc

mutual
  pub tree_again : (citing : Bool) (levels nodes : ℕ) (tree : Refutation) (rest : List (List ℕ)) → IsWritableTree citing levels nodes tree → tree_in citing levels nodes (tree_spelling tree ++ rest) ≡ Ok (tree, rest)
  tree_again citing zero nodes tree rest fits = absurd fits
  tree_again citing (suc levels) nodes (branch cell branches) rest fits =
      let few : branch_count branches ≤ 256 = fits.2 in
      let c : cell_in nodes (decimal cell) ≡ Ok cell = cell_again nodes cell fits.0 fits.1 in
      let k : ending citing (decimal (branch_count branches)) ≡ Some (children (branch_count branches)) = children_again citing (branch_count branches) (omega (arith, few)) in
      rw (c, k, le-leb (branch_count branches) 256 few, branches_again citing levels (nodes + 1) branches rest fits.3) refl
  tree_again citing (suc levels) nodes (cite cell axis) rest fits =
      let c : cell_in nodes (decimal cell) ≡ Ok cell = cell_again nodes cell fits.0 fits.1 in
      rw (c, cites_again citing axis fits.2) refl

  pub branches_again : (citing : Bool) (levels nodes : ℕ) (b : Branches) (rest : List (List ℕ)) → AreWritableBranches citing levels nodes b → branches_in (tree_in citing levels) (branch_count b) nodes (branches_spelling b ++ rest) ≡ Ok (b, rest)
  branches_again citing levels nodes no_more rest fits = refl
  branches_again citing levels nodes (more tile tree others) rest fits =
      rw (small_again Number tile fits.0, append_assoc (tree_spelling tree) (branches_spelling others) rest, tree_again citing levels nodes tree (branches_spelling others ++ rest) fits.1, branches_again citing levels (nodes + node_count tree) others rest fits.2) refl

-- ---- its form

mutual
  pub forest_form : (citing : Bool) (levels nodes n : ℕ) (b : Branches) (rest : List (List ℕ)) → AreWritableBranches citing levels nodes b → is_forest citing (n + branch_count b) (branches_spelling b ++ rest) ≡ is_forest citing n rest
  forest_form citing levels nodes n no_more rest fits = ap (λ (m : ℕ). is_forest citing m rest) (omega arith)
  forest_form citing levels nodes n (more tile tree others) rest fits =
      let le : tile ≤ 65535 = fits.0 in
      let k : n + suc (branch_count others) ≡ suc (n + branch_count others) = omega arith in
      let d : is_decimal (decimal tile) ≡ true = is_decimal_again tile (omega (arith, le)) in
      rw (k, append_assoc (tree_spelling tree) (branches_spelling others) rest) (one_form citing levels nodes (n + branch_count others) tree (decimal tile) (branches_spelling others ++ rest) d fits.1 ∙ forest_form citing levels (nodes + node_count tree) n others rest fits.2)

  pub one_form : (citing : Bool) (levels nodes n : ℕ) (tree : Refutation) (tile : List ℕ) (rest : List (List ℕ)) → is_decimal tile ≡ true → IsWritableTree citing levels nodes tree → is_forest citing (suc n) (tile ∷ (tree_spelling tree ++ rest)) ≡ is_forest citing n rest
  one_form citing zero nodes n tree tile rest d fits = absurd fits
  one_form citing (suc levels) nodes n (cite cell axis) tile rest d fits =
      let le : cell ≤ 65535 = fits.1 in
      let z : n + 0 ≡ n = omega arith in
      rw (d, is_decimal_again cell (omega (arith, le)), cites_again citing axis fits.2, z) refl
  one_form citing (suc levels) nodes n (branch cell branches) tile rest d fits =
      let le : cell ≤ 65535 = fits.1 in
      let few : branch_count branches ≤ 256 = fits.2 in
      rw (d, is_decimal_again cell (omega (arith, le)), children_again citing (branch_count branches) (omega (arith, few))) (forest_form citing levels (nodes + 1) n branches rest fits.3)
