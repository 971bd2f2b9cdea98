-- A tree to the end of a line, both ways.
use Rattle.std.proofs.Common.{arith, ◌≡◌, ℕ, zero, suc, ◌+◌, ◌≤◌, Bool, true, false, cond, List, [], ◌++◌, Some, None, Result, Ok, Err, refl, sym, ap, ◌∙◌}
use Rattle.std.proofs.lemmas.List.{append-nil}
use Rattle.wt_grid.specs.declared.axis.Axis.TheVariants.{One, Two}
use Rattle.wt_grid.specs.declared.axis.Axis.{Axis}
use Rattle.wt_line.specs.declared.faults.What.{What}
use Rattle.wt_line.specs.declared.faults.LineFault as line
use Rattle.wt_line.specs.declared.faults.LineFault.TheVariants as faults
use Rattle.wt_line.specs.Faults.{LineFails}
use Rattle.wt_text.specs.Words.{tokens}
use Rattle.wt_line.specs.Given.{left}
use Rattle.wt_text.specs.Spellings.{IsClean, AllFit}
use Rattle.wt_text.specs.Readers.{LineFault, wrong, past}
use Rattle.wt_text.proofs.Numbers.{decimal_clean, if_some, is_decimal_again}
use Rattle.wt_text.proofs.Formats.{clean_both, read_is}
use Rattle.wt_text.proofs.Last.{IsLast}
use Rattle.wt_refute.specs.Refutation.{Refutation, Branches, branch, cite, no_more, more, node_count, branch_count}
use Rattle.wt_cert.specs.Trees.{axis_word, tree_spelling, branches_spelling, is_forest, is_tree, tree_in, found_tree, tree_to_end, IsWritableTree, AreWritableBranches}
use Rattle.wt_cert.proofs.TreeForms.{none_owed}
use Rattle.wt_cert.proofs.TreesFound.{tree_found}
use Rattle.wt_cert.proofs.TreesAgain.{tree_again, forest_form, children_again, cites_again}

axis_clean : (axis : Axis) → IsClean (axis_word axis)
axis_clean One = (refl, refl, (refl, refl, tt))
axis_clean Two = (refl, refl, (refl, refl, tt))

mutual
  tree_clean : (citing : Bool) (levels nodes : ℕ) (tree : Refutation) → IsWritableTree citing levels nodes tree → AllFit IsClean (tree_spelling tree)
  tree_clean citing zero nodes tree fits = absurd fits
  tree_clean citing (suc levels) nodes (cite cell axis) fits = let le : cell ≤ 65535 = fits.1 in (decimal_clean cell (omega (arith, le)), (axis_clean axis, tt))
  tree_clean citing (suc levels) nodes (branch cell branches) fits =
      let le : cell ≤ 65535 = fits.1 in
      let few : branch_count branches ≤ 256 = fits.2 in
      (decimal_clean cell (omega (arith, le)), (decimal_clean (branch_count branches) (omega (arith, few)), branches_clean citing levels (nodes + 1) branches fits.3))

  branches_clean : (citing : Bool) (levels nodes : ℕ) (b : Branches) → AreWritableBranches citing levels nodes b → AllFit IsClean (branches_spelling b)
  branches_clean citing levels nodes no_more fits = tt
  branches_clean citing levels nodes (more tile tree others) fits =
      let le : tile ≤ 65535 = fits.0 in
      (decimal_clean tile (omega (arith, le)), clean_both (tree_spelling tree) (branches_spelling others) (tree_clean citing levels nodes tree fits.1) (branches_clean citing levels (nodes + node_count tree) others fits.2))

-- a tree has the form of a line exactly where nothing stands behind it
line_form : (citing : Bool) (levels nodes : ℕ) (tree : Refutation) (rest : List (List ℕ)) → IsWritableTree citing levels nodes tree → is_tree citing (tree_spelling tree ++ rest) ≡ is_forest citing 0 rest
line_form citing zero nodes tree rest fits = absurd fits
line_form citing (suc levels) nodes (cite cell axis) rest fits =
    let le : cell ≤ 65535 = fits.1 in
    rw (is_decimal_again cell (omega (arith, le)), cites_again citing axis fits.2) refl
line_form citing (suc levels) nodes (branch cell branches) rest fits =
    let le : cell ≤ 65535 = fits.1 in
    let few : branch_count branches ≤ 256 = fits.2 in
    let z : 0 + branch_count branches ≡ branch_count branches = omega arith in
    rw (is_decimal_again cell (omega (arith, le)), children_again citing (branch_count branches) (omega (arith, few)))
    (ap (λ (m : ℕ). is_forest citing m (branches_spelling branches ++ rest)) (sym z) ∙ forest_form citing levels (nodes + 1) 0 branches rest fits.3)

whole_form : (citing : Bool) (levels nodes : ℕ) (tree : Refutation) → IsWritableTree citing levels nodes tree → is_tree citing (tree_spelling tree) ≡ true
whole_form citing levels nodes tree fits = ap (is_tree citing) (sym (append-nil (tree_spelling tree))) ∙ line_form citing levels nodes tree [] fits

-- a tree that is read has the form of a line exactly where no token is left
read_form : (citing : Bool) (nodes : ℕ) (ts rest : List (List ℕ)) (tree : Refutation) → tree_in citing 90 nodes ts ≡ Ok (tree, rest) → is_tree citing ts ≡ is_forest citing 0 rest
read_form citing nodes ts rest tree e =
    let f = (tree_found citing 90).finds nodes ts tree rest e in
    ap (is_tree citing) f.0 ∙ line_form citing 90 nodes tree rest f.1

pub tree_ends : (citing : Bool) (nodes : ℕ) (ts : List (List ℕ)) (tree : Refutation) (more : Bool) (line : List ℕ) → tree_in citing 90 nodes ts ≡ Ok (tree, left more line) → more ≡ false → tree_to_end citing nodes ts ≡ Some (Ok tree, left more line)
unfolding tree_to_end
tree_ends citing nodes ts tree true line e m = absurd cc
tree_ends citing nodes ts tree false line e m = rw (read_form citing nodes ts [] tree e, e) refl

pub tree_goes_on : (citing : Bool) (nodes : ℕ) (ts : List (List ℕ)) (tree : Refutation) (more : Bool) (line : List ℕ) → tree_in citing 90 nodes ts ≡ Ok (tree, left more line) → more ≡ true → tree_to_end citing nodes ts ≡ None
unfolding tree_to_end
tree_goes_on citing nodes ts tree false line e m = absurd cc
tree_goes_on citing nodes ts tree true line e m =
    let form : is_tree citing ts ≡ false = read_form citing nodes ts (tokens line) tree e ∙ sym (none_owed citing true line) in
    rw form refl

pub no_tree : (citing : Bool) (nodes : ℕ) (ts : List (List ℕ)) → tree_in citing 90 nodes ts ≡ Err wrong → tree_to_end citing nodes ts ≡ None
unfolding tree_to_end
no_tree citing nodes ts e = rw e (go (is_tree citing ts))
  where
    go : (b : Bool) → cond b (found_tree (Err wrong)) None ≡ None
    go true = refl
    go false = refl

pub no_form : (citing : Bool) (nodes : ℕ) (ts : List (List ℕ)) → is_tree citing ts ≡ false → tree_to_end citing nodes ts ≡ None
unfolding tree_to_end
no_form citing nodes ts e = rw e refl

pub tree_past : (e : line.LineFault) (citing : Bool) (nodes : ℕ) (ts : List (List ℕ)) (what : What) → e ≡ faults.Past what → is_tree citing ts ≡ true → LineFails e (tree_in citing 90 nodes ts) → tree_to_end citing nodes ts ≡ Some (Err what, [])
unfolding tree_to_end
tree_past faults.Wrong citing nodes ts what k form h = absurd cc
tree_past faults.OutOfMemory citing nodes ts what k form h = absurd cc
tree_past (faults.Past w) citing nodes ts what k form h = let same : w ≡ what = cc in rw (form, h, same) refl

pub tree_last : (citing : Bool) (nodes : ℕ) → IsLast (tree_to_end citing nodes) tree_spelling (IsWritableTree citing 90 nodes)
unfolding tree_to_end
tree_last citing nodes = record {
  found = λ ts x rest e.
      let p = if_some (is_tree citing ts) _ (Ok x, rest) e in
      (tree_found citing 90).finds nodes ts x rest (found_ok (tree_in citing 90 nodes ts) x rest p.1);
  again = λ x fits.
      let one : tree_in citing 90 nodes (tree_spelling x) ≡ Ok (x, []) = ap (tree_in citing 90 nodes) (sym (append-nil (tree_spelling x))) ∙ tree_again citing 90 nodes x [] fits in
      let form : is_tree citing (tree_spelling x) ≡ true = whole_form citing 90 nodes x fits in
      rw (form, one) refl;
  clean = tree_clean citing 90 nodes;
}
  where
    found_ok : (r : Result (Refutation × List (List ℕ)) (LineFault What)) (x : Refutation) (rest : List (List ℕ)) → found_tree r ≡ Some (Ok x, rest) → r ≡ Ok (x, rest)
    found_ok (Ok y) x rest e = let p = read_is (Ok y.0) (Ok x) y.1 rest e in let a : y.0 ≡ x = cc (p.0) in ap (λ (z : Refutation). Ok (z, y.1)) a ∙ ap (λ (z : List (List ℕ)). Ok (x, z)) p.1
    found_ok (Err wrong) x rest e = absurd cc
    found_ok (Err (past what)) x rest e = let p = read_is (Err what) (Ok x) [] rest e in absurd (cc (p.0))
