-- The refutation that a tree stands for, and the tree that stands for a refutation.
use Rattle.std.proofs.Common.{◌≡◌, ℕ, List, map, ap, sym, ◌∙◌}
use Rattle.wt_grid.specs.declared.axis.Axis.{Axis}
use Rattle.wt_refute.specs.declared.tree.Tree.{Tree, Branch, Cite}
use Rattle.wt_refute.specs.declared.tree.Tree.TheVariants.{rolls-Branch, rolls-Cite}
use Rattle.wt_refute.specs.declared.tree.Tree.TheFolds.{fold-roll-Tree, fold-roll-Child}
use Rattle.wt_refute.specs.declared.tree.Tree.TheOpen as open'
use Rattle.wt_refute.specs.declared.tree.Child.{Child, roll-Child}
use Rattle.wt_refute.specs.Refutation.{Refutation, branch, cite}
use Rattle.wt_refute.specs.View.{refutation, child_view, branches_of, tree_step, child_step}

pub refutation_branch : (cell : ℕ) (cs : List Child) → refutation (Branch cell cs) ≡ branch cell (branches_of (map child_view cs))
refutation_branch cell cs = ap refutation (sym (rolls-Branch cell cs)) ∙ fold-roll-Tree Refutation (ℕ × Refutation) tree_step child_step (open'.Branch cell cs)

pub refutation_cite : (cell : ℕ) (axis : Axis) → refutation (Cite cell axis) ≡ cite cell axis
refutation_cite cell axis = ap refutation (sym (rolls-Cite cell axis)) ∙ fold-roll-Tree Refutation (ℕ × Refutation) tree_step child_step (open'.Cite cell axis)

pub child_of : (tile : ℕ) (tree : Tree) → child_view (roll-Child (record { tile = tile; tree = tree })) ≡ (tile, refutation tree)
child_of tile tree = fold-roll-Child Refutation (ℕ × Refutation) tree_step child_step (record { tile = tile; tree = tree })
