-- What a built node stands for.
use Rattle.std.proofs.Common.{◌≡◌, ℕ, List, ap, sym, ◌∙◌}
use Rattle.wt_grid.specs.declared.axis.Axis.{Axis}
use Rattle.wt_refute.specs.declared.tree.Tree as tree
use Rattle.wt_refute.specs.declared.tree.Tree.TheVariants.{rolls-Branch, rolls-Cite}
use Rattle.wt_refute.specs.declared.tree.Tree.TheOpen.{Tree-F}
use Rattle.wt_refute.specs.declared.tree.Child.{Child}
use Rattle.wt_refute.specs.Refutation.{Refutation, branch, cite}
use Rattle.wt_refute.specs.View.{refutation, children_view, tree_step, child_step}

pub branch_view : (cell : ℕ) (cs : List Child) → refutation (tree.Branch cell cs) ≡ branch cell (children_view cs)
branch_view cell cs = ap refutation (sym (rolls-Branch cell cs)) ∙ tree.fold-roll-Tree Refutation (ℕ × Refutation) tree_step child_step (Tree-F.Branch cell cs)

pub cite_view : (cell : ℕ) (axis : Axis) → refutation (tree.Cite cell axis) ≡ cite cell axis
cite_view cell axis = ap refutation (sym (rolls-Cite cell axis)) ∙ tree.fold-roll-Tree Refutation (ℕ × Refutation) tree_step child_step (Tree-F.Cite cell axis)
