use Rattle.std.proofs.Common.{◌≡◌, ◌++◌, drop}
use Rattle.wt_write.specs.Behind.{behind_spaces}
use Rattle.wt_refute.specs.View.{refutation, children_view}
use Rattle.wt_cert.specs.Trees.{tree_spelling, branches_spelling}
use Rattle.wt_cert.proofs.write.lines.+push_tree.Given as goal

abbrev pub invariant-loop-child : goal.invariant-loop-child
invariant-loop-child l = l.out.items ++ behind_spaces (branches_spelling (children_view (drop l.child-index l.children))) ≡ l.fn.out.items ++ behind_spaces (tree_spelling (refutation l.tree))
