use Rattle.std.proofs.Common.{rules, ◌++◌, length}
use Rattle.wt_refute.proofs.BranchView.{branch_view, cite_view}
use Rattle.wt_write.specs.Behind.{behind_spaces}
use Rattle.wt_refute.specs.View.{refutation}
use Rattle.wt_cert.specs.Trees.{tree_spelling}
use Rattle.wt_cert.proofs.Written.{cite_written, branch_begins, child_written}
use Rattle.wt_cert.proofs.write.lines.+push_tree.Goals as goal

pub returns-in_ok-cited_behind-in-Cite : goal.returns-in_ok-cited_behind-in-Cite
returns-in_ok-cited_behind-in-Cite t c =
    cite_written c.args.out.now.items c.number_behind.new.out.items c.cited_behind.new.out.items c.from.result c.in-Cite.cell c.in-Cite.axis (refutation c.args.tree.now) (rw c.in-Cite.is (cite_view c.in-Cite.cell c.in-Cite.axis)) c.from.ensures c.in_ok-number_behind-in-Cite.ensures.ok c.in_ok-cited_behind-in-Cite.ensures

pub loop-child-init : goal.loop-child-init
loop-child-init t c =
    branch_begins c.args.out.now.items c.number_behind-in-Branch.new.out.items c.number_behind-in-Branch-2.new.out.items c.from-in-Branch.result c.in-Branch.cell (length c.as_slice-children.result.now) c.as_slice-children.result.now (refutation c.args.tree.now) (rw (c.as_slice-children.ensures, c.in-Branch.is) (branch_view c.in-Branch.cell c.in-Branch.children)) c.from-in-Branch.ensures (search rules) c.in_ok-number_behind-in-Branch.ensures.ok c.in_ok-number_behind-in-Branch-2.ensures.ok

pub loop-child-preserved : goal.loop-child-preserved
loop-child-preserved t c =
    child_written c.loop-child.out.items c.number_behind-in-loop-child.new.out.items c.push_tree.new.out.items (c.args.out.now.items ++ behind_spaces (tree_spelling (refutation c.args.tree.now))) c.from-in-loop-child.result c.as_slice-children.result.now c.loop-child.child-index c.child-item.result c.loop-child-test.true c.child-item.is c.from-in-loop-child.ensures c.in_ok-number_behind-in-Branch-3.ensures.ok c.in_ok-push_tree-in-Branch.ensures c.loop-child.invariant
