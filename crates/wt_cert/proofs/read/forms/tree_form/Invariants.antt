use Rattle.std.proofs.Common.{◌≡◌}
use Rattle.wt_line.specs.Given.{left, room}
use Rattle.wt_cert.specs.Trees.{is_tree, is_forest}
use Rattle.wt_cert.proofs.read.forms.tree_form.Given as goal

abbrev pub invariant-loop-owed : goal.invariant-loop-owed
invariant-loop-owed l = is_forest l.citing l.owed (left l.rest.more l.rest.line.now) ≡ is_tree l.citing (left l.fn.rest.more l.fn.rest.line.now)

abbrev pub decreases-loop-owed : goal.decreases-loop-owed
decreases-loop-owed l = room l.rest.more l.rest.line.now
