use Rattle.std.proofs.Common.{◌≡◌, length}
use Rattle.wt_grid.specs.Order.{in_order}
use Rattle.wt_step.specs.Words.{entry_fits}
use Rattle.wt_refute.specs.Entries.{entries_follow}
use Rattle.wt_step.proofs.shape.entries_ascend.Given as goal

abbrev pub invariant-loop-left : goal.invariant-loop-left
invariant-loop-left l = in_order (entry_fits l.radius l.below) entries_follow l.left ≡ in_order (entry_fits l.radius l.below) entries_follow l.entries

abbrev pub decreases-loop-left : goal.decreases-loop-left
decreases-loop-left l = length l.left
