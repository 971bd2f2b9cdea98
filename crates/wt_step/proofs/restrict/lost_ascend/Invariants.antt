use Rattle.std.proofs.Common.{◌≡◌, length}
use Rattle.wt_grid.specs.Order.{in_order}
use Rattle.wt_step.specs.Restrict.{lost_below, losses_follow}
use Rattle.wt_step.proofs.restrict.lost_ascend.Given as goal

abbrev pub invariant-loop-left : goal.invariant-loop-left
invariant-loop-left l = in_order (lost_below l.below) losses_follow l.left ≡ in_order (lost_below l.below) losses_follow l.losses

abbrev pub decreases-loop-left : goal.decreases-loop-left
decreases-loop-left l = length l.left
