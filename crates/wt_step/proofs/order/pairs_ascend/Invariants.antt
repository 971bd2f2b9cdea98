use Rattle.std.proofs.Common.{◌≡◌, length}
use Rattle.wt_grid.specs.Order.{in_order}
use Rattle.wt_grid.specs.Pairs.{pairs_follow, pair_fits}
use Rattle.wt_step.proofs.order.pairs_ascend.Given as goal

abbrev pub invariant-loop-left : goal.invariant-loop-left
invariant-loop-left l = in_order (pair_fits l.below) pairs_follow l.left ≡ in_order (pair_fits l.below) pairs_follow l.pairs

abbrev pub decreases-loop-left : goal.decreases-loop-left
decreases-loop-left l = length l.left
