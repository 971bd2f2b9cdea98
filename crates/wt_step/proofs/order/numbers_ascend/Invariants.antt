use Rattle.std.proofs.Common.{◌≡◌, length}
use Rattle.wt_grid.specs.Order.{in_order, is_below, comes_before}
use Rattle.wt_step.proofs.order.numbers_ascend.Given as goal

abbrev pub invariant-loop-left : goal.invariant-loop-left
invariant-loop-left l = in_order (is_below l.below) comes_before l.left ≡ in_order (is_below l.below) comes_before l.numbers

abbrev pub decreases-loop-left : goal.decreases-loop-left
decreases-loop-left l = length l.left
