use Rattle.std.proofs.Common.{arith, ◌^◌, ◌-◌}
use Rattle.wt_golden.proofs.Sizes.{plus_within, times_within, sum_within}
use Rattle.wt_plane.proofs.apart.weighted.Goals as goal

pub plus-requires-clause-left : goal.plus-requires-clause-left
plus-requires-clause-left c = sum_within _ _ _ _ _ (2 ^ 39) (2 ^ 18 - 1) (2 ^ 125) c.sum_of_products.ensures c.cross.ensures.small c.r.ensures.small c.cross-2.ensures.small c.r-2.ensures.small (omega arith)

pub plus-requires-clause-right : goal.plus-requires-clause-right
plus-requires-clause-right c = times_within _ _ _ (2 ^ 39) (2 ^ 18 - 1) (2 ^ 125) c.times.ensures c.cross-3.ensures.small c.r-3.ensures.small (omega arith)

pub returns-clause-small : goal.returns-clause-small
returns-clause-small c = plus_within _ _ _ (2 ^ 60) (2 ^ 59) (2 ^ 61) c.plus.ensures
    (sum_within _ _ _ _ _ (2 ^ 39) (2 ^ 18 - 1) (2 ^ 60) c.sum_of_products.ensures c.cross.ensures.small c.r.ensures.small c.cross-2.ensures.small c.r-2.ensures.small (omega arith))
    (times_within _ _ _ (2 ^ 39) (2 ^ 18 - 1) (2 ^ 59) c.times.ensures c.cross-3.ensures.small c.r-3.ensures.small (omega arith))
    (omega arith)
