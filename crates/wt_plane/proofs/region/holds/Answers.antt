use Rattle.std.proofs.Common.{arith, ◌^◌, ◌-◌}
use Rattle.wt_golden.proofs.Sizes.{plus_within, times_within}
use Rattle.wt_plane.proofs.region.holds.Goals as goal

pub plus-requires-clause-left : goal.plus-requires-clause-left
plus-requires-clause-left c = times_within _ _ _ (2 ^ 18 - 1) (2 ^ 30 - 1) (2 ^ 125) c.times-x.ensures c.p.ensures.small c.wide_x.ensures.small (omega arith)

pub plus-requires-clause-right : goal.plus-requires-clause-right
plus-requires-clause-right c = times_within _ _ _ (2 ^ 18 - 1) (2 ^ 30 - 1) (2 ^ 125) c.times-y.ensures c.q.ensures.small c.wide_y.ensures.small (omega arith)

pub plus-requires-2-clause-left : goal.plus-requires-2-clause-left
plus-requires-2-clause-left c = plus_within _ _ _ (2 ^ 50) (2 ^ 50) (2 ^ 125) c.plus.ensures
    (times_within _ _ _ (2 ^ 18 - 1) (2 ^ 30 - 1) (2 ^ 50) c.times-x.ensures c.p.ensures.small c.wide_x.ensures.small (omega arith))
    (times_within _ _ _ (2 ^ 18 - 1) (2 ^ 30 - 1) (2 ^ 50) c.times-y.ensures c.q.ensures.small c.wide_y.ensures.small (omega arith))
    (omega arith)

pub plus-requires-2-clause-right : goal.plus-requires-2-clause-right
plus-requires-2-clause-right c = times_within _ _ _ (2 ^ 18 - 1) (2 ^ 30 - 1) (2 ^ 125) c.times-d.ensures c.r.ensures.small c.wide_d.ensures.small (omega arith)

pub is_positive-requires : goal.is_positive-requires
is_positive-requires c = plus_within _ _ _ (2 ^ 51) (2 ^ 50) (2 ^ 61) c.plus-2.ensures
    (plus_within _ _ _ (2 ^ 50) (2 ^ 50) (2 ^ 51) c.plus.ensures
    (times_within _ _ _ (2 ^ 18 - 1) (2 ^ 30 - 1) (2 ^ 50) c.times-x.ensures c.p.ensures.small c.wide_x.ensures.small (omega arith))
    (times_within _ _ _ (2 ^ 18 - 1) (2 ^ 30 - 1) (2 ^ 50) c.times-y.ensures c.q.ensures.small c.wide_y.ensures.small (omega arith))
    (omega arith))
    (times_within _ _ _ (2 ^ 18 - 1) (2 ^ 30 - 1) (2 ^ 50) c.times-d.ensures c.r.ensures.small c.wide_d.ensures.small (omega arith))
    (omega arith)
