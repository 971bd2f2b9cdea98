use Rattle.std.proofs.Common.{arith, ◌^◌, ◌-◌}
use Rattle.wt_golden.proofs.Sizes.{times_within, times_whole_within}
use Rattle.wt_golden.proofs.Order.{positive_times, positive_whole}
use Rattle.wt_plane.proofs.plane.moved_six.Goals as goal

pub times-first-requires-clause-left : goal.times-first-requires-clause-left
times-first-requires-clause-left c = times_within _ _ _ (2 ^ 18 - 1) (2 ^ 30) (2 ^ 61) c.times.ensures c.p.ensures.small c.top.ensures.small (omega arith)

pub times-second-requires-clause-left : goal.times-second-requires-clause-left
times-second-requires-clause-left c = times_within _ _ _ (2 ^ 18 - 1) (2 ^ 30) (2 ^ 61) c.times-2.ensures c.q.ensures.small c.top-2.ensures.small (omega arith)

pub times-requires-3-clause-right : goal.times-requires-3-clause-right
times-requires-3-clause-right c = (times_whole_within _ _ _ _ (2 ^ 30) (2 ^ 30) (2 ^ 61) c.times-d.ensures c.bottom-dy.ensures.value c.bottom-dx.ensures.small c.bottom-dy.ensures.small (omega arith))

pub times-requires-4-clause-right : goal.times-requires-4-clause-right
times-requires-4-clause-right c = (times_whole_within _ _ _ _ (2 ^ 30) (2 ^ 30) (2 ^ 61) c.times-d.ensures c.bottom-dy.ensures.value c.bottom-dx.ensures.small c.bottom-dy.ensures.small (omega arith))

pub times-requires-5-clause-right : goal.times-requires-5-clause-right
times-requires-5-clause-right c = (times_whole_within _ _ _ _ (2 ^ 30) (2 ^ 30) (2 ^ 61) c.times-d.ensures c.bottom-dy.ensures.value c.bottom-dx.ensures.small c.bottom-dy.ensures.small (omega arith))

pub moved_constant-requires-clause-r : goal.moved_constant-requires-clause-r
moved_constant-requires-clause-r c = times_within _ _ _ (2 ^ 18 - 1) (2 ^ 60) (2 ^ 90) c.times-5.ensures c.r.ensures.small (times_whole_within _ _ _ _ (2 ^ 30) (2 ^ 30) (2 ^ 60) c.times-d.ensures c.bottom-dy.ensures.value c.bottom-dx.ensures.small c.bottom-dy.ensures.small (omega arith)) (omega arith)

pub moved_constant-requires-clause-first : goal.moved_constant-requires-clause-first
moved_constant-requires-clause-first c = times_within _ _ _ (2 ^ 50) (2 ^ 30) (2 ^ 90) c.times-first.ensures (times_within _ _ _ (2 ^ 18 - 1) (2 ^ 30) (2 ^ 50) c.times.ensures c.p.ensures.small c.top.ensures.small (omega arith)) c.bottom-dy.ensures.small (omega arith)

pub moved_constant-requires-clause-second : goal.moved_constant-requires-clause-second
moved_constant-requires-clause-second c = times_within _ _ _ (2 ^ 50) (2 ^ 30) (2 ^ 90) c.times-second.ensures (times_within _ _ _ (2 ^ 18 - 1) (2 ^ 30) (2 ^ 50) c.times-2.ensures c.q.ensures.small c.top-2.ensures.small (omega arith)) c.bottom-dx.ensures.small (omega arith)

pub returns-clause-p : goal.returns-clause-p
returns-clause-p c = times_within _ _ _ (2 ^ 18 - 1) (2 ^ 60) (2 ^ 126) c.times-3.ensures c.p-2.ensures.small (times_whole_within _ _ _ _ (2 ^ 30) (2 ^ 30) (2 ^ 60) c.times-d.ensures c.bottom-dy.ensures.value c.bottom-dx.ensures.small c.bottom-dy.ensures.small (omega arith)) (omega arith)

pub returns-clause-q : goal.returns-clause-q
returns-clause-q c = times_within _ _ _ (2 ^ 18 - 1) (2 ^ 60) (2 ^ 126) c.times-4.ensures c.q-2.ensures.small (times_whole_within _ _ _ _ (2 ^ 30) (2 ^ 30) (2 ^ 60) c.times-d.ensures c.bottom-dy.ensures.value c.bottom-dx.ensures.small c.bottom-dy.ensures.small (omega arith)) (omega arith)

pub returns-clause-positive : goal.returns-clause-positive
returns-clause-positive c = positive_times _ _ (positive_whole c.args.tx.d c.bottom-dx.ensures.above) (positive_whole c.args.ty.d c.bottom-dy.ensures.above)
