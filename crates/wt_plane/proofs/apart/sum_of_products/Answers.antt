use Rattle.std.proofs.Common.{arith, ◌^◌}
use Rattle.wt_golden.proofs.Sizes.{times_within}
use Rattle.wt_plane.proofs.apart.sum_of_products.Goals as goal

pub plus-requires-clause-left : goal.plus-requires-clause-left
plus-requires-clause-left c = times_within _ _ _ (2 ^ 39) (2 ^ 18) (2 ^ 125) c.times.ensures c.requires.x c.requires.y (omega arith)

pub plus-requires-clause-right : goal.plus-requires-clause-right
plus-requires-clause-right c = times_within _ _ _ (2 ^ 39) (2 ^ 18) (2 ^ 125) c.times-2.ensures c.requires.z c.requires.w (omega arith)
