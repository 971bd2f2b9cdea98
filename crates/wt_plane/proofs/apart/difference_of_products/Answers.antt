use Rattle.std.proofs.Common.{arith, ◌^◌}
use Rattle.wt_golden.proofs.Sizes.{times_within}
use Rattle.wt_plane.proofs.apart.difference_of_products.Goals as goal

pub minus-requires-clause-left : goal.minus-requires-clause-left
minus-requires-clause-left c = times_within _ _ _ (2 ^ 39) (2 ^ 18) (2 ^ 125) c.times.ensures c.requires.x c.requires.y (omega arith)

pub minus-requires-clause-right : goal.minus-requires-clause-right
minus-requires-clause-right c = times_within _ _ _ (2 ^ 39) (2 ^ 18) (2 ^ 125) c.times-2.ensures c.requires.z c.requires.w (omega arith)
