use Rattle.std.proofs.Common.{arith, ◌^◌}
use Rattle.wt_golden.proofs.Sizes.{opposite_within}
use Rattle.wt_plane.proofs.apart.is_at_least_zero.Goals as goal

pub is_positive-requires : goal.is_positive-requires
is_positive-requires c = opposite_within _ _ (2 ^ 61) (2 ^ 61) c.opposite.ensures.value c.requires (omega arith)
