use Rattle.std.proofs.Common.{arith, ◌^◌, ◌-◌}
use Rattle.wt_golden.proofs.Sizes.{difference_within}
use Rattle.wt_plane.proofs.apart.gap.Goals as goal

pub returns-clause-small : goal.returns-clause-small
returns-clause-small c = difference_within _ _ _ _ _ (2 ^ 39) (2 ^ 18 - 1) (2 ^ 61) c.difference_of_products.ensures c.dot.ensures.small c.r.ensures.small c.dot-2.ensures.small c.r-2.ensures.small (omega arith)
