use Rattle.std.proofs.Common.{arith, ◌^◌, ◌-◌}
use Rattle.wt_golden.proofs.Sizes.{sum_within}
use Rattle.wt_plane.proofs.apart.dot.Goals as goal

pub returns-clause-small : goal.returns-clause-small
returns-clause-small c = sum_within _ _ _ _ _ (2 ^ 18 - 1) (2 ^ 18 - 1) (2 ^ 39) c.sum_of_products.ensures c.p.ensures.small c.p-2.ensures.small c.q.ensures.small c.q-2.ensures.small (omega arith)
