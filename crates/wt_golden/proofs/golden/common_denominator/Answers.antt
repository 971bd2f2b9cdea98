use Rattle.std.proofs.Common.{arith}
use Rattle.wt_golden.proofs.Products.{mul_above}
use Rattle.wt_golden.proofs.golden.common_denominator.Goals as goal

pub returns-clause-above : goal.returns-clause-above
returns-clause-above c = grind (arith, mul_above)
