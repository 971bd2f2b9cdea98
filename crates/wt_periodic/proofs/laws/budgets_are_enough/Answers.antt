use Rattle.std.proofs.Common.{arith}
use Rattle.wt_periodic.proofs.laws.budgets_are_enough.Goals as goal

pub returns : goal.returns
returns c = λ ts limit budget w h enough s. let few = enough w h s.size in let over = s.over in absurd (omega (arith, few, over))
