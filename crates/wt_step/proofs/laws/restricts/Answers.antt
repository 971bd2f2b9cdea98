use Rattle.wt_step.proofs.Restricted.{good_restrict, some_kept, one_kept}
use Rattle.wt_step.proofs.laws.restricts.Goals as goal

pub returns-clause-some : goal.returns-clause-some
returns-clause-some c = λ s e p valid margin. some_kept s (good_restrict s e) p valid margin.0 margin.1

pub returns-clause-one : goal.returns-clause-one
returns-clause-one c = λ s e. one_kept s (good_restrict s e)
