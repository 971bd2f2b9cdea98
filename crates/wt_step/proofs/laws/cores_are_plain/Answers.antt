use Rattle.wt_step.proofs.Goodness.{good_step}
use Rattle.wt_step.proofs.Cores.{core_allowed}
use Rattle.wt_step.proofs.Restricted.{good_restrict, core_kept}
use Rattle.wt_step.proofs.laws.cores_are_plain.Goals as goal

pub returns-clause-allowed : goal.returns-clause-allowed
returns-clause-allowed c = λ s e p h. core_allowed s (good_step s e) p h.1 h.2

pub returns-clause-kept : goal.returns-clause-kept
returns-clause-kept c = λ s e. core_kept s (good_restrict s e)
