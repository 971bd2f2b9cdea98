use Rattle.wt_step.proofs.Restricted.{good_restrict, no_restrict_fault}
use Rattle.wt_step.proofs.laws.good_restricts.Goals as goal

pub returns-clause-good : goal.returns-clause-good
returns-clause-good c = good_restrict

pub returns-clause-back : goal.returns-clause-back
returns-clause-back c = no_restrict_fault
