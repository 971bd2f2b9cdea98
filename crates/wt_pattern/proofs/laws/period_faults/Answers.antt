use Rattle.wt_pattern.proofs.PeriodLaws.{is_period, no_period_fault}
use Rattle.wt_pattern.proofs.laws.period_faults.Goals as goal

pub returns-clause-sound : goal.returns-clause-sound
returns-clause-sound c = is_period

pub returns-clause-complete : goal.returns-clause-complete
returns-clause-complete c = no_period_fault
