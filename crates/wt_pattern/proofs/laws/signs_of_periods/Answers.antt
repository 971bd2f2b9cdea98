use Rattle.wt_pattern.proofs.PeriodLaws.{forward_repeated, back_repeated, repeated_forward, repeated_back}
use Rattle.wt_pattern.proofs.laws.signs_of_periods.Goals as goal

pub returns-clause-forward : goal.returns-clause-forward
returns-clause-forward c = forward_repeated

pub returns-clause-back : goal.returns-clause-back
returns-clause-back c = back_repeated

pub returns-clause-from_forward : goal.returns-clause-from_forward
returns-clause-from_forward c = repeated_forward

pub returns-clause-from_back : goal.returns-clause-from_back
returns-clause-from_back c = repeated_back
