use Rattle.wt_pattern.proofs.PeriodLaws.{opposite_period, turned_period, turned_back as back}
use Rattle.wt_pattern.proofs.laws.period_turns.Goals as goal

pub returns-clause-opposite : goal.returns-clause-opposite
returns-clause-opposite c = opposite_period

pub returns-clause-turned : goal.returns-clause-turned
returns-clause-turned c = turned_period

pub returns-clause-turned_back : goal.returns-clause-turned_back
returns-clause-turned_back c = back
