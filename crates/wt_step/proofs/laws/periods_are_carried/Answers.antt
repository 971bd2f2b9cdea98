use Rattle.wt_step.proofs.Goodness.{good_step}
use Rattle.wt_step.proofs.PeriodLaw.{carried}
use Rattle.wt_step.proofs.laws.periods_are_carried.Goals as goal

pub returns : goal.returns
returns c = λ s e p q v iq i opposed d m room h. carried s (good_step s e) p q v iq i opposed d m room.0 room.1 h
