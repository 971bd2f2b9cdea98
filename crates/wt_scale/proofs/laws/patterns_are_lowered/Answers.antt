use Rattle.wt_scale.proofs.Lowering.{lowered}
use Rattle.wt_scale.proofs.laws.patterns_are_lowered.Goals as goal

pub returns : goal.returns
returns c = λ l e p valid side opposed dx dy room lx ly v. lowered l e p side opposed dx dy valid room.0 room.1 lx ly v
