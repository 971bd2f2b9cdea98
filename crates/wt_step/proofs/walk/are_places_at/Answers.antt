use Rattle.std.proofs.Common.{arith}
use Rattle.wt_step.proofs.walk.are_places_at.Goals as goal

pub returns : goal.returns
returns c = record { refuted = λ radius le. c.loop-radius.invariant radius (omega (arith, le, c.loop-radius-test.false)) }
