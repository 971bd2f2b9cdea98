use Rattle.std.proofs.Common.{arith, rules}
use Rattle.std.proofs.lemmas.Grind.{common_steps}
use Rattle.wt_step.proofs.Passed.{radius_rises}
use Rattle.wt_step.proofs.walk.first_places.Goals as goal

pub returns : goal.returns
returns c = record {
  refuted = λ radius le. c.loop-radius.invariant.placed radius (omega (arith, le, c.loop-radius-test.false));
}

pub loop-radius-preserved : goal.loop-radius-preserved
loop-radius-preserved c = record {
  five = search rules;
  placed = λ r lt. grind (arith, common_steps, c.loop-radius.invariant.placed r);
  next = rw c.first_refuted-place.ensures (radius_rises c.loop-radius.radius c.args.axis c.args.raw.now.refuted);
}
