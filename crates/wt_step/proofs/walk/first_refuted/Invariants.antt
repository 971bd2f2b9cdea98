use Rattle.std.proofs.Common.{◌≤◌, ◌-◌, length}
use Rattle.wt_step.specs.Walk.{refuted_place}
use Rattle.wt_step.proofs.walk.first_refuted.Given as goal

abbrev pub invariant-loop-place : goal.invariant-loop-place
invariant-loop-place l = l.place ≤ refuted_place l.raw l.axis 0 0 l.radius

abbrev pub decreases-loop-place : goal.decreases-loop-place
decreases-loop-place l = length l.raw.refuted - l.place
