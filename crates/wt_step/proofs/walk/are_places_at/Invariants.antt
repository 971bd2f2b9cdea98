use Rattle.std.proofs.Common.{◌≡◌, ◌<◌, ℕ, slice_index}
use Rattle.wt_step.specs.Walk.{refuted_place}
use Rattle.wt_step.proofs.walk.are_places_at.Given as goal

abbrev pub invariant-loop-radius : goal.invariant-loop-radius
invariant-loop-radius l = (r : ℕ) → r < l.radius → slice_index l.places.refuted r ≡ refuted_place l.raw l.axis l.a l.b r
