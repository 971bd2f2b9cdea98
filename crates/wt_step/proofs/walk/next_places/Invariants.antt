use Rattle.std.proofs.Common.{◌≡◌, ◌<◌, ◌+◌, ℕ, length, slice_index}
use Rattle.wt_step.specs.Walk.{refuted_place}
use Rattle.wt_step.proofs.walk.next_places.Given as goal

abbrev pub invariant-loop-radius : goal.invariant-loop-radius
invariant-loop-radius l = (length l.refuted ≡ 5) × ((r : ℕ) → r < l.radius → slice_index l.refuted r ≡ refuted_place l.raw l.axis l.a (l.b + 1) r)
