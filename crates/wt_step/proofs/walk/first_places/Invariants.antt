use Rattle.std.proofs.Common.{◌≡◌, ◌<◌, ◌≤◌, ℕ, length, slice_index}
use Rattle.wt_step.specs.Walk.{refuted_place}
use Rattle.wt_step.proofs.walk.first_places.Given as goal

abbrev pub invariant-loop-radius : goal.invariant-loop-radius
invariant-loop-radius l = record {
  five : length l.refuted ≡ 5;
  placed : (r : ℕ) → r < l.radius → slice_index l.refuted r ≡ refuted_place l.raw l.axis 0 0 r;
  next : l.place ≤ refuted_place l.raw l.axis 0 0 l.radius;
}
