use Rattle.std.proofs.Common.{length, drop, ◌+◌, ◌-◌, ◌≡◌, ◌≤◌}
use Rattle.wt_lane.specs.Differs.{first_place_apart}
use Rattle.wt_lane.proofs.rows.first_difference.Given as goal

abbrev pub invariant-loop-at : goal.invariant-loop-at
invariant-loop-at l = record {
  within : l.at ≤ length l.a;
  same : length l.a ≡ length l.b;
  left : first_place_apart l.at (drop l.at l.a) (drop l.at l.b) ≡ first_place_apart 0 l.a l.b;
}

abbrev pub decreases-loop-at : goal.decreases-loop-at
decreases-loop-at l = length l.a + 1 - l.at

abbrev pub invariant-loop-at-2 : goal.invariant-loop-at-2
invariant-loop-at-2 l = record {
  within : l.at ≤ length l.a;
  same : length l.a ≡ length l.b;
  left : first_place_apart l.at (drop l.at l.a) (drop l.at l.b) ≡ first_place_apart 0 l.a l.b;
}

abbrev pub decreases-loop-at-2 : goal.decreases-loop-at-2
decreases-loop-at-2 l = length l.a - l.at
