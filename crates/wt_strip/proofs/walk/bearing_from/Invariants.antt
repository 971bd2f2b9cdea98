use Rattle.std.proofs.Common.{ℕ, ◌-◌, ◌<◌, ◌≤◌}
use Rattle.wt_strip.specs.Listed.{rows_in, row_at}
use Rattle.wt_strip.specs.Walks.{CanBear}
use Rattle.wt_strip.proofs.walk.bearing_from.Given as goal

abbrev pub invariant-rows : goal.invariant-rows
invariant-rows l = record {
  from : l.r ≤ l.at;
  within : l.at ≤ rows_in l.w l.below;
  passed : (s : ℕ) → l.r ≤ s → s < l.at → CanBear l.sides.tiles.now l.w (row_at l.w l.below s) → ⊥;
}

abbrev pub decreases-rows : goal.decreases-rows
decreases-rows l = rows_in l.w l.below - l.at
