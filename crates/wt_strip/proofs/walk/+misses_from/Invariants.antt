use Rattle.std.proofs.Common.{◌≡◌, ℕ, ◌-◌, ◌<◌, ◌≤◌, List, length, slice_index}
use Rattle.wt_strip.specs.Listed.{IsListed}
use Rattle.wt_strip.specs.Walks.{IsWay, AreAlike}
use Rattle.wt_strip.proofs.walk.+misses_from.Given as goal

abbrev pub decreases-misses_from : goal.decreases-misses_from
decreases-misses_from l = l.w - l.x

abbrev pub invariant-tiles : goal.invariant-tiles
invariant-tiles l = record {
  low : l.from ≤ length l.sides.tiles.now;
  long : length l.row ≡ 64;
  same : AreAlike l.x l.row l.fn.row;
  none : (q : List ℕ) → length q ≡ l.w → IsWay l.sides.tiles.now l.allowed l.w q → AreAlike l.x q l.fn.row → slice_index q l.x < l.from → IsListed l.w l.cells q;
}

abbrev pub decreases-tiles : goal.decreases-tiles
decreases-tiles l = 256 - l.from
