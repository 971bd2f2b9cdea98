use Rattle.std.proofs.Common.{◌≡◌, ℕ, ◌-◌, ◌<◌, ◌≤◌, length, true}
use Rattle.wt_grid.specs.declared.axis.Axis.TheVariants.{One}
use Rattle.wt_tile.specs.Matching.{matches}
use Rattle.wt_strip.specs.Walks.{column_allows}
use Rattle.wt_strip.proofs.walk.before.Given as goal

abbrev pub invariant-tiles : goal.invariant-tiles
invariant-tiles l = record {
  low : l.from ≤ 256;
  joined : (t u : ℕ) → t < length l.sides.tiles.now → u < l.from → column_allows l.next u ≡ true → matches l.sides.tiles.now One t u ≡ true → column_allows l.mask t ≡ true;
}

abbrev pub decreases-tiles : goal.decreases-tiles
decreases-tiles l = 256 - l.from
