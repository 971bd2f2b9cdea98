use Rattle.std.proofs.Common.{◌≡◌, ℕ, ◌-◌, ◌<◌, ◌≤◌, length, true}
use Rattle.wt_grid.specs.declared.axis.Axis.TheVariants.{One}
use Rattle.wt_tile.specs.Matching.{matches}
use Rattle.wt_lane.specs.Masks.{mask_bit}
use Rattle.wt_strip.specs.Walks.{StandsBehind}
use Rattle.wt_strip.proofs.walk.behind.Given as goal

abbrev pub invariant-tiles : goal.invariant-tiles
invariant-tiles l = record {
  low : l.from ≤ 256;
  stands : (u : ℕ) → mask_bit l.mask u ≡ 1 → StandsBehind l.sides.tiles.now l.column u;
  all : (t u : ℕ) → u < length l.sides.tiles.now → t < l.from → mask_bit l.column t ≡ 1 → matches l.sides.tiles.now One t u ≡ true → mask_bit l.mask u ≡ 1;
}

abbrev pub decreases-tiles : goal.decreases-tiles
decreases-tiles l = 256 - l.from
