use Rattle.std.proofs.Common.{◌≡◌, ℕ, ◌<◌, length, slice_index}
use Rattle.wt_grid.specs.declared.axis.Axis.TheVariants.{Two}
use Rattle.wt_tile.specs.Matching.{matches}
use Rattle.wt_strip.specs.Walks.{is_allowed}
use Rattle.wt_strip.proofs.walk.allow_upon.Given as goal

abbrev pub invariant-loop-x : goal.invariant-loop-x
invariant-loop-x l = record {
  long : length l.allowed ≡ 64;
  right : (x t : ℕ) → x < l.x → t < length l.sides.tiles.now → is_allowed l.allowed x t ≡ matches l.sides.tiles.now Two (slice_index l.p x) t;
}
