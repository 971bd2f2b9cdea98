use Rattle.std.proofs.Common.{◌≡◌, ℕ, ◌<◌, length, slice_index}
use Rattle.wt_grid.specs.declared.axis.Axis.TheVariants.{Two}
use Rattle.wt_tile.specs.Matching.{matches}
use Rattle.wt_strip.proofs.leads.lead_row.Given as goal

abbrev pub invariant-loop-x : goal.invariant-loop-x
invariant-loop-x l = record {
  long : length l.leads ≡ 64;
  right : (x t : ℕ) → x < l.x → matches l.sides.tiles.now Two (slice_index l.leads x) t ≡ matches l.sides.tiles.now Two (slice_index l.p x) t;
}
