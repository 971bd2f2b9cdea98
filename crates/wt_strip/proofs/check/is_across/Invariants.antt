use Rattle.std.proofs.Common.{◌≡◌, ◌<◌, ◌≤◌, ℕ, suc, true, slice_index}
use Rattle.wt_grid.specs.declared.axis.Axis.TheVariants.{One}
use Rattle.wt_tile.specs.Matching.{matches}
use Rattle.wt_strip.proofs.check.is_across.Given as goal

abbrev pub invariant-loop-x : goal.invariant-loop-x
invariant-loop-x l = record {
  some : 1 ≤ l.x;
  across : (k : ℕ) → suc k < l.x → matches l.tiles One (slice_index l.q k) (slice_index l.q (suc k)) ≡ true;
}
