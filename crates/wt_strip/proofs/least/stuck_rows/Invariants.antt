use Rattle.std.proofs.Common.{◌≡◌, ◌<◌, ◌+◌, ℕ, [], length, slice_index_or}
use Rattle.wt_strip.specs.Stripped.{AreStuckUnder}
use Rattle.wt_strip.proofs.least.stuck_rows.Given as goal

abbrev pub invariant-loop-m : goal.invariant-loop-m
invariant-loop-m l = record {
  long : length l.stuck.items ≡ l.m + 1;
  told : (m : ℕ) → m < l.m + 1 → AreStuckUnder l.sides.tiles.now l.w (length l.made) m (slice_index_or l.stuck.items m []);
}
