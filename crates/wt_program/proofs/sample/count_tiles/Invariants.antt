use Rattle.std.proofs.Common.{◌≡◌, ℕ, ◌<◌, length, take, get_or}
use Rattle.wt_check.specs.Powers.{units}
use Rattle.wt_program.proofs.sample.count_tiles.Given as goal

abbrev pub invariant-loop-cell : goal.invariant-loop-cell
invariant-loop-cell l = record {
  whole : length l.counts ≡ 256;
  counted : (u : ℕ) → u < 256 → get_or l.counts u 0 ≡ units u (take l.cell-index l.cells);
}
