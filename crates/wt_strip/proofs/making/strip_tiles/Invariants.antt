use Rattle.std.proofs.Common.{◌≡◌, ◌+◌, length}
use Rattle.wt_grid.specs.Shifts.{fill}
use Rattle.wt_strip.specs.Listed.{rows_in}
use Rattle.wt_strip.specs.Stripped.{AreFilled}
use Rattle.wt_strip.proofs.making.strip_tiles.Given as goal

abbrev pub invariant-loop-n : goal.invariant-loop-n
invariant-loop-n l = record {
  filled : AreFilled l.sides.tiles.now l.w l.made.items;
  count : length l.made.items ≡ l.n;
  left : l.room + fill (rows_in l.w) l.made.items ≡ 65536;
}
