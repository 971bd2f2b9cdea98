use Rattle.std.proofs.Common.{◌≡◌, length, take}
use Rattle.wt_strip.proofs.Leasts.{IsBegun}
use Rattle.wt_strip.proofs.least.least_pattern.Given as goal

abbrev pub invariant-loop-y : goal.invariant-loop-y
invariant-loop-y l = record {
  long : length l.row ≡ 64;
  begun : IsBegun l.sides.tiles.now l.w (length l.made) l.y (take l.w l.row) l.cells.items;
}
