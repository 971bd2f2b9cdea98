use Rattle.std.proofs.Common.{◌≡◌, ◌-◌, ◌*◌, ◌≤◌, length}
use Rattle.wt_strip.specs.Listed.{rows_in}
use Rattle.wt_strip.specs.Walks.{AreAlike}
use Rattle.wt_strip.specs.Gathered.{AreGathered, HasAllGathered}
use Rattle.wt_strip.proofs.gather.+gather_from.Given as goal

abbrev pub decreases-gather_from : goal.decreases-gather_from
decreases-gather_from l = l.w - l.x

abbrev pub invariant-tiles : goal.invariant-tiles
invariant-tiles l = record {
  low : l.from ≤ length l.sides.tiles.now;
  long : length l.row ≡ 64;
  same : AreAlike l.x l.row l.fn.row;
  whole : length l.cells.items ≡ rows_in l.w l.cells.items * l.w;
  gathered : AreGathered l.sides.tiles.now l.allowed l.w l.x l.from l.fn.row l.fn.cells.items l.cells.items;
  all : HasAllGathered l.sides.tiles.now l.allowed l.w l.x l.from l.fn.row l.fn.cells.items l.cells.items;
}

abbrev pub decreases-tiles : goal.decreases-tiles
decreases-tiles l = 256 - l.from
