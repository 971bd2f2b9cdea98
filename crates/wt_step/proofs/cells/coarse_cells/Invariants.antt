use Rattle.std.proofs.Common.{◌≡◌, ◌*◌, length}
use Rattle.wt_grid.specs.Grid.{listed}
use Rattle.wt_step.specs.Blocks.{coarse_cell}
use Rattle.wt_step.proofs.cells.coarse_cells.Given as goal

abbrev pub invariant-loop-y : goal.invariant-loop-y
invariant-loop-y l = record {
  done : l.cells.items ≡ listed (l.width * l.y) (coarse_cell l.raw l.p l.index.singles.items l.index.pairs.items l.blocks l.width);
  size : length l.row.items ≡ l.width;
}
