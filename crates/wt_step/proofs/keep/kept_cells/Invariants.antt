use Rattle.std.proofs.Common.{◌≡◌, ◌*◌, length}
use Rattle.wt_grid.specs.Grid.{listed}
use Rattle.wt_step.specs.Blocks.{kept_cell}
use Rattle.wt_step.proofs.keep.kept_cells.Given as goal

abbrev pub invariant-loop-y : goal.invariant-loop-y
invariant-loop-y l = record {
  done : l.cells.items ≡ listed (l.width * l.y) (kept_cell l.raw l.p l.places l.width);
  size : length l.row.items ≡ l.width;
}
