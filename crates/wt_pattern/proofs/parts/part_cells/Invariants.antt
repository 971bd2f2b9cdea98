use Rattle.std.proofs.Common.{◌≡◌, ◌*◌}
use Rattle.wt_grid.specs.Grid.{listed}
use Rattle.wt_pattern.proofs.PartCells.{part_cell}
use Rattle.wt_pattern.proofs.parts.part_cells.Given as goal

abbrev pub invariant-loop-j : goal.invariant-loop-j
invariant-loop-j l = l.cells.items ≡ listed (l.w * l.j) (part_cell l.p l.x l.y l.w)
