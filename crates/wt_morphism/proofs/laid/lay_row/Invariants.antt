use Rattle.std.proofs.Common.{◌≡◌, ◌++◌}
use Rattle.wt_grid.specs.Grid.{listed}
use Rattle.wt_morphism.specs.Strands.{laid_row}
use Rattle.wt_morphism.proofs.laid.lay_row.Given as goal

abbrev pub invariant-loop-x : goal.invariant-loop-x
invariant-loop-x l = l.cells.items ≡ l.fn.cells.items ++ listed l.x (laid_row l.m l.p l.lines l.y)
