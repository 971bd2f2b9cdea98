use Rattle.std.proofs.Common.{◌≡◌, ◌*◌, ◌-◌, length}
use Rattle.wt_grid.specs.Grid.{listed}
use Rattle.wt_grid.specs.First.{first_from}
use Rattle.wt_torus.specs.Cells.{line_fault, index_label}
use Rattle.wt_torus.proofs.coding.labels.Given as goal

abbrev pub invariant-loop-j : goal.invariant-loop-j
invariant-loop-j l = record {
  cells : l.cells.items ≡ listed (l.j * length l.xs) (index_label l.p l.xs l.ys (length l.xs));
  none : first_from (line_fault l.p l.xs l.ys) l.j (length l.ys - l.j) ≡ first_from (line_fault l.p l.xs l.ys) 0 (length l.ys);
}
