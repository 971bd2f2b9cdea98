use Rattle.std.proofs.Common.{◌≡◌, ◌++◌, ◌-◌, length, slice_index_or, None}
use Rattle.wt_grid.specs.Grid.{listed}
use Rattle.wt_grid.specs.First.{first_from}
use Rattle.wt_torus.specs.Cells.{place_fault, place_label, line_fault}
use Rattle.wt_torus.proofs.coding.push_row.Given as goal

abbrev pub invariant-loop-i : goal.invariant-loop-i
invariant-loop-i l = record {
  cells : l.cells.items ≡ l.fn.cells.items ++ listed l.i (place_label l.p l.xs (slice_index_or l.ys l.j None));
  none : first_from (place_fault l.p l.xs (slice_index_or l.ys l.j None) l.j) l.i (length l.xs - l.i) ≡ line_fault l.p l.xs l.ys l.j;
}
