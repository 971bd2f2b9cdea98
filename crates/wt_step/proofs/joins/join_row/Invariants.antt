use Rattle.std.proofs.Common.{◌≡◌, ◌-◌, length}
use Rattle.wt_grid.specs.First.{first_from}
use Rattle.wt_step.specs.Faults.{join_fault_at, join_row}
use Rattle.wt_step.proofs.joins.join_row.Given as goal

abbrev pub invariant-loop-j : goal.invariant-loop-j
invariant-loop-j l = first_from (join_fault_at l.raw l.axis l.i) l.j (length l.raw.coarse.tiles - l.j) ≡ join_row l.raw l.axis l.i
