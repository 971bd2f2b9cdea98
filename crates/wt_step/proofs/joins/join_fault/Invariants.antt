use Rattle.std.proofs.Common.{◌≡◌, ◌-◌, length}
use Rattle.wt_grid.specs.First.{first_from}
use Rattle.wt_step.specs.Faults.{join_row, join_fault}
use Rattle.wt_step.proofs.joins.join_fault.Given as goal

abbrev pub invariant-loop-i : goal.invariant-loop-i
invariant-loop-i l = first_from (join_row l.raw l.axis) l.i (length l.raw.coarse.tiles - l.i) ≡ join_fault l.raw l.axis
