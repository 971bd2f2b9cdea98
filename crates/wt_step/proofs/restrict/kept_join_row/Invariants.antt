use Rattle.std.proofs.Common.{◌≡◌, ◌-◌, length}
use Rattle.wt_grid.specs.First.{first_from}
use Rattle.wt_step.specs.Restrict.{kept_join_at, kept_join_row}
use Rattle.wt_step.proofs.restrict.kept_join_row.Given as goal

abbrev pub invariant-loop-j : goal.invariant-loop-j
invariant-loop-j l = first_from (kept_join_at l.raw l.axis l.i) l.j (length l.raw.coarse.tiles - l.j) ≡ kept_join_row l.raw l.axis l.i
