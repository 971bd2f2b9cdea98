use Rattle.std.proofs.Common.{◌<◌, ℕ}
use Rattle.wt_step.specs.TileMasks.{IsRowMarkedWell}
use Rattle.wt_step.proofs.lines.are_rows_marked_well.Given as goal

abbrev pub invariant-loop-a : goal.invariant-loop-a
invariant-loop-a l = (k : ℕ) → k < l.a → IsRowMarkedWell l.raw l.axis k
