use Rattle.std.proofs.Common.{◌≡◌, ◌++◌}
use Rattle.wt_pattern.specs.PatternRows.{from_bottom}
use Rattle.wt_pattern.proofs.cells.stacked.Given as goal

abbrev pub invariant-loop-row : goal.invariant-loop-row
invariant-loop-row l = l.cells.items ++ from_bottom l.rows.items ≡ from_bottom l.fn.rows.items

abbrev pub decreases-loop-row : goal.decreases-loop-row
decreases-loop-row l = l.rows.len
