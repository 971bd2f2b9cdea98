use Rattle.std.proofs.Common.{◌≡◌, ◌-◌}
use Rattle.wt_grid.specs.First.{first_from}
use Rattle.wt_pattern.specs.Periods.{period_fault_in}
use Rattle.wt_pattern.proofs.periods.period_fault.Given as goal

abbrev pub invariant-loop-y : goal.invariant-loop-y
invariant-loop-y l = first_from (period_fault_in l.right l.up l.p) l.y (l.p.height - l.y) ≡ first_from (period_fault_in l.right l.up l.p) 0 l.p.height
