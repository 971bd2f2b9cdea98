use Rattle.std.proofs.Common.{◌≡◌, ◌-◌, ◌+◌}
use Rattle.wt_grid.specs.First.{first_from}
use Rattle.wt_step.specs.Faults.{tree_fault_at, trees_fault}
use Rattle.wt_step.proofs.walk.trees_fault.Given as goal

abbrev pub invariant-loop-radius : goal.invariant-loop-radius
invariant-loop-radius l = first_from (tree_fault_at l.raw l.axis l.a l.b) l.radius (l.raw.radius + 1 - l.radius) ≡ trees_fault l.raw l.axis l.a l.b
