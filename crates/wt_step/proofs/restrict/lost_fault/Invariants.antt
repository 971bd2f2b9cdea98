use Rattle.std.proofs.Common.{◌≡◌, drop}
use Rattle.wt_grid.specs.Order.{first_in}
use Rattle.wt_step.specs.Restrict.{lost_fault_at, lost_fault}
use Rattle.wt_step.proofs.restrict.lost_fault.Given as goal

abbrev pub invariant-loop-lost : goal.invariant-loop-lost
invariant-loop-lost l = first_in (lost_fault_at l.raw) (drop l.lost-index l.raw.lost) ≡ lost_fault l.raw
