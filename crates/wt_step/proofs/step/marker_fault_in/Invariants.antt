use Rattle.std.proofs.Common.{◌≡◌, drop}
use Rattle.wt_grid.specs.Order.{first_in}
use Rattle.wt_step.specs.Faults.{marker_fault_at}
use Rattle.wt_step.proofs.step.marker_fault_in.Given as goal

abbrev pub invariant-loop-pair : goal.invariant-loop-pair
invariant-loop-pair l = first_in (marker_fault_at l.raw l.axis) (drop l.pair-index l.pairs) ≡ first_in (marker_fault_at l.raw l.axis) l.pairs
