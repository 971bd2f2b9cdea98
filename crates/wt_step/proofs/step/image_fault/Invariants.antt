use Rattle.std.proofs.Common.{◌≡◌, ◌-◌, length}
use Rattle.wt_grid.specs.First.{first_from}
use Rattle.wt_step.specs.Faults.{image_fault_at, image_fault}
use Rattle.wt_step.proofs.step.image_fault.Given as goal

abbrev pub invariant-loop-i : goal.invariant-loop-i
invariant-loop-i l = first_from (image_fault_at l.raw) l.i (length l.raw.images - l.i) ≡ image_fault l.raw
