use Rattle.std.proofs.Common.{◌≡◌, ◌-◌, length}
use Rattle.wt_grid.specs.First.{first_from}
use Rattle.wt_step.specs.Restrict.{sorted_fault_at, sorted_fault}
use Rattle.wt_step.proofs.restrict.sorted_fault.Given as goal

abbrev pub invariant-loop-tile : goal.invariant-loop-tile
invariant-loop-tile l = first_from (sorted_fault_at l.raw) l.tile (length l.raw.fine.tiles - l.tile) ≡ sorted_fault l.raw
