use Rattle.std.proofs.Common.{◌≡◌, ◌-◌, length}
use Rattle.wt_grid.specs.First.{first_from}
use Rattle.wt_step.specs.Faults.{missing_tile_at, missing_tile}
use Rattle.wt_step.proofs.step.missing_tile.Given as goal

abbrev pub invariant-loop-u : goal.invariant-loop-u
invariant-loop-u l = first_from (missing_tile_at l.raw) l.u (length l.raw.fine.tiles - l.u) ≡ missing_tile l.raw
