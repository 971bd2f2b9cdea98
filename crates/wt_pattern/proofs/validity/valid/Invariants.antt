use Rattle.std.proofs.Common.{◌≡◌, ◌-◌}
use Rattle.wt_grid.specs.First.{first_from}
use Rattle.wt_pattern.specs.Validity.{fault_in, first_fault}
use Rattle.wt_pattern.proofs.validity.valid.Given as goal

abbrev pub invariant-loop-y : goal.invariant-loop-y
invariant-loop-y l = first_from (fault_in l.colours.tiles.now l.p) l.y (l.p.height - l.y) ≡ first_fault l.colours.tiles.now l.p
