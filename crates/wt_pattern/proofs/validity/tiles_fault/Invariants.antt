use Rattle.std.proofs.Common.{◌≡◌, ◌-◌}
use Rattle.wt_grid.specs.First.{first_from}
use Rattle.wt_pattern.specs.Validity.{stranger_in, first_stranger}
use Rattle.wt_pattern.proofs.validity.tiles_fault.Given as goal

abbrev pub invariant-loop-y : goal.invariant-loop-y
invariant-loop-y l = first_from (stranger_in l.count l.p) l.y (l.p.height - l.y) ≡ first_stranger l.count l.p
