use Rattle.std.proofs.Common.{◌≡◌, ◌-◌}
use Rattle.wt_grid.specs.First.{first_from}
use Rattle.wt_pattern.specs.Validity.{fault_at}
use Rattle.wt_pattern.proofs.validity.fault_from.Given as goal

abbrev pub invariant-loop-x : goal.invariant-loop-x
invariant-loop-x l = first_from (fault_at l.tiles l.p l.y) l.x (l.p.width - l.x) ≡ first_from (fault_at l.tiles l.p l.y) l.from (l.p.width - l.from)
