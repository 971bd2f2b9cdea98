use Rattle.std.proofs.Common.{◌≡◌, ◌-◌}
use Rattle.wt_grid.specs.First.{first_from}
use Rattle.wt_pattern.specs.Validity.{stranger_at, stranger_in}
use Rattle.wt_pattern.proofs.validity.first_stranger_in.Given as goal

abbrev pub invariant-loop-x : goal.invariant-loop-x
invariant-loop-x l = first_from (stranger_at l.count l.p l.y) l.x (l.p.width - l.x) ≡ stranger_in l.count l.p l.y
