use Rattle.std.proofs.Common.{◌≡◌, ◌-◌}
use Rattle.wt_grid.specs.First.{first_from}
use Rattle.wt_chain.specs.Faults.{small_at, first_small}
use Rattle.wt_chain.proofs.growth.first_small.Given as goal

abbrev pub invariant-loop-t : goal.invariant-loop-t
invariant-loop-t l = first_from (small_at l.wide l.high) l.t (l.count - l.t) ≡ first_small l.wide l.high l.count
