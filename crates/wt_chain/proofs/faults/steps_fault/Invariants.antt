use Rattle.std.proofs.Common.{◌≡◌, drop, option_map}
use Rattle.wt_chain.specs.Faults.{steps_fault_from, steps_fault}
use Rattle.wt_chain.proofs.faults.steps_fault.Given as goal

abbrev pub invariant-loop-k : goal.invariant-loop-k
invariant-loop-k l = steps_fault_from l.k (option_map (λ set. set.now) l.before) (drop l.k l.links) ≡ steps_fault l.links
