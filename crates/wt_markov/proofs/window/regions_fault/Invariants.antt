use Rattle.std.specs.Prelude.{◌≡◌, ◌-◌, length}
use Rattle.wt_grid.specs.First.{first_from}
use Rattle.wt_markov.specs.WindowFaults.{window_fault_at, regions_fault}
use Rattle.wt_markov.proofs.window.regions_fault.Given as goal

abbrev pub invariant-loop-i : goal.invariant-loop-i
invariant-loop-i l = first_from (window_fault_at l.raw l.p) l.i (length l.p.regions - l.i) ≡ regions_fault l.raw l.p
