use Rattle.std.specs.Prelude.{◌≡◌, drop}
use Rattle.wt_grid.specs.Order.{first_in}
use Rattle.wt_markov.specs.WindowFaults.{nowhere_at}
use Rattle.wt_markov.proofs.window.nowhere.Given as goal

abbrev pub invariant-loop-marker : goal.invariant-loop-marker
invariant-loop-marker l = first_in (nowhere_at l.raw l.p) (drop l.marker-index l.raw.markers) ≡ first_in (nowhere_at l.raw l.p) l.raw.markers
