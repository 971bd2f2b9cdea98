use Rattle.std.specs.Prelude.{drop}
use Rattle.wt_torus.specs.Sound.{RegionsDirected}
use Rattle.wt_torus.proofs.known.regions_directed.Given as goal

abbrev pub invariant-loop-r : goal.invariant-loop-r
invariant-loop-r l = RegionsDirected (drop l.r-index l.regions) → RegionsDirected l.regions
