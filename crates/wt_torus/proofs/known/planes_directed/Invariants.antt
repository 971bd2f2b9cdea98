use Rattle.std.specs.Prelude.{drop}
use Rattle.wt_plane.specs.HalfPlanes.{AllDirected}
use Rattle.wt_torus.proofs.known.planes_directed.Given as goal

abbrev pub invariant-loop-h : goal.invariant-loop-h
invariant-loop-h l = AllDirected (drop l.h-index l.planes) → AllDirected l.planes
