use Rattle.std.specs.Prelude.{◌≡◌, drop}
use Rattle.wt_plane.specs.Regions.{clash_with}
use Rattle.wt_plane.proofs.region.clash_with.Given as goal

abbrev pub invariant-loop-k : goal.invariant-loop-k
invariant-loop-k l = clash_with l.h l.g (drop l.k-index l.planes) ≡ clash_with l.h l.g l.planes
