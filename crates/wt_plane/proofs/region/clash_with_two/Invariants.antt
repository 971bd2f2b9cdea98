use Rattle.std.specs.Prelude.{◌≡◌, drop}
use Rattle.wt_plane.specs.Regions.{clash_with_two}
use Rattle.wt_plane.proofs.region.clash_with_two.Given as goal

abbrev pub invariant-loop-i : goal.invariant-loop-i
invariant-loop-i l = clash_with_two l.h (drop l.i l.planes) ≡ clash_with_two l.h l.planes
