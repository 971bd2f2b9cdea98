use Rattle.std.proofs.Common.{◌≡◌, ◌+◌, ◌-◌}
use Rattle.wt_marker.specs.Gather.{any_from}
use Rattle.wt_search.specs.Light.{has_refutation_at, has_refutation}
use Rattle.wt_search.proofs.refuted.has_refutation.Given as goal

abbrev pub invariant-loop-radius : goal.invariant-loop-radius
invariant-loop-radius l = any_from (has_refutation_at l.raw.refuted l.axis l.a l.b) l.radius (l.raw.radius + 1 - l.radius) ≡ has_refutation l.raw l.axis l.a l.b
