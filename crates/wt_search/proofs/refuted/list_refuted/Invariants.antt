use Rattle.std.proofs.Common.{◌≡◌, ◌-◌, ◌++◌}
use Rattle.wt_marker.specs.Gather.{gather, row_of}
use Rattle.wt_search.specs.Light.{has_refutation, refuted_of}
use Rattle.wt_search.proofs.refuted.list_refuted.Given as goal

abbrev pub invariant-loop-a : goal.invariant-loop-a
invariant-loop-a l = l.out.items ++ gather (row_of (has_refutation l.raw l.axis) l.count) l.a (l.count - l.a) ≡ refuted_of l.raw l.axis
