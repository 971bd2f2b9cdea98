use Rattle.std.proofs.Common.{◌≡◌, ◌-◌, ◌++◌}
use Rattle.wt_marker.specs.Gather.{gather, row_of, pair_at}
use Rattle.wt_search.specs.Light.{has_refutation}
use Rattle.wt_search.proofs.refuted.push_row.Given as goal

abbrev pub invariant-loop-b : goal.invariant-loop-b
invariant-loop-b l = l.out.items ++ gather (pair_at (has_refutation l.raw l.axis) l.a) l.b (l.count - l.b) ≡ l.initial.out.items ++ row_of (has_refutation l.raw l.axis) l.count l.a
