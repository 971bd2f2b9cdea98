use Rattle.std.proofs.Common.{◌≡◌, ◌-◌, ◌++◌}
use Rattle.wt_marker.specs.Gather.{gather, row_of, pair_at}
use Rattle.wt_window.specs.Surrounded.{allowed}
use Rattle.wt_marker.specs.Derived.{is_refuted}
use Rattle.wt_marker.proofs.listing.push_refuted.Given as goal

abbrev pub invariant-loop-b : goal.invariant-loop-b
invariant-loop-b l = l.out.items ++ gather (pair_at (is_refuted l.set.list.now.tiles l.axis (allowed l.table)) l.a) l.b (l.count - l.b) ≡ l.initial.out.items ++ row_of (is_refuted l.set.list.now.tiles l.axis (allowed l.table)) l.count l.a
