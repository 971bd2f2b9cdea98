use Rattle.std.proofs.Common.{◌≡◌, ◌-◌, ◌++◌}
use Rattle.wt_marker.specs.Gather.{gather, row_of, pairs_of}
use Rattle.wt_window.specs.Surrounded.{allowed}
use Rattle.wt_marker.specs.Derived.{is_refuted}
use Rattle.wt_marker.proofs.listing.list_refuted.Given as goal

abbrev pub invariant-loop-a : goal.invariant-loop-a
invariant-loop-a l = l.out.items ++ gather (row_of (is_refuted l.set.list.now.tiles l.axis (allowed l.table)) l.count) l.a (l.count - l.a) ≡ pairs_of (is_refuted l.set.list.now.tiles l.axis (allowed l.table)) l.count
