use Rattle.std.proofs.Common.{◌≡◌, ◌-◌, ◌++◌}
use Rattle.wt_marker.specs.Gather.{gather}
use Rattle.wt_window.specs.Surrounded.{allowed}
use Rattle.wt_marker.specs.Demanded.{marked, single_at}
use Rattle.wt_marker.proofs.images.push_singles.Given as goal

abbrev pub invariant-loop-u : goal.invariant-loop-u
invariant-loop-u l = l.out.items ++ gather (single_at l.side (allowed l.table) (marked l.marks) l.count) l.u (l.count - l.u) ≡ l.initial.out.items ++ gather (single_at l.side (allowed l.table) (marked l.marks) l.count) 0 l.count
