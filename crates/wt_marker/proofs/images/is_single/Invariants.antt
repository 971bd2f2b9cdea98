use Rattle.std.proofs.Common.{◌≡◌, ◌-◌}
use Rattle.wt_marker.specs.Gather.{any_from}
use Rattle.wt_window.specs.Surrounded.{allowed}
use Rattle.wt_marker.specs.Demanded.{marked, is_free_at}
use Rattle.wt_marker.proofs.images.is_single.Given as goal

abbrev pub invariant-loop-v : goal.invariant-loop-v
invariant-loop-v l = any_from (is_free_at l.side (allowed l.table) (marked l.marks) l.u) l.v (l.count - l.v) ≡ any_from (is_free_at l.side (allowed l.table) (marked l.marks) l.u) 0 l.count
