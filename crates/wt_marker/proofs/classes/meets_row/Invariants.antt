use Rattle.std.proofs.Common.{◌≡◌, ◌-◌}
use Rattle.wt_marker.specs.Gather.{any_from}
use Rattle.wt_window.specs.Surrounded.{allowed}
use Rattle.wt_marker.specs.Classes.{meets_at}
use Rattle.wt_marker.proofs.classes.meets_row.Given as goal

abbrev pub invariant-loop-a : goal.invariant-loop-a
invariant-loop-a l = any_from (meets_at (allowed l.table) l.labels l.t l.inside l.b) l.a (l.count - l.a) ≡ any_from (meets_at (allowed l.table) l.labels l.t l.inside l.b) 0 l.count
