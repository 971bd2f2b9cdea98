use Rattle.std.proofs.Common.{◌≡◌, ◌-◌}
use Rattle.wt_marker.specs.Gather.{any_from}
use Rattle.wt_window.specs.Surrounded.{allowed}
use Rattle.wt_marker.specs.Classes.{meets_row, meets}
use Rattle.wt_marker.proofs.classes.meets.Given as goal

abbrev pub invariant-loop-b : goal.invariant-loop-b
invariant-loop-b l = any_from (meets_row (allowed l.table) l.labels l.count l.t l.inside) l.b (l.count - l.b) ≡ meets (allowed l.table) l.labels l.count l.t l.inside
