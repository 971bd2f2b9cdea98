use Rattle.std.proofs.Common.{◌≡◌, ◌-◌, length}
use Rattle.wt_marker.specs.Gather.{fold_from}
use Rattle.wt_window.specs.Surrounded.{allowed}
use Rattle.wt_marker.specs.Classes.{join_at, join_row}
use Rattle.wt_marker.proofs.classes.join_row.Given as goal

abbrev pub invariant-loop-b : goal.invariant-loop-b
invariant-loop-b l = (length l.labels ≡ l.count) × (fold_from (join_at (allowed l.table) l.a) l.labels l.b (l.count - l.b) ≡ join_row (allowed l.table) l.count l.initial.labels l.a)
