use Rattle.std.proofs.Common.{◌≡◌, ◌-◌, length}
use Rattle.wt_marker.specs.Gather.{fold_from}
use Rattle.wt_window.specs.Surrounded.{allowed}
use Rattle.wt_marker.specs.Classes.{join_row, labels_of}
use Rattle.wt_marker.proofs.classes.find_labels.Given as goal

abbrev pub invariant-loop-a : goal.invariant-loop-a
invariant-loop-a l = (length l.labels.items ≡ l.count) × (fold_from (join_row (allowed l.table) l.count) l.labels.items l.a (l.count - l.a) ≡ labels_of (allowed l.table) l.count)
