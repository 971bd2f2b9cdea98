use Rattle.std.proofs.Common.{◌≡◌, ◌-◌, ◌++◌, map}
use Rattle.wt_marker.specs.Gather.{gather}
use Rattle.wt_window.specs.Surrounded.{allowed}
use Rattle.wt_marker.specs.Classes.{class_at, kept_classes}
use Rattle.wt_marker.proofs.classes.classes_by.Given as goal

abbrev pub invariant-loop-t : goal.invariant-loop-t
invariant-loop-t l = map (λ c. c.items) l.out.items ++ gather (class_at (allowed l.table) l.labels.items l.count) l.t (l.count - l.t) ≡ kept_classes l.count (allowed l.other) (allowed l.table)
