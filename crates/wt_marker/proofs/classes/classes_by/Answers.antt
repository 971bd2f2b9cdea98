use Rattle.std.proofs.Common.{map}
use Rattle.wt_window.specs.Surrounded.{allowed}
use Rattle.wt_marker.specs.Classes.{class_at}
use Rattle.wt_marker.proofs.Gather.{gathered}
use Rattle.wt_marker.proofs.classes.classes_by.Goals as goal

pub loop-t-preserved : goal.loop-t-preserved
loop-t-preserved c =
    gathered (class_at (allowed c.args.table.now) c.in_ok-labels.labels.items c.args.count) (map (λ c. c.items) c.loop-t.out.items) (map (λ c. c.items) c.push_kept.new.out.items) _ c.loop-t.t c.args.count c.loop-t-test.true c.loop-t.invariant
    (rw c.deref.ensures.value at (c.in_ok-push_kept.ensures {u = tt}))
