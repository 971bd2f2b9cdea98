use Rattle.wt_window.specs.Surrounded.{allowed}
use Rattle.wt_marker.specs.Demanded.{marked, single_at}
use Rattle.wt_marker.proofs.Gather.{gathered, by_test}
use Rattle.wt_marker.proofs.images.push_singles.Goals as goal

pub loop-u-preserved : goal.loop-u-preserved
loop-u-preserved c =
    gathered (single_at c.args.side (allowed c.args.table.now) (marked c.args.marks.now) c.args.count) c.loop-u.out.items c.push_if.new.out.items _ c.loop-u.u c.args.count c.loop-u-test.true c.loop-u.invariant
    (by_test c.is_single-single.result _ _ c.loop-u.out.items c.push_if.new.out.items c.is_single-single.ensures c.in_ok-push_if.ensures)
