use Rattle.wt_marker.specs.Gather.{pair_at}
use Rattle.wt_window.specs.Surrounded.{allowed}
use Rattle.wt_marker.specs.Derived.{is_refuted}
use Rattle.wt_marker.proofs.Gather.{gathered, by_test}
use Rattle.wt_marker.proofs.listing.push_refuted.Goals as goal

pub loop-b-preserved : goal.loop-b-preserved
loop-b-preserved c =
    gathered (pair_at (is_refuted c.args.set.list.now.tiles c.args.axis (allowed c.args.table.now)) c.args.a) c.loop-b.out.items c.push_if.new.out.items _ c.loop-b.b c.args.count c.loop-b-test.true c.loop-b.invariant
    (by_test c.is_refuted.result _ _ c.loop-b.out.items c.push_if.new.out.items c.is_refuted.ensures c.in_ok-push_if.ensures)
