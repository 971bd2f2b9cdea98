use Rattle.wt_marker.specs.Gather.{row_of}
use Rattle.wt_window.specs.Surrounded.{allowed}
use Rattle.wt_marker.specs.Derived.{is_refuted}
use Rattle.wt_marker.proofs.Gather.{gathered}
use Rattle.wt_marker.proofs.listing.list_refuted.Goals as goal

pub loop-a-preserved : goal.loop-a-preserved
loop-a-preserved c =
    gathered (row_of (is_refuted c.args.set.list.now.tiles c.args.axis (allowed c.args.table.now)) c.args.count) c.loop-a.out.items c.push_refuted.new.out.items _ c.loop-a.a c.args.count c.loop-a-test.true c.loop-a.invariant c.in_ok-push_refuted.ensures
