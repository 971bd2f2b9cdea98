use Rattle.wt_marker.specs.Gather.{row_of}
use Rattle.wt_window.specs.Surrounded.{allowed}
use Rattle.wt_marker.proofs.Gather.{gathered}
use Rattle.wt_marker.proofs.listing.list_allowed.Goals as goal

pub loop-a-preserved : goal.loop-a-preserved
loop-a-preserved c =
    gathered (row_of (allowed c.args.table.now) c.args.count) c.loop-a.out.items c.push_allowed.new.out.items _ c.loop-a.a c.args.count c.loop-a-test.true c.loop-a.invariant c.in_ok-push_allowed.ensures
