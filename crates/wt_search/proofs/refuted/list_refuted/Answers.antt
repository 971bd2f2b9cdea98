use Rattle.wt_marker.specs.Gather.{row_of}
use Rattle.wt_marker.proofs.Gather.{gathered}
use Rattle.wt_search.specs.Light.{has_refutation}
use Rattle.wt_search.proofs.refuted.list_refuted.Goals as goal

pub loop-a-preserved : goal.loop-a-preserved
loop-a-preserved c =
    gathered (row_of (has_refutation c.args.raw.now c.args.axis) _) c.loop-a.out.items c.push_row.new.out.items _ c.loop-a.a _ c.loop-a-test.true c.loop-a.invariant c.in_ok-push_row.ensures
