use Rattle.wt_marker.specs.Gather.{pair_at}
use Rattle.wt_window.specs.Surrounded.{allowed}
use Rattle.wt_marker.proofs.Gather.{gathered, by_test}
use Rattle.wt_marker.proofs.listing.push_allowed.Goals as goal

pub loop-b-preserved : goal.loop-b-preserved
loop-b-preserved c =
    gathered (pair_at (allowed c.args.table.now) c.args.a) c.loop-b.out.items c.push_if.new.out.items _ c.loop-b.b c.args.count c.loop-b-test.true c.loop-b.invariant
    (by_test c.allows.result _ _ c.loop-b.out.items c.push_if.new.out.items c.allows.ensures c.in_ok-push_if.ensures)
