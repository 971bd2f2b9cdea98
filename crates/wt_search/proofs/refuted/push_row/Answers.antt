use Rattle.wt_marker.specs.Gather.{pair_at}
use Rattle.wt_marker.proofs.Gather.{gathered, by_test}
use Rattle.wt_search.specs.Light.{has_refutation}
use Rattle.wt_search.proofs.refuted.push_row.Goals as goal

pub loop-b-preserved : goal.loop-b-preserved
loop-b-preserved c =
    gathered (pair_at (has_refutation c.args.raw.now c.args.axis) c.args.a) c.loop-b.out.items c.push_if.new.out.items _ c.loop-b.b c.args.count c.loop-b-test.true c.loop-b.invariant
    (by_test c.has_refutation.result _ _ c.loop-b.out.items c.push_if.new.out.items c.has_refutation.ensures c.in_ok-push_if.ensures)
