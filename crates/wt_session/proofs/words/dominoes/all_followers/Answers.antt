use Rattle.wt_window.specs.Surrounded.{allowed}
use Rattle.wt_marker.proofs.Gather.{gathered}
use Rattle.wt_session.specs.Dominoes.{followers}
use Rattle.wt_session.proofs.words.dominoes.all_followers.Goals as goal

pub loop-a-preserved : goal.loop-a-preserved
loop-a-preserved c =
    gathered (followers (allowed c.args.table.now) c.args.count) c.loop-a.all.items c.push_followers.new.out.items _ c.loop-a.a c.args.count c.loop-a-test.true c.loop-a.invariant c.in_ok-push_followers.ensures
