use Rattle.wt_window.specs.Surrounded.{allowed}
use Rattle.wt_marker.proofs.Gather.{gathered}
use Rattle.wt_session.specs.Dominoes.{follower_at}
use Rattle.wt_session.proofs.words.dominoes.push_followers.Goals as goal

pub loop-b-preserved : goal.loop-b-preserved
loop-b-preserved c =
    gathered (follower_at (allowed c.args.table.now) c.args.a) c.loop-b.out.items c.push_follower.new.out.items _ c.loop-b.b c.args.count c.loop-b-test.true c.loop-b.invariant c.in_ok-push_follower.ensures
