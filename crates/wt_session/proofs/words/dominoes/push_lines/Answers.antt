use Rattle.wt_window.specs.Surrounded.{allowed}
use Rattle.wt_marker.proofs.Gather.{gathered}
use Rattle.wt_session.specs.Dominoes.{line_at}
use Rattle.wt_session.proofs.words.dominoes.push_lines.Goals as goal

pub loop-a-preserved : goal.loop-a-preserved
loop-a-preserved c =
    gathered (line_at (allowed c.args.table.now) c.args.count) c.loop-a.out.items c.push_line.new.out.items _ c.loop-a.a c.args.count c.loop-a-test.true c.loop-a.invariant c.in_ok-push_line.ensures
