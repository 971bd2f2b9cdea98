use Rattle.std.proofs.Common.{◌≡◌, ◌-◌, ◌++◌}
use Rattle.wt_marker.specs.Gather.{gather}
use Rattle.wt_window.specs.Surrounded.{allowed}
use Rattle.wt_session.specs.Dominoes.{line_at}
use Rattle.wt_session.proofs.words.dominoes.push_lines.Given as goal

abbrev pub invariant-loop-a : goal.invariant-loop-a
invariant-loop-a l = l.out.items ++ gather (line_at (allowed l.table) l.count) l.a (l.count - l.a) ≡ l.initial.out.items ++ gather (line_at (allowed l.table) l.count) 0 l.count
