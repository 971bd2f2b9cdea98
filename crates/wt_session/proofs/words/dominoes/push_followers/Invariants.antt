use Rattle.std.proofs.Common.{◌≡◌, ◌-◌, ◌++◌}
use Rattle.wt_marker.specs.Gather.{gather}
use Rattle.wt_window.specs.Surrounded.{allowed}
use Rattle.wt_session.specs.Dominoes.{follower_at, followers}
use Rattle.wt_session.proofs.words.dominoes.push_followers.Given as goal

abbrev pub invariant-loop-b : goal.invariant-loop-b
invariant-loop-b l = l.out.items ++ gather (follower_at (allowed l.table) l.a) l.b (l.count - l.b) ≡ l.initial.out.items ++ followers (allowed l.table) l.count l.a
