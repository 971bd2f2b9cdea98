use Rattle.std.proofs.Common.{◌≡◌, ◌-◌, ◌++◌}
use Rattle.wt_marker.specs.Gather.{gather}
use Rattle.wt_window.specs.Surrounded.{allowed}
use Rattle.wt_session.specs.Dominoes.{followers}
use Rattle.wt_session.proofs.words.dominoes.all_followers.Given as goal

abbrev pub invariant-loop-a : goal.invariant-loop-a
invariant-loop-a l = l.all.items ++ gather (followers (allowed l.table) l.count) l.a (l.count - l.a) ≡ gather (followers (allowed l.table) l.count) 0 l.count
