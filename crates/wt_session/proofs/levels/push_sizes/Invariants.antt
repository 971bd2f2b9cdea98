use Rattle.std.proofs.Common.{◌≡◌, ◌++◌, drop}
use Rattle.wt_check.specs.Texts.{sizes_behind}
use Rattle.wt_session.proofs.levels.push_sizes.Given as goal

abbrev pub invariant-loop-link : goal.invariant-loop-link
invariant-loop-link l = l.out.items ++ sizes_behind (drop l.link-index l.links) ≡ l.initial.out.items ++ sizes_behind l.links
