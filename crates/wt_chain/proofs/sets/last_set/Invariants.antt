use Rattle.std.proofs.Common.{◌≡◌, drop}
use Rattle.wt_chain.specs.Sets.{last_set}
use Rattle.wt_chain.proofs.sets.last_set.Given as goal

abbrev pub invariant-loop-link : goal.invariant-loop-link
invariant-loop-link l = last_set l.set (drop l.link-index l.links) ≡ last_set l.first l.links
