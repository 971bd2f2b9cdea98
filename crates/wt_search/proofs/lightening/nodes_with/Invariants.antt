use Rattle.std.proofs.Common.{◌≡◌, ◌≤◌, drop}
use Rattle.wt_search.specs.declared.limits.TheConstants.{MAX_NODES}
use Rattle.wt_chain.specs.Limits.{nodes_with_lost}
use Rattle.wt_search.proofs.lightening.nodes_with.Given as goal

abbrev pub invariant-loop-lost : goal.invariant-loop-lost
invariant-loop-lost l = record {
  left : nodes_with_lost l.sum (drop l.lost-index l.losses) ≡ nodes_with_lost l.nodes l.losses;
  few : l.sum ≤ MAX_NODES;
}
