use Rattle.std.proofs.Common.{◌≡◌, ◌≤◌, drop}
use Rattle.wt_chain.specs.Limits.{nodes_with}
use Rattle.wt_search.specs.declared.limits.TheConstants.{MAX_NODES}
use Rattle.wt_search.proofs.finding.more_nodes.Given as goal

abbrev pub invariant-loop-entry : goal.invariant-loop-entry
invariant-loop-entry l = record {
  left : nodes_with l.sum (drop l.entry-index l.refuted) ≡ nodes_with l.nodes l.refuted;
  few : l.sum ≤ MAX_NODES;
}
