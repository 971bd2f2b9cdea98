use Rattle.std.proofs.Common.{◌≡◌, ◌≤◌, drop, min}
use Rattle.wt_chain.specs.Limits.{nodes_through}
use Rattle.wt_session.proofs.nodes.nodes_of.Given as goal

abbrev pub invariant-loop-link : goal.invariant-loop-link
invariant-loop-link l = record {
  few : l.sum ≤ 1048577;
  left : min (nodes_through l.sum (drop l.link-index l.links)) 1048577 ≡ min (nodes_through 0 l.links) 1048577;
}
