use Rattle.std.proofs.Common.{◌≡◌, ◌≤◌, drop, min}
use Rattle.wt_chain.specs.Limits.{nodes_with_lost}
use Rattle.wt_session.proofs.nodes.with_lost.Given as goal

abbrev pub invariant-loop-entry : goal.invariant-loop-entry
invariant-loop-entry l = record {
  few : l.sum ≤ 1048577;
  left : min (nodes_with_lost l.sum (drop l.entry-index l.lost)) 1048577 ≡ min (nodes_with_lost l.nodes l.lost) 1048577;
}
