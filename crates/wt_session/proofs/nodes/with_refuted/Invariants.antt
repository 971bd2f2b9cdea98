use Rattle.std.proofs.Common.{◌≡◌, ◌≤◌, drop, min}
use Rattle.wt_chain.specs.Limits.{nodes_with}
use Rattle.wt_session.proofs.nodes.with_refuted.Given as goal

abbrev pub invariant-loop-entry : goal.invariant-loop-entry
invariant-loop-entry l = record {
  few : l.sum ≤ 1048577;
  left : min (nodes_with l.sum (drop l.entry-index l.refuted)) 1048577 ≡ min (nodes_with l.nodes l.refuted) 1048577;
}
