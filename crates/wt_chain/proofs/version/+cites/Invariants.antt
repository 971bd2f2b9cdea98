use Rattle.std.proofs.Common.{◌≡◌, drop}
use Rattle.wt_refute.specs.View.{refutation, children_view}
use Rattle.wt_chain.specs.Versions.{cites, any_cites}
use Rattle.wt_chain.proofs.version.+cites.Given as goal

abbrev pub invariant-loop-child : goal.invariant-loop-child
invariant-loop-child l = any_cites (children_view (drop l.child-index l.child-items)) ≡ cites (refutation l.tree)
