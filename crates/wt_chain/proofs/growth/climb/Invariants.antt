use Rattle.std.proofs.Common.{◌≡◌, drop, length}
use Rattle.wt_chain.specs.Tables.{climb}
use Rattle.wt_chain.proofs.growth.climb.Given as goal

abbrev pub invariant-loop-link : goal.invariant-loop-link
invariant-loop-link l = climb l.axis (drop l.link-index l.links) l.table ≡ climb l.axis l.links l.rows
