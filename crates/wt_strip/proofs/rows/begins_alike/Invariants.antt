use Rattle.wt_strip.specs.Walks.{AreAlike}
use Rattle.wt_strip.proofs.rows.begins_alike.Given as goal

abbrev pub invariant-loop-x : goal.invariant-loop-x
invariant-loop-x l = AreAlike l.x l.p l.q
