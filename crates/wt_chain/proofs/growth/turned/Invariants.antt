use Rattle.std.proofs.Common.{◌≡◌}
use Rattle.wt_chain.specs.Tables.{turns_table}
use Rattle.wt_chain.proofs.growth.turned.Given as goal

abbrev pub invariant-loop-turn : goal.invariant-loop-turn
invariant-loop-turn l = l.table ≡ turns_table l.axis l.links l.renaming l.turn
