use Rattle.wt_check.specs.Primitive.{ArePowers, HasNoMixing}
use Rattle.wt_check.proofs.mixing.loop_power.Given as goal

abbrev pub invariant-loop-turn : goal.invariant-loop-turn
invariant-loop-turn l = record {
  masks : ArePowers l.links l.renaming l.turn l.rows;
  none : HasNoMixing l.links l.renaming l.turn;
}
