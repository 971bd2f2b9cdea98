use Rattle.std.proofs.Common.{◌≤◌, ◌-◌}
use Rattle.wt_expand.specs.WordTables.{words_below, HasWords}
use Rattle.wt_expand.proofs.words.lay_above.Given as goal

abbrev pub invariant-loop-k : goal.invariant-loop-k
invariant-loop-k l = record {
  within : l.k ≤ l.low;
  even : HasWords l.even (words_below l.counter l.k l.space);
}

abbrev pub decreases-loop-k : goal.decreases-loop-k
decreases-loop-k l = l.low - l.k
