use Rattle.std.proofs.Common.{◌≡◌, ◌≤◌, take}
use Rattle.wt_expand.specs.Counters.{counter_levels}
use Rattle.wt_expand.specs.WordTables.{longest_word}
use Rattle.wt_expand.proofs.words.low_for.Given as goal

abbrev pub invariant-loop-i : goal.invariant-loop-i
invariant-loop-i l = record {
  longest : l.longest ≡ longest_word (take l.i (counter_levels l.counter));
  short : l.longest ≤ 64;
}
