use Rattle.std.proofs.Common.{◌≡◌, ◌+◌}
use Rattle.wt_expand.specs.WordTables.{words_below, HasWords}
use Rattle.wt_expand.proofs.words.set_words.Given as goal

abbrev pub invariant-loop-t : goal.invariant-loop-t
invariant-loop-t l = record {
  made : HasWords l.table (words_below l.counter (l.k + 1) l.space);
  count : l.table.count ≡ l.t;
}
