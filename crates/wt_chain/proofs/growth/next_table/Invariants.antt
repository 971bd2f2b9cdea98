use Rattle.std.proofs.Common.{◌≡◌, ℕ, ◌<◌, length, get_or, false}
use Rattle.wt_chain.specs.Tables.{grows}
use Rattle.wt_chain.proofs.growth.next_table.Given as goal

abbrev pub invariant-loop-t : goal.invariant-loop-t
invariant-loop-t l = record {
  whole : length l.next ≡ 256;
  filled : (k : ℕ) → k < l.t → get_or l.next k false ≡ grows l.axis l.link l.rows k;
}
