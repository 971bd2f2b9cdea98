use Rattle.std.proofs.Common.{◌≡◌, ℕ, ◌<◌, length, get_or, false}
use Rattle.wt_chain.specs.Tables.{entry}
use Rattle.wt_chain.proofs.growth.renamed.Given as goal

abbrev pub invariant-loop-t : goal.invariant-loop-t
invariant-loop-t l = record {
  whole : length l.next ≡ 256;
  filled : (k : ℕ) → k < l.t → get_or l.next k false ≡ entry l.rows (get_or l.origins k 0);
}
