use Rattle.std.proofs.Common.{◌≡◌, ℕ, ◌<◌, length, get_or}
use Rattle.wt_lane.specs.Masks.{mask_bit}
use Rattle.wt_mask.specs.Masks.{mask_at}
use Rattle.wt_check.proofs.mixing.renamed.Given as goal

abbrev pub invariant-loop-t : goal.invariant-loop-t
invariant-loop-t l = record {
  whole : length l.next ≡ 256;
  filled : (k u : ℕ) → k < l.t → mask_bit (mask_at l.next k) u ≡ mask_bit (mask_at l.rows (get_or l.origins k 0)) u;
}
