use Rattle.std.proofs.Common.{◌≡◌, ℕ, ◌<◌, length}
use Rattle.wt_lane.specs.Masks.{mask_bit}
use Rattle.wt_chain.specs.Growth.{image_of}
use Rattle.wt_check.specs.Masks.{image_bit}
use Rattle.wt_mask.specs.Masks.{mask_at}
use Rattle.wt_check.proofs.mixing.next_masks.Given as goal

abbrev pub invariant-loop-t : goal.invariant-loop-t
invariant-loop-t l = record {
  whole : length l.next ≡ 256;
  filled : (k u : ℕ) → k < l.t → mask_bit (mask_at l.next k) u ≡ image_bit l.rows u (image_of l.link k);
}
