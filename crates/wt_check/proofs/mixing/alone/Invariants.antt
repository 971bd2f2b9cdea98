use Rattle.std.proofs.Common.{◌≡◌, ℕ, ◌<◌, length, nat_eq, if◌then◌else◌}
use Rattle.wt_lane.specs.Masks.{mask_bit}
use Rattle.wt_mask.specs.Masks.{mask_at}
use Rattle.wt_check.proofs.mixing.alone.Given as goal

abbrev pub invariant-loop-t : goal.invariant-loop-t
invariant-loop-t l = record {
  whole : length l.rows ≡ 256;
  filled : (k u : ℕ) → k < l.t → mask_bit (mask_at l.rows k) u ≡ (if nat_eq u k then 1 else 0);
}
