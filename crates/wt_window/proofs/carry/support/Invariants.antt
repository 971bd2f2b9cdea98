use Rattle.std.proofs.Common.{◌≡◌, ◌<◌, ◌*◌, ℕ, length}
use Rattle.wt_lane.specs.Masks.{mask_bit}
use Rattle.wt_mask.specs.Masks.{mask_at}
use Rattle.wt_window.proofs.carry.support.Given as goal

abbrev pub invariant-loop-word : goal.invariant-loop-word
invariant-loop-word l = (t u : ℕ) → t < 64 * l.word → t < length l.table → mask_bit l.mask t ≡ 1 → mask_bit (mask_at l.table t) u ≡ 1 → mask_bit l.all u ≡ 1
