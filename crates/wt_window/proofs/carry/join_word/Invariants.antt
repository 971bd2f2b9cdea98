use Rattle.std.proofs.Common.{◌≡◌, ◌<◌, ◌+◌, ℕ, length}
use Rattle.std.specs.Int.{bit_at}
use Rattle.wt_lane.specs.Masks.{mask_bit}
use Rattle.wt_mask.specs.Masks.{mask_at}
use Rattle.wt_window.proofs.carry.join_word.Given as goal

abbrev pub invariant-bits : goal.invariant-bits
invariant-bits l = record {
  old : (u : ℕ) → mask_bit l.fn.all u ≡ 1 → mask_bit l.all u ≡ 1;
  joined : (j u : ℕ) → j < 64 → l.first + j < length l.table → bit_at l.word j ≡ 1 → bit_at l.rest j ≡ 0 → mask_bit (mask_at l.table (l.first + j)) u ≡ 1 → mask_bit l.all u ≡ 1;
}

abbrev pub decreases-bits : goal.decreases-bits
decreases-bits l = l.rest
