use Rattle.std.proofs.Common.{◌≡◌, ℕ, ◌<◌}
use Rattle.wt_lane.specs.Masks.{mask_bit}
use Rattle.wt_mask.specs.Masks.{mask_at}
use Rattle.wt_check.proofs.mixing.are_full.Given as goal

abbrev pub invariant-loop-t : goal.invariant-loop-t
invariant-loop-t l = (k u : ℕ) → k < l.t → u < l.n → mask_bit (mask_at l.rows k) u ≡ 1
