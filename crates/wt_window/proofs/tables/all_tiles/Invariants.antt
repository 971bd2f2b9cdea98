use Rattle.std.proofs.Common.{◌≡◌, ℕ, nat_lt}
use Rattle.wt_lane.specs.Masks.{mask_bit}
use Rattle.wt_mask.specs.Masks.{bit}
use Rattle.wt_window.proofs.tables.all_tiles.Given as goal

abbrev pub invariant-loop-u : goal.invariant-loop-u
invariant-loop-u l = (u : ℕ) → mask_bit l.mask u ≡ bit (nat_lt u l.u)
