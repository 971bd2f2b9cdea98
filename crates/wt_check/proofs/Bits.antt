-- The mask without bits.
use Rattle.std.proofs.Common.{◌≡◌, ℕ, zero, suc, ◌/◌, ◌%◌, get_or, replicate, refl, ap, ◌∙◌}
use Rattle.std.specs.Int.{bit_at}
use Rattle.std.proofs.lemmas.Nat.Bits.{bit_at-zero}
use Rattle.wt_lane.specs.Masks.{mask_bit}

zeros_at : (n k : ℕ) → ◌≡◌ {A = ℕ} (get_or (replicate n 0) k 0) 0
zeros_at zero k = refl
zeros_at (suc n) zero = refl
zeros_at (suc n) (suc k) = zeros_at n k

pub empty_bit : (k : ℕ) → mask_bit (replicate 4 0) k ≡ 0
empty_bit k = ap (λ (w : ℕ). bit_at w (k % 64)) (zeros_at 4 (k / 64)) ∙ bit_at-zero (k % 64)
