-- Masks of bits, as words of 64 bits.
use Rattle.std.specs.Prelude.{◌≡◌, ◌<◌, ℕ, zero, suc, ◌+◌, ◌/◌, ◌%◌, List, slice_index}
use Rattle.std.specs.Int.{bit_at}

-- bit i of a mask, 1 where it is set and else 0: it stands in word i / 64, at i % 64
abbrev pub mask_bit : List ℕ → ℕ → ℕ
mask_bit a i = bit_at (slice_index a (i / 64)) (i % 64)

-- how many of the first n bits are set
unfoldable pub set_below : List ℕ → ℕ → ℕ
set_below a zero = zero
set_below a (suc n) = set_below a n + mask_bit a n

-- no bit of a mask is set
abbrev pub IsEmptyMask : List ℕ → Type 0
IsEmptyMask a = (i : ℕ) → mask_bit a i ≡ 0

-- bit n of a mask is set, and none below it is
abbrev pub IsLowestBit : List ℕ → ℕ → Type 0
IsLowestBit a n = (n < 256) × (mask_bit a n ≡ 1) × ((i : ℕ) → i < n → mask_bit a i ≡ 0)
