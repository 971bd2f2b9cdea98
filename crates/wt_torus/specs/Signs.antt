-- Scaffolding: numbers whose two parts have opposite signs, and others.
use Rattle.std.specs.Prelude.{ℕ, ◌+◌, ℤ, pos, ◌<ℤ◌, ◌≤ℤ◌, ◌⊎◌, int_lt, unsigned_abs, Bool, ◌&&◌, ◌||◌, if◌then◌else◌}
use Rattle.wt_golden.specs.Whole.{Whole}

-- a + b φ
abbrev pub number_at : ℤ → ℤ → Whole
number_at a b = record { a = a; b = b }

-- the two parts have opposite signs
abbrev pub IsMixed : ℤ → ℤ → Type 0
IsMixed a b = ((pos 0 <ℤ a) × (b <ℤ pos 0)) ⊎ ((a <ℤ pos 0) × (pos 0 <ℤ b))

-- neither part is below 0, or neither is above
abbrev pub IsPlain : ℤ → ℤ → Type 0
IsPlain a b = ((pos 0 ≤ℤ a) × (pos 0 ≤ℤ b)) ⊎ ((a ≤ℤ pos 0) × (b ≤ℤ pos 0))

-- whether the two parts have opposite signs
abbrev pub has_both_signs : ℤ → ℤ → Bool
has_both_signs a b = (int_lt (pos 0) a && int_lt b (pos 0)) || (int_lt a (pos 0) && int_lt (pos 0) b)

-- how large the two parts are together, where their signs are opposite
unfoldable pub mixed_size : ℤ → ℤ → ℕ
mixed_size a b = if has_both_signs a b then unsigned_abs a + unsigned_abs b else 0
