-- Vectors of integers as two lengths, with or without opposite signs.
use Rattle.std.proofs.Common.{◌≡◌, ℕ, zero, suc, ℤ, pos, negsuc, Bool, true, false, refl}
use Rattle.wt_grid.specs.declared.axis.Axis.{Axis}
use Rattle.wt_pattern.specs.Periods.{IsPeriodAlong}
use Rattle.wt_pattern.proofs.PeriodLaws.{forward_repeated, back_repeated, repeated_forward, repeated_back, opposite_period}
use Rattle.wt_grid.specs.Grid.{Grid}
use Rattle.wt_grid.specs.Shifts.{HasVector}
use Rattle.wt_step.specs.Carried.{magnitude, with_sign}

-- whether the components have opposite signs; 0 counts as positive
abbrev pub are_opposed : ℤ → ℤ → Bool
are_opposed (pos a) (pos b) = false
are_opposed (pos a) (negsuc b) = true
are_opposed (negsuc a) (pos b) = true
are_opposed (negsuc a) (negsuc b) = false

pub to_vector : (axis : Axis) (g : Grid) (x y : ℤ) → IsPeriodAlong axis g x y → HasVector axis (are_opposed x y) (magnitude x) (magnitude y) g
to_vector axis g (pos a) (pos b) h = forward_repeated axis g a b h
to_vector axis g (pos a) (negsuc b) h = back_repeated axis g a (suc b) h
to_vector axis g (negsuc a) (pos b) h = back_repeated axis g (suc a) b (opposite_period axis g (negsuc a) (pos b) h)
to_vector axis g (negsuc a) (negsuc b) h = forward_repeated axis g (suc a) (suc b) (opposite_period axis g (negsuc a) (negsuc b) h)

-- the vector with another length along the axis
pub from_vector : (axis : Axis) (g : Grid) (x y : ℤ) (n : ℕ) → HasVector axis (are_opposed x y) n (magnitude y) g → IsPeriodAlong axis g (with_sign x n) y
from_vector axis g (pos a) (pos b) n h = repeated_forward axis g n b h
from_vector axis g (pos a) (negsuc b) n h = repeated_back axis g n (suc b) h
from_vector axis g (negsuc a) (pos zero) n h = opposite_period axis g (pos n) (pos zero) (repeated_back axis g n zero h)
from_vector axis g (negsuc a) (pos (suc b)) n h = opposite_period axis g (pos n) (negsuc b) (repeated_back axis g n (suc b) h)
from_vector axis g (negsuc a) (negsuc b) n h = opposite_period axis g (pos n) (pos (suc b)) (repeated_forward axis g n (suc b) h)

pub own_sign : (x : ℤ) → with_sign x (magnitude x) ≡ x
own_sign (pos a) = refl
own_sign (negsuc a) = refl

pub magnitude_of : (x : ℤ) (n : ℕ) → magnitude (with_sign x n) ≡ n
magnitude_of (pos a) n = refl
magnitude_of (negsuc a) zero = refl
magnitude_of (negsuc a) (suc n) = refl
