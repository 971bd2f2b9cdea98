-- How long a component is, by both definitions.
use Rattle.std.proofs.Common.{◌≡◌, ℤ, pos, negsuc, unsigned_abs, refl}
use Rattle.wt_step.specs.Carried.{magnitude}

pub same_length : (z : ℤ) → magnitude z ≡ unsigned_abs z
same_length (pos n) = refl
same_length (negsuc n) = refl
