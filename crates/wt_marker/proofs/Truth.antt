-- Booleans.
use Rattle.std.proofs.Common.{◌≡◌, ◌⊎◌, Bool, true, false, ◌&&◌, ◌||◌, not, refl, inl, inr}

pub not_both : (a : Bool) → a ≡ true → a ≡ false → ⊥
not_both a e f = cc
