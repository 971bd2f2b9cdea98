-- How large the two parts of a whole golden number are.
use Rattle.std.specs.Prelude.{ℕ, ◌≤◌, unsigned_abs}
use Rattle.wt_golden.specs.Whole.{Whole}

-- both parts are at most m in absolute value
pub record IsBelow (x : Whole) (m : ℕ) : Type 0 where
  pub a : unsigned_abs x.a ≤ m
  pub b : unsigned_abs x.b ≤ m
