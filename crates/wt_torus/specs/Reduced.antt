-- What a coordinate after some turns is: moved on by them, and less some whole lengths.
use Rattle.std.specs.Prelude.{◌≡◌, ℕ, pos}
use Rattle.wt_golden.specs.Whole.{Whole, whole, plus, times}
use Rattle.wt_torus.specs.Rotation.{IsInside, orbit}

-- t after i turns is inside the length, and is t + i m less a number of whole lengths
pub record IsReduced (length move t : Whole) (i : ℕ) : Type 0 where
  pub inside : IsInside length (orbit length move t i)
  pub lengths : ℕ
  pub moved : plus (orbit length move t i) (times length (whole (pos lengths))) ≡ plus t (times move (whole (pos i)))
