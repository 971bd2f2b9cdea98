-- Rotations of a circle: a coordinate is moved on, and taken back by the circle's length where it comes to that.
use Rattle.std.specs.Prelude.{◌≡◌, ◌⊎◌, ℕ, zero, suc, pos, ◌+◌, Bool, true, false, not, if◌then◌else◌}
use Rattle.wt_golden.specs.Whole.{Whole, whole, plus, minus, is_positive}

-- at least 0, and below the length
abbrev pub IsInside : Whole → Whole → Type 0
IsInside length t = ((t ≡ whole (pos 0)) ⊎ (is_positive t ≡ true)) × (is_positive (minus length t) ≡ true)

-- a coordinate after one turn
abbrev pub step : Whole → Whole → Whole → Whole
step length move t = if is_positive (minus length (plus t move)) then plus t move else minus (plus t move) length

-- after n turns
abbrev pub orbit : Whole → Whole → Whole → ℕ → Whole
orbit length move t zero = t
orbit length move t (suc n) = orbit length move (step length move t) n

-- The window of a rotation: the coordinates below its size, the move of the rotation that first returns make on it, and the
-- bound between those that return after one turn and those that return after two.
pub record Window : Type 0 where
  pub size : Whole
  pub move : Whole
  pub bound : Whole
  pub single_below : Bool

-- for a move of less than half of the length, and for one of more
abbrev pub window : Whole → Whole → Window
window length move =
    if is_positive (minus length (plus move move))
    then record { size = minus length move; move = move; bound = minus length (plus move move); single_below = true }
    else record { size = move; move = minus (plus move move) length; bound = minus length move; single_below = false }

-- after how many turns a coordinate of the window is back in it
abbrev pub turns : Whole → Whole → Whole → Whole → ℕ
turns size length move t = if is_positive (minus size (step length move t)) then 1 else 2

-- the turns up to the n-th return
abbrev pub returns : Window → Whole → Whole → Whole → ℕ → ℕ
returns w length move t zero = 0
returns w length move t (suc n) = turns w.size length move t + returns w length move (step w.size w.move t) n

-- a move above 0 and below the length, which isn't half of it
pub record HasWindow (length move : Whole) : Type 0 where
  pub some : is_positive move ≡ true
  pub less : is_positive (minus length move) ≡ true
  pub half : plus move move ≡ length → ⊥

-- strictly between 0 and the bound, or between the bound and the size
abbrev pub IsInZone : Window → Bool → Whole → Type 0
IsInZone w true t = (is_positive t ≡ true) × (is_positive (minus w.bound t) ≡ true)
IsInZone w false t = (is_positive (minus t w.bound) ≡ true) × (is_positive (minus w.size t) ≡ true)

-- What the first return of a coordinate of the window is: it takes one turn in the zone of single returns and two in the
-- other, where one turn leaves the window; it ends in the window, where one turn of the window's rotation ends.
pub record IsFirstReturn (length move t : Whole) : Type 0 where
  pub back : orbit length move t (turns (window length move).size length move t) ≡ step (window length move).size (window length move).move t
  pub inside : IsInside (window length move).size (step (window length move).size (window length move).move t)
  pub first : turns (window length move).size length move t ≡ 2 → IsInside (window length move).size (step length move t) → ⊥
  pub single : IsInZone (window length move) (window length move).single_below t → turns (window length move).size length move t ≡ 1
  pub double : IsInZone (window length move) (not (window length move).single_below) t → turns (window length move).size length move t ≡ 2

-- a move above 0 and below the length
pub record IsMove (length move : Whole) : Type 0 where
  pub some : is_positive move ≡ true
  pub less : is_positive (minus length move) ≡ true

-- from 0 on, and below the size of the window
abbrev pub IsInsideWindow : Whole → Whole → Whole → Type 0
IsInsideWindow length move t = IsInside (window length move).size t

-- n returns of a coordinate end where n turns of the window's rotation do
abbrev pub ReturnsAreTurns : Whole → Whole → Whole → ℕ → Type 0
ReturnsAreTurns length move t n =
    orbit length move t (returns (window length move) length move t n) ≡ orbit (window length move).size (window length move).move t n
