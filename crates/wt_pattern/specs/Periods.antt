-- Periods of rectangles, and the first cell that differs from the one to which a vector takes it.
use Rattle.std.specs.Prelude.{◌≡◌, ℕ, suc, ◌+◌, ◌-◌, ◌<◌, Bool, false, not, nat_lt, nat_le, nat_eq, ℤ, pos, negsuc, ◌+ℤ◌, List, length, slice_index, Option, None, Some, if◌then◌else◌}
use Rattle.wt_grid.specs.declared.axis.Axis.TheVariants.{One}
use Rattle.wt_grid.specs.declared.axis.Axis.{Axis}
use Rattle.wt_grid.specs.First.{first_from}
use Rattle.wt_grid.specs.Grid.{Grid, cell, along, across, at}
use Rattle.wt_pattern.specs.declared.periods.Shift.{Shift}
use Rattle.wt_pattern.specs.declared.periods.Shift.TheVariants.{Forward, Back}

-- Each cell is the one d lines on along the axis and e cells on across it, wherever both are in the rectangle.
abbrev pub IsPeriodAlong : Axis → Grid → ℤ → ℤ → Type 0
IsPeriodAlong axis g d e = (i j k l : ℕ) → i < along axis g → j < across axis g → k < along axis g → l < across axis g
    → pos k ≡ pos i +ℤ d → pos l ≡ pos j +ℤ e → at axis g i j ≡ at axis g k l

-- the rectangle has the vector (dx, dy) as a period
abbrev pub IsPeriod : Grid → ℤ → ℤ → Type 0
IsPeriod g dx dy = IsPeriodAlong One g dx dy

-- a component of a vector, as n steps forward or back
abbrev pub shift_of : ℤ → Shift
shift_of (pos k) = Forward k
shift_of (negsuc k) = Back (suc k)

-- where a shift takes the place x of n, if that is inside
abbrev pub shifted : Shift → ℕ → ℕ → Option ℕ
shifted (Forward k) n x = if nat_lt (x + k) n then Some (x + k) else None
shifted (Back k) n x = if nat_le k x then Some (x - k) else None

-- another number than a stands at the place of a line, where it is one
abbrev pub differs : ℕ → List ℕ → Option ℕ → Bool
differs a line None = false
differs a line (Some x) = not (nat_eq a (slice_index line x))

-- place x of a row differs from the place of another row of its length to which a shift takes it
abbrev pub is_apart : Shift → List ℕ → List ℕ → ℕ → Bool
is_apart s row other x = differs (slice_index row x) other (shifted s (length row) x)

-- cell (x, y), where it differs from the cell with these coordinates, if they are inside
abbrev pub unlike : Grid → ℕ → ℕ → Option ℕ → Option ℕ → Option (ℕ × ℕ)
unlike g x y None other = None
unlike g x y (Some k) None = None
unlike g x y (Some k) (Some l) = if nat_eq (cell g x y) (cell g k l) then None else Some (x, y)

-- cell (x, y), where it differs from the one to which the shifts take it
abbrev pub period_fault_at : Shift → Shift → Grid → ℕ → ℕ → Option (ℕ × ℕ)
period_fault_at right up g y x = unlike g x y (shifted right g.width x) (shifted up g.height y)

-- the first such cell of row y, from left to right
abbrev pub period_fault_in : Shift → Shift → Grid → ℕ → Option (ℕ × ℕ)
period_fault_in right up g y = first_from (period_fault_at right up g y) 0 g.width

-- the first cell c in reading order that differs from the cell c + v, for v = (dx, dy)
abbrev pub first_period_fault : ℤ → ℤ → Grid → Option (ℕ × ℕ)
first_period_fault dx dy g = first_from (period_fault_in (shift_of dx) (shift_of dy) g) 0 g.height
