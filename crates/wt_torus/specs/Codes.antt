-- Codes: the letters of a point and of its turns along both axes.
use Rattle.std.specs.Prelude.{◌≡◌, ℕ, ◌<◌, nat_lt, nat_le, ℤ, ◌*ℤ◌, unsigned_abs, Bool, ◌&&◌, not, Option, None, Some, if◌then◌else◌}
use Rattle.wt_golden.specs.Whole.{Whole, whole, times, opposite, is_positive}
use Rattle.wt_golden.specs.Fractions.{Fraction, top, over, lowest, limit}
use Rattle.wt_plane.specs.HalfPlanes.{Spot, x_of, y_of, spot, spot_limit, reduced_spot}
use Rattle.wt_grid.specs.Grid.{Grid, IsGrid, cell, grid_of}
use Rattle.wt_grid.specs.First.{first_from}
use Rattle.wt_torus.specs.declared.letter.Letter.{Letter}
use Rattle.wt_torus.specs.declared.letter.Letter.TheVariants.{One, Unplaced, Doubled}
use Rattle.wt_torus.specs.declared.coded.CodeFault.{CodeFault}
use Rattle.wt_torus.specs.declared.coded.CodeFault.TheVariants.{OutsideBox, TooLarge}
use Rattle.wt_torus.specs.declared.coded.CodeFault.TheVariants as fault
use Rattle.wt_torus.specs.declared.partition.Partition.{Partition}
use Rattle.wt_torus.specs.Boxes.{Rotation, is_below}
use Rattle.wt_torus.specs.Rotation.{orbit}
use Rattle.wt_torus.specs.Letters.{letter, number_in}

-- f, where m is a multiple of what its denominator lacks
abbrev pub spread : Fraction → ℤ → Whole
spread f m = times (top f) (whole m)

-- t after i moves along an axis, each taken back into the length: over a common denominator all numbers are whole
unfoldable pub coordinate : Fraction → Fraction → Fraction → ℕ → Fraction
coordinate length move t i =
    lowest (over (orbit (spread length (move.d *ℤ t.d)) (spread move (length.d *ℤ t.d)) (spread t (length.d *ℤ move.d)) i) (length.d *ℤ (move.d *ℤ t.d)))

-- the point z + (i a, j b), taken back into the box
abbrev pub reached : Rotation → Spot → ℕ → ℕ → Spot
reached r z i j = spot (coordinate r.width r.move1 (x_of z) i) (coordinate r.height r.move2 (y_of z) j)

-- g is the code of a point
pub record IsCode (p : Partition) (z : Spot) (g : Grid) : Type 0 where
  pub grid : IsGrid g
  pub letters : (i j : ℕ) → i < g.width → j < g.height → letter p (reached p.torus z i j) ≡ One (cell g i j)

-- the three numbers of a golden number are below the limit
abbrev pub is_within : Fraction → Bool
is_within f = nat_lt (unsigned_abs f.a) limit && nat_lt (unsigned_abs f.b) limit && nat_lt (unsigned_abs f.d) limit

-- the number, where it is within the limit
abbrev pub within : Fraction → Option Fraction
within f = if is_within f then Some f else None

-- t after i turns, where that is within the limit
abbrev pub coordinate_within : Fraction → Fraction → Fraction → ℕ → Option Fraction
coordinate_within length move t i = within (coordinate length move t i)

-- a number of the point over its least common denominator is below the limit
abbrev pub fits : ℤ → Bool
fits n = nat_le (unsigned_abs n) spot_limit

-- the five numbers are below the limit
abbrev pub is_small : Spot → Bool
is_small z = fits z.x.a && fits z.x.b && fits z.y.a && fits z.y.b && fits z.d

-- the letter of the point, where its numbers over its least common denominator are within the limit
abbrev pub letter_within : Partition → Spot → Option Letter
letter_within p z = if is_small (reduced_spot z) then Some (letter p z) else None

-- from 0 on and below the side, along both axes
abbrev pub is_in_square : Rotation → Spot → Bool
is_in_square r z = not (is_positive (opposite z.x)) && is_below z.x z.d r.width && not (is_positive (opposite z.y)) && is_below z.y z.d r.height

-- what a letter at cell i of row j is a fault of: a number out of limit, or no single label
abbrev pub letter_fault : ℕ → ℕ → Option Letter → Option CodeFault
letter_fault i j None = Some TooLarge
letter_fault i j (Some (One a)) = None
letter_fault i j (Some Unplaced) = Some (fault.Unplaced i j)
letter_fault i j (Some Doubled) = Some (fault.Doubled i j)

-- the fault of cell i of row j
abbrev pub cell_fault : Partition → Spot → ℕ → ℕ → Option CodeFault
cell_fault p z j i = letter_fault i j (letter_within p (reached p.torus z i j))

-- the first fault of row j
abbrev pub row_fault : Partition → Spot → ℕ → ℕ → Option CodeFault
row_fault p z w j = first_from (cell_fault p z j) 0 w

-- why a point has no code of w by h cells, or none within the limits
unfoldable pub code_fault : Partition → Spot → ℕ → ℕ → Option CodeFault
code_fault p z w h = if is_in_square p.torus z then first_from (row_fault p z w) 0 h else Some OutsideBox

-- the letters of w by h turns, row by row from the bottom
abbrev pub code_of : Partition → Spot → ℕ → ℕ → Grid
code_of p z w h = grid_of w h (λ i j. number_in (letter p (reached p.torus z i j)))
