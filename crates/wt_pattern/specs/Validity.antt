-- The first cell of a pattern that is no tile, and its first neighbours that don't match, in reading order:
-- the bottom row first, and in a row from left to right.
use Rattle.std.specs.Prelude.{ℕ, ◌+◌, Bool, ◌&&◌, not, nat_lt, List, Option, None, Some, if◌then◌else◌}
use Rattle.wt_grid.specs.declared.axis.Axis.TheVariants.{One, Two}
use Rattle.wt_grid.specs.declared.axis.Axis.{Axis}
use Rattle.wt_tile.specs.declared.tile.Tile.{Tile}
use Rattle.wt_tile.specs.Matching.{matches}
use Rattle.wt_grid.specs.First.{first_from}
use Rattle.wt_grid.specs.Grid.{Grid, cell}
use Rattle.wt_pattern.specs.declared.fault.Fault.{Fault}

-- cell (x, y), where its number is none of n tiles
abbrev pub stranger_at : ℕ → Grid → ℕ → ℕ → Option (ℕ × ℕ)
stranger_at n g y x = if nat_lt (cell g x y) n then None else Some (x, y)

-- the first cell of row y that is none of n tiles, from left to right
abbrev pub stranger_in : ℕ → Grid → ℕ → Option (ℕ × ℕ)
stranger_in n g y = first_from (stranger_at n g y) 0 g.width

-- the first cell that is none of n tiles
abbrev pub first_stranger : ℕ → Grid → Option (ℕ × ℕ)
first_stranger n g = first_from (stranger_in n g) 0 g.height

-- cell (x, y) has a neighbour ahead along the axis, to the right or above, that doesn't match
abbrev pub clashes : List Tile → Axis → Grid → ℕ → ℕ → Bool
clashes ts One g y x = nat_lt (x + 1) g.width && not (matches ts One (cell g x y) (cell g (x + 1) y))
clashes ts Two g y x = nat_lt (y + 1) g.height && not (matches ts Two (cell g x y) (cell g x (y + 1)))

-- the fault at cell (x, y): the domino to the right before the domino upwards
abbrev pub fault_at : List Tile → Grid → ℕ → ℕ → Option Fault
fault_at ts g y x =
    if clashes ts One g y x then Some (record { axis = One; x = x; y = y })
    else if clashes ts Two g y x then Some (record { axis = Two; x = x; y = y })
    else None

-- the first fault of row y, from left to right
abbrev pub fault_in : List Tile → Grid → ℕ → Option Fault
fault_in ts g y = first_from (fault_at ts g y) 0 g.width

-- the first fault of the pattern
abbrev pub first_fault : List Tile → Grid → Option Fault
first_fault ts g = first_from (fault_in ts g) 0 g.height
