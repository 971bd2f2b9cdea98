-- Rectangles that wrap round: column 0 follows the last column, and row 0 follows the last row.
use Rattle.std.specs.Prelude.{◌≡◌, ℕ, ◌+◌, ◌<◌, true, not, nat_lt, List, Option, None, Some, if◌then◌else◌}
use Rattle.wt_grid.specs.declared.axis.Axis.TheVariants.{One, Two}
use Rattle.wt_tile.specs.declared.tile.Tile.{Tile}
use Rattle.wt_tile.specs.Matching.{matches}
use Rattle.wt_grid.specs.First.{first_from}
use Rattle.wt_grid.specs.Grid.{Grid, cell, IsGrid}
use Rattle.wt_pattern.specs.Patterns.{AllTiles}
use Rattle.wt_pattern.specs.declared.fault.Fault.{Fault}

-- the place that follows place x of n in a round: 0 follows the last
abbrev pub following : ℕ → ℕ → ℕ
following n x = if nat_lt (x + 1) n then x + 1 else 0

-- the cell to the right of cell (x, y), in a rectangle that wraps round
abbrev pub cell_right : Grid → ℕ → ℕ → ℕ
cell_right g x y = cell g (following g.width x) y

-- the cell above it
abbrev pub cell_above : Grid → ℕ → ℕ → ℕ
cell_above g x y = cell g x (following g.height y)

-- Each cell matches the cell to its right and the cell above it, also round the border.
pub record IsWrap (ts : List Tile) (g : Grid) : Type 0 where
  pub right : (x y : ℕ) → x < g.width → y < g.height → matches ts One (cell g x y) (cell_right g x y) ≡ true
  pub above : (x y : ℕ) → x < g.width → y < g.height → matches ts Two (cell g x y) (cell_above g x y) ≡ true

-- a rectangle of tiles of w by h cells that wraps round
pub record IsWrapOf (ts : List Tile) (w h : ℕ) (g : Grid) : Type 0 where
  pub grid : IsGrid g
  pub wide : g.width ≡ w
  pub high : g.height ≡ h
  pub tiles : AllTiles ts g
  pub wrap : IsWrap ts g

-- no rectangle of w by h tiles wraps round
abbrev pub HasNoWrapOf : List Tile → ℕ → ℕ → Type 0
HasNoWrapOf ts w h = (g : Grid) → IsWrapOf ts w h g → ⊥

-- the fault at cell (x, y): the neighbour to the right before the one above
abbrev pub wrap_fault_at : List Tile → Grid → ℕ → ℕ → Option Fault
wrap_fault_at ts g y x =
    if not (matches ts One (cell g x y) (cell_right g x y)) then Some (record { axis = One; x = x; y = y })
    else if not (matches ts Two (cell g x y) (cell_above g x y)) then Some (record { axis = Two; x = x; y = y })
    else None

-- the first fault of row y
abbrev pub wrap_fault_in : List Tile → Grid → ℕ → Option Fault
wrap_fault_in ts g y = first_from (wrap_fault_at ts g y) 0 g.width

-- the first cell in reading order with a neighbour, round the border or inside, that doesn't match
abbrev pub first_wrap_fault : List Tile → Grid → Option Fault
first_wrap_fault ts g = first_from (wrap_fault_in ts g) 0 g.height
