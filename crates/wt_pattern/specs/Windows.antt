-- Windows round pairs of tiles.
use Rattle.std.specs.Prelude.{ℕ, ◌+◌, List, length}
use Rattle.wt_tile.specs.Matching.{matches}
use Rattle.wt_grid.specs.declared.axis.Axis.TheVariants.{One, Two}
use Rattle.wt_grid.specs.declared.axis.Axis.{Axis}
use Rattle.wt_tile.specs.declared.tile.Tile.{Tile}
use Rattle.wt_grid.specs.Grid.{Grid}
use Rattle.wt_grid.specs.Parts.{IsWindow}

-- width and height of a window: the two cells of its domino with r lines on each side
abbrev pub window_size : Axis → ℕ → ℕ × ℕ
window_size One r = (r + r + 2, r + r + 1)
window_size Two r = (r + r + 1, r + r + 2)

-- no valid window of this radius has a and b side by side in its middle
abbrev pub IsEmptyWindow : List Tile → Axis → ℕ → ℕ → ℕ → Type 0
IsEmptyWindow ts axis a b r = (g : Grid) → IsWindow (length ts) (matches ts) axis a b r g → ⊥

-- a valid window of this radius has a and b side by side in its middle
abbrev pub IsSurroundable : List Tile → Axis → ℕ → ℕ → ℕ → Type 0
IsSurroundable ts axis a b r = (g : Grid) × IsWindow (length ts) (matches ts) axis a b r g
