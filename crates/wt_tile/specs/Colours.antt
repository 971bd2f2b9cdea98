-- Edges numbered by first coming: the number of an edge is its place in the list of those that came.
use Rattle.std.specs.Prelude.{◌≡◌, ℕ, ◌≤◌, List, length, Some, slice_get, Contains}
use Rattle.wt_tile.specs.declared.fusion.Edge.{Edge}
use Rattle.wt_grid.specs.declared.limits.TheConstants.{MAX_COLOURS}

-- at most 512 edges, none twice: so each has one number
pub record IsNumbering (edges : List Edge) : Type 0 where
  pub few : length edges ≤ MAX_COLOURS
  pub once : (i j : ℕ) (edge : Edge) → slice_get edges i ≡ Some edge → slice_get edges j ≡ Some edge → i ≡ j

-- the edge is new, and no more are taken
abbrev pub IsPast : List Edge → Edge → Type 0
IsPast edges edge = (length edges ≡ MAX_COLOURS) × (Contains edges edge → ⊥)

-- the edge has this number
abbrev pub HasNumber : List Edge → Edge → ℕ → Type 0
HasNumber edges edge number = slice_get edges number ≡ Some edge
