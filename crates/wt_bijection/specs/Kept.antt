-- Scaffolding: labels that renamings keep.
use Rattle.std.specs.Prelude.{ℕ, ◌≡◌, ◌<◌, List, length, take, slice_index}
use Rattle.wt_grid.specs.declared.axis.Axis.{Axis}
use Rattle.wt_tile.specs.declared.tile.Tile.{Tile}
use Rattle.wt_tile.specs.Matching.{tile_at, ahead, behind}
use Rattle.wt_bijection.specs.Carried.{IsRenaming}
use Rattle.wt_grid.specs.declared.limits.TheConstants.{MAX_COLOURS}

-- each renaming that begins so carries each tile onto one with the same label
abbrev pub AreKept : List Tile → List Tile → List ℕ → List ℕ → List ℕ → Type 0
AreKept from to start own other =
    (list : List ℕ) → IsRenaming from to list → take (length start) list ≡ start
    → (i : ℕ) → i < length from → slice_index own i ≡ slice_index other (slice_index list i)

-- at most 512 colours on each axis
abbrev pub AreSmall : List Tile → Type 0
AreSmall tiles = (axis : Axis) (i : ℕ) → (ahead axis (tile_at tiles i) < MAX_COLOURS) × (behind axis (tile_at tiles i) < MAX_COLOURS)
