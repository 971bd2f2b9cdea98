-- A pattern that a script made, and the set that it is over.
use Rattle.std.specs.Prelude.{◌≡◌, Option, None, length, IfSome}
use Rattle.wt_grid.specs.Grid.{Grid}
use Rattle.wt_tile.specs.declared.tile.TileList.{TileList}
use Rattle.wt_pattern.specs.Validity.{first_stranger}

-- a pattern with its set
pub record Laid : Type 0 where
  pub pattern : Grid
  pub over : Option TileList

-- each cell is a tile of the set, where there is one
abbrev pub AreTiles : Option TileList → Grid → Type 0
AreTiles over p = IfSome over (λ set. first_stranger (length set.tiles) p ≡ None)
