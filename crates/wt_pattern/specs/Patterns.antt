-- Valid patterns over a list of tiles.
use Rattle.std.specs.Prelude.{List, length}
use Rattle.wt_tile.specs.Matching.{matches}
use Rattle.wt_tile.specs.declared.tile.Tile.{Tile}
use Rattle.wt_grid.specs.Grid.{Grid, IsGrid}
use Rattle.wt_grid.specs.Parts.{AllBelow, IsValid}

-- each cell is a tile
abbrev pub AllTiles : List Tile → Grid → Type 0
AllTiles ts g = AllBelow (length ts) g

-- a rectangle of tiles whose neighbours match, of any size
abbrev pub IsPattern : List Tile → Grid → Type 0
IsPattern ts g = IsGrid g × AllTiles ts g × IsValid (matches ts) g
