-- When a list of tiles has a text.
use Rattle.std.specs.Prelude.{◌≡◌, ℕ, true, List, map}
use Rattle.wt_tile.specs.declared.tile.TileList.{TileList}
use Rattle.wt_text.specs.Spellings.{AllFit}
use Rattle.wt_names.specs.Rows.{Edges, NumberedTiles, RowFits, is_name}
use Rattle.wt_pattern.specs.TileRows.{tile_edges, row_names}

-- a list of tiles by its edges, apart from how the code keeps them
abbrev pub as_numbered : TileList → NumberedTiles
as_numbered list = record { tiles = map tile_edges list.tiles; names1 = list.names1; names2 = list.names2 }

-- each name of each row has the form of one
abbrev pub RowsFit : List (Edges (List ℕ)) → Type 0
RowsFit rows = AllFit (λ e. RowFits (row_names e)) rows

-- each name of a list has the form of one
abbrev pub AreNames : List (List ℕ) → Type 0
AreNames names = AllFit (λ n. is_name n ≡ true) names
