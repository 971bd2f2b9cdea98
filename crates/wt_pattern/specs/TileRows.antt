-- Lists of tiles as text: a row of four names for each tile.
use Rattle.std.specs.Prelude.{◌≡◌, ℕ, ◌≤◌, List, [], ◌∷◌, length, map, Result, Ok, Err}
use Rattle.std.specs.List.{flat_map}
use Rattle.wt_tile.specs.declared.tile.Tile.{Tile}
use Rattle.wt_tile.specs.declared.tile.TileList.{TileList}
use Rattle.wt_text.specs.Lines.{Line}
use Rattle.wt_text.specs.Readers.{TextFault, one_line, many_parts, seen_as}
use Rattle.wt_text.specs.Spellings.{AllFit, line_spelling}
use Rattle.wt_names.specs.Rows.{Edges, NumberedTiles, with_numbers, with_names, row_form, row_spelling, RowFits}

-- a row's four names: right, top, left, bottom
abbrev pub row_edges : List ℕ × (List ℕ × (List ℕ × List ℕ)) → Edges (List ℕ)
row_edges x = record { right = x.0; top = x.1.0; left = x.1.1.0; bottom = x.1.1.1 }

-- the names of a row in their order: right, top, left, bottom
abbrev pub row_names : Edges (List ℕ) → List ℕ × (List ℕ × (List ℕ × List ℕ))
row_names e = (e.right, (e.top, (e.left, e.bottom)))

-- a tile by the numbers of its edges
abbrev pub edges_tile : Edges ℕ → Tile
edges_tile e = record { east = e.right; north = e.top; west = e.left; south = e.bottom }

-- the numbers of the edges of a tile
abbrev pub tile_edges : Tile → Edges ℕ
tile_edges t = record { right = t.east; top = t.north; left = t.west; bottom = t.south }

-- rows of names as a list of tiles, with the colours of each axis numbered by first coming
abbrev pub rows_list : List (Edges (List ℕ)) → TileList
rows_list rows = record { tiles = map edges_tile (with_numbers rows).tiles; names1 = (with_numbers rows).names1; names2 = (with_numbers rows).names2 }

-- a list of tiles as rows of names
abbrev pub list_rows : TileList → List (Edges (List ℕ))
list_rows list = with_names (record { tiles = map tile_edges list.tiles; names1 = list.names1; names2 = list.names2 })

-- a part that is read by itself: nothing is carried on from what was read before it
abbrev pub no_state : {A : Type 0} → ℕ → A → ℕ
no_state s a = s

-- a row of names in a line
abbrev pub row_part : {W : Type 0} → ℕ × List Line → Result (Edges (List ℕ) × (ℕ × List Line)) (TextFault W)
row_part = seen_as row_edges (one_line row_form)

-- n rows as a list of tiles
abbrev pub tile_rows : {W : Type 0} → ℕ → ℕ × List Line → Result (TileList × (ℕ × List Line)) (TextFault W)
tile_rows count = seen_as rows_list (many_parts (λ s. row_part) no_state 0 count)

-- how a list of tiles is written, row by row
abbrev pub rows_spelling : TileList → List Line
rows_spelling list = flat_map (λ e. line_spelling row_spelling (row_names e)) (list_rows list)

-- each name has the form of one, and the colours are numbered by first coming, with one name for each and no name twice
pub record IsListed (list : TileList) : Type 0 where
  pub names : AllFit (λ e. RowFits (row_names e)) (list_rows list)
  pub numbered : rows_list (list_rows list) ≡ list
