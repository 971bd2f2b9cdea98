-- Scaffolding: the bytes of a tile's row.
use Rattle.std.specs.Prelude.{ℕ, List, [], ◌∷◌, ◌++◌}
use Rattle.wt_tile.specs.declared.tile.Tile.{Tile}
use Rattle.wt_names.specs.Numbering.{name_at}

-- the names of the right, the top, the left and the bottom edge, and a newline
abbrev pub tile_bytes : List (List ℕ) → List (List ℕ) → Tile → List ℕ
tile_bytes names1 names2 t = name_at names1 t.east ++ 32 ∷ (name_at names2 t.north ++ 32 ∷ (name_at names1 t.west ++ 32 ∷ (name_at names2 t.south ++ 10 ∷ [])))
