-- Whether tiles match, as numbers of a list.
use Rattle.std.specs.Prelude.{ℕ, Bool, true, false, nat_eq, List, slice_index_or}
use Rattle.wt_grid.specs.declared.axis.Axis.TheVariants.{One, Two}
use Rattle.wt_grid.specs.declared.axis.Axis.{Axis}
use Rattle.wt_tile.specs.declared.tile.Tile.{Tile}

-- the colour of the edge that a tile shows the next tile along the axis
abbrev pub ahead : Axis → Tile → ℕ
ahead One t = t.east
ahead Two t = t.north

-- the colour of the edge that a tile shows the tile before it along the axis
abbrev pub behind : Axis → Tile → ℕ
behind One t = t.west
behind Two t = t.south

-- b may stand next to a along the axis, to the right of it on axis 1 and above it on axis 2: the edges where they meet have one colour
abbrev pub fits : Axis → Tile → Tile → Bool
fits axis a b = nat_eq (ahead axis a) (behind axis b)

-- a tile whose edges all have colour 0
abbrev pub blank : Tile
blank = record { east = 0; north = 0; west = 0; south = 0 }

-- the tile with this number; a number past the list counts as a blank tile
abbrev pub tile_at : List Tile → ℕ → Tile
tile_at ts a = slice_index_or ts a blank

-- the tile b of the list may stand next to its tile a along the axis
unfoldable pub matches : List Tile → Axis → ℕ → ℕ → Bool
matches ts axis a b = fits axis (tile_at ts a) (tile_at ts b)
