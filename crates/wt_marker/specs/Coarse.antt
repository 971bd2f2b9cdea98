-- Coarse tiles: what each image shows on its four edges, numbered by first coming.
use Rattle.std.specs.Prelude.{ℕ, suc, Bool, true, false, ◌&&◌, nat_eq, if◌then◌else◌, List, [], ◌∷◌, ◌++◌, length, map, slice_index_or, ◌≡◌}
use Rattle.wt_grid.specs.declared.image.Image.TheVariants as image
use Rattle.wt_grid.specs.declared.image.Image.{Image}
use Rattle.wt_grid.specs.declared.axis.Axis.{Axis}
use Rattle.std.specs.List.{range_with_len, list_any}
use Rattle.std.specs.Fmt.{decimal}
use Rattle.wt_tile.specs.declared.tile.Tile.{Tile}
use Rattle.wt_tile.specs.declared.tile.TileList.{TileList}
use Rattle.wt_tile.specs.declared.fusion.Fused.{Fused}
use Rattle.wt_tile.specs.declared.fusion.Edge.{Edge}
use Rattle.wt_tile.specs.declared.fusion.Edge.TheVariants as edge
use Rattle.wt_tile.specs.Fusion.{fused}
use Rattle.wt_tile.specs.Matching.{tile_at, matches}

-- a tile's own edges
abbrev pub plain : Tile → Fused
plain t = record { east = edge.One t.east; north = edge.One t.north; west = edge.One t.west; south = edge.One t.south }

-- the edges of an image along an axis
abbrev pub edges_of : List Tile → Axis → Image → Fused
edges_of ts axis (image.One a) = plain (tile_at ts a)
edges_of ts axis (image.Two a b) = fused axis (tile_at ts a) (tile_at ts b)

-- the tiles of an image match along the axis
abbrev pub is_joined : List Tile → Axis → Image → Bool
is_joined ts axis (image.One a) = true
is_joined ts axis (image.Two a b) = matches ts axis a b

-- two edges show the same: one colour, or the same two in the same order
abbrev pub same_edge : Edge → Edge → Bool
same_edge (edge.One a) (edge.One b) = nat_eq a b
same_edge (edge.One a) (edge.Two b c) = false
same_edge (edge.Two a b) (edge.One c) = false
same_edge (edge.Two a b) (edge.Two c d) = nat_eq a c && nat_eq b d

-- the number of an edge: its place among those that came, or how many they are
abbrev pub place : Edge → List Edge → ℕ
place e [] = 0
place e (x ∷ xs) = if same_edge e x then 0 else suc (place e xs)

-- those that came, and then this one
abbrev pub come : List Edge → Edge → List Edge
come seen e = if list_any (same_edge e) seen then seen else seen ++ e ∷ []

-- those that came, then one edge, and then another
abbrev pub come_both : List Edge → Edge → Edge → List Edge
come_both seen e w = come (come seen e) w

-- the tile of these edges, behind those of each axis that came: the edge ahead comes before the edge behind
abbrev pub number_tile : List Edge → List Edge → Fused → Tile
number_tile seen1 seen2 t = record {
  east = place t.east seen1;
  north = place t.north seen2;
  west = place t.west (come seen1 t.east);
  south = place t.south (come seen2 t.north);
}

-- the tiles of these edges, each numbered behind those before it
abbrev pub number_tiles : List Edge → List Edge → List Fused → List Tile
number_tiles seen1 seen2 [] = []
number_tiles seen1 seen2 (t ∷ ts) = number_tile seen1 seen2 t ∷ number_tiles (come_both seen1 t.east t.west) (come_both seen2 t.north t.south) ts

-- all edges of axis 1 that came in the end
abbrev pub all1 : List Edge → List Fused → List Edge
all1 seen [] = seen
all1 seen (t ∷ ts) = all1 (come_both seen t.east t.west) ts

-- all edges of axis 2
abbrev pub all2 : List Edge → List Fused → List Edge
all2 seen [] = seen
all2 seen (t ∷ ts) = all2 (come_both seen t.north t.south) ts

-- 0, 1, .., as text
abbrev pub names_of : ℕ → List (List ℕ)
names_of n = map decimal (range_with_len 0 n)

-- The coarse set of these edges. A colour's name is its number.
abbrev pub coarse_set : List Fused → TileList
coarse_set ts = record { tiles = number_tiles [] [] ts; names1 = names_of (length (all1 [] ts)); names2 = names_of (length (all2 [] ts)) }

-- the same stands at places i and j
abbrev pub AreSameAt : {A : Type 0} → List A → A → ℕ → ℕ → Type 0
AreSameAt xs x i j = slice_index_or xs i x ≡ slice_index_or xs j x
