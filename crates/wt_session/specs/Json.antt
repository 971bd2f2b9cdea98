-- Values as JSON. Members stand in the order of their keys' bytes.
use Rattle.std.specs.Prelude.{ℕ, ℤ, Bool, true, false, zero, suc, ◌+◌, ◌*◌, List, [], ◌∷◌, ◌++◌, length, map, slice_range, codes, Result, Ok, Err}
use Rattle.wt_grid.specs.Axes.{axis_number}
use Rattle.wt_grid.specs.declared.image.Image.TheVariants as image
use Rattle.wt_grid.specs.declared.image.Image.{Image}
use Rattle.wt_grid.specs.declared.axis.Side.TheVariants.{After, Before}
use Rattle.wt_grid.specs.declared.axis.Side.{Side}
use Rattle.wt_grid.specs.declared.axis.Axis.{Axis}
use Rattle.std.specs.Fmt.{decimal, signed_decimal}
use Rattle.serde_json.specs.Data.{Data, number, unsigned, string, array, object, Items, no_items, item, Members, no_members, member}
use Rattle.serde_json.specs.Find.{of_integer}
use Rattle.serde_json.specs.View.{items_of}
use Rattle.serde_json.specs.Written.{compact_text, comma_if, items_text}
use Rattle.wt_golden.specs.Fractions.{Fraction}
use Rattle.wt_grid.specs.Grid.{Grid}
use Rattle.wt_names.specs.Numbering.{name_at}
use Rattle.wt_tile.specs.declared.tile.Tile.{Tile}
use Rattle.wt_tile.specs.declared.tile.TileList.{TileList}
use Rattle.wt_pattern.specs.PatternRows.{row_cells}
use Rattle.wt_step.specs.declared.raw.Lost.{Lost}
use Rattle.wt_step.specs.declared.raw.RawStep.{RawStep}
use Rattle.wt_step.specs.declared.raw.RawRestrict.{RawRestrict}
use Rattle.wt_step.specs.declared.raw.RawLink.{RawLink}
use Rattle.wt_step.specs.declared.raw.RawLink.TheVariants.{Marker, Restrict}
use Rattle.wt_step.specs.Links.{coarse_of}
use Rattle.wt_chain.specs.declared.raw.RawChain.{RawChain}
use Rattle.wt_chain.specs.declared.raw.End.{End}
use Rattle.wt_chain.specs.declared.raw.End.TheVariants.{Open, Loop}
use Rattle.wt_chain.specs.Sets.{first_count}
use Rattle.wt_plane.specs.HalfPlanes.{Half, numbers_of}
use Rattle.wt_torus.specs.declared.partition.Labelled.{Labelled}
use Rattle.wt_torus.specs.declared.partition.Partition.{Partition as Divided}
use Rattle.wt_session.specs.declared.value.Value.{Value}
use Rattle.wt_session.specs.declared.value.Value.TheVariants.{Set, Pattern, Chain, Partition}
use Rattle.wt_session.specs.Names.{Names}
use Rattle.wt_session.specs.Replies.{Reply, says, value_named}

-- a whole number
abbrev pub whole : ℕ → Data
whole n = number (unsigned n)

-- a list of values
abbrev pub list : List Data → Data
list ds = array (items_of ds)

-- a list of numbers
abbrev pub numbers : List ℕ → Data
numbers ns = list (map whole ns)

-- ---- a tile set

-- right, top, left, bottom
abbrev pub tile_json : List (List ℕ) → List (List ℕ) → Tile → Data
tile_json names1 names2 t = list (string (name_at names1 t.east) ∷ string (name_at names2 t.north) ∷ string (name_at names1 t.west) ∷ string (name_at names2 t.south) ∷ [])

-- a set: its tiles in their order
abbrev pub set_json : TileList → Data
set_json set = object
    (member (codes "kind") (string (codes "set"))
    (member (codes "tiles") (list (map (tile_json set.names1 set.names2) set.tiles)) no_members))

-- ---- a pattern: row 0, the bottom one, first

-- n rows from row y on, each a list of its cells
abbrev pub rows_json : Grid → ℕ → ℕ → List Data
rows_json p y zero = []
rows_json p y (suc n) = numbers (row_cells p y) ∷ rows_json p (y + 1) n

-- a pattern: its cells by rows, its sides
abbrev pub pattern_json : Grid → Data
pattern_json p = object
    (member (codes "cells") (list (rows_json p 0 p.height))
    (member (codes "height") (whole p.height)
    (member (codes "kind") (string (codes "pattern"))
    (member (codes "width") (whole p.width) no_members))))

-- a string in quotes
unfoldable pub string_text : List ℕ → List ℕ
string_text s = compact_text (string s)

-- a key and its colon, behind a comma where something stands before
unfoldable pub key_text : Bool → List ℕ → List ℕ
key_text later k = comma_if later ++ (string_text k ++ codes ":")

-- the members of a pattern behind its cells
unfoldable pub sides_text : Grid → List ℕ
sides_text p =
    key_text true (codes "height") ++ (decimal p.height ++ (key_text true (codes "kind") ++ (string_text (codes "pattern") ++ (key_text true (codes "width") ++ decimal p.width))))

-- the text of a pattern, written out
abbrev pub pattern_text : Grid → List ℕ
pattern_text p =
    codes "{" ++ (key_text false (codes "cells") ++ (codes "[" ++ (items_text false (items_of (rows_json p 0 p.height)) ++ (sides_text p ++ codes "}"))))

-- ---- a chain

-- an image of one or two tiles
abbrev pub image_json : Image → Data
image_json (image.One u) = numbers (u ∷ [])
image_json (image.Two u v) = numbers (u ∷ v ∷ [])

-- the side of a step
abbrev pub side_json : Side → Data
side_json After = string (codes "after")
side_json Before = string (codes "before")

-- a step of either kind
abbrev pub step_json : RawLink → Data
step_json (Marker s) = object
    (member (codes "axis") (whole (axis_number s.axis))
    (member (codes "images") (list (map image_json s.images))
    (member (codes "markers") (numbers s.markers)
    (member (codes "radius") (whole s.radius)
    (member (codes "side") (side_json s.side) no_members)))))
step_json (Restrict s) = object
    (member (codes "kept") (numbers s.kept)
    (member (codes "lost") (numbers (map (λ (x : Lost). x.tile) s.lost))
    (member (codes "radius") (whole s.radius) no_members)))

-- how a chain ends
abbrev pub end_json : End → Data
end_json Open = string (codes "open")
end_json (Loop start renaming e) = object
    (member (codes "expansion") (whole e)
    (member (codes "renaming") (numbers renaming)
    (member (codes "start") (whole start) no_members)))

-- the numbers of tiles by level
abbrev pub sizes : List RawLink → List ℕ
sizes links = first_count links ∷ map (λ link. length (coarse_of link).tiles) links

-- a chain: its end, its numbers of tiles, its steps
abbrev pub chain_json : RawChain → Data
chain_json c = object
    (member (codes "end") (end_json c.end)
    (member (codes "kind") (string (codes "chain"))
    (member (codes "sets") (numbers (sizes c.steps))
    (member (codes "steps") (list (map step_json c.steps)) no_members))))

-- ---- a partition

-- a signed whole number
abbrev pub signed : ℤ → Data
signed z = number (of_integer z)

-- a:b:d, as a golden number is written
abbrev pub golden_text : Fraction → List ℕ
golden_text f = signed_decimal f.a ++ (codes ":" ++ (signed_decimal f.b ++ (codes ":" ++ signed_decimal f.d)))

-- a golden number
abbrev pub golden_json : Fraction → Data
golden_json f = string (golden_text f)

-- the six numbers of a half-plane
abbrev pub plane_json : Half → Data
plane_json h = list (map signed (numbers_of h))

-- a region: its label and its half-planes
abbrev pub region_json : Labelled → Data
region_json r = object
    (member (codes "label") (whole r.label)
    (member (codes "planes") (list (map plane_json r.region.planes)) no_members))

-- a partition: the sides of its box, its moves, its regions
abbrev pub partition_json : Divided → Data
partition_json p = object
    (member (codes "box") (list (golden_json p.torus.width ∷ golden_json p.torus.height ∷ []))
    (member (codes "kind") (string (codes "partition"))
    (member (codes "move") (list (golden_json p.torus.move1 ∷ golden_json p.torus.move2 ∷ []))
    (member (codes "regions") (list (map region_json p.regions)) no_members))))

-- ---- json M

-- any value
abbrev pub value_json : Value → Data
value_json (Set set) = set_json set
value_json (Pattern laid) = pattern_json laid.pattern
value_json (Chain c) = chain_json c
value_json (Partition p) = partition_json p

-- the value, or why there is none
abbrev pub json_of : Result Value Reply → Reply
json_of (Err reply) = reply
json_of (Ok v) = says (compact_text (value_json v) ++ codes "\n")

-- the reply of `json`: the value as one line
abbrev pub json_reply : Names → List ℕ → Reply
json_reply names m = json_of (value_named names m)
