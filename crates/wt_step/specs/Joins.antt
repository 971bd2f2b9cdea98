-- Scaffolding: the edges that images show.
use Rattle.std.specs.Prelude.{ℕ, ◌≡◌, ◌<◌, List, length, slice_index_or, Bool, true, false, ◌&&◌, nat_eq}
use Rattle.wt_grid.specs.Axes.{same_axis}
use Rattle.wt_grid.specs.Order.{agree}
use Rattle.wt_grid.specs.Images.{first_tile, last_tile}
use Rattle.wt_grid.specs.declared.image.Image.TheVariants as image
use Rattle.wt_grid.specs.declared.image.Image.{Image}
use Rattle.wt_grid.specs.declared.axis.Axis.{Axis}
use Rattle.wt_tile.specs.declared.tile.Tile.{Tile}
use Rattle.wt_tile.specs.Matching.{ahead, behind, tile_at}
use Rattle.wt_step.specs.declared.joins.Edges.{Edges}
use Rattle.wt_step.specs.declared.raw.RawStep.{RawStep}
use Rattle.wt_step.specs.Words.{image_at}

-- the edge of a side with one piece
abbrev pub one_edge : ℕ → Edges
one_edge a = record { double = false; first = a; second = 0 }

-- the edges of a side with two pieces
abbrev pub two_edges : ℕ → ℕ → Edges
two_edges a b = record { double = true; first = a; second = b }

-- two sides have as many edges, of the same colours
abbrev pub same_edges : Edges → Edges → Bool
same_edges e f = agree e.double f.double && nat_eq e.first f.first && nat_eq e.second f.second

-- what an image shows the next one: the edge of its last tile along its own axis, and those of its pieces along the other
abbrev pub shown_by : Bool → List Tile → Axis → Image → Edges
shown_by true ts axis x = one_edge (ahead axis (tile_at ts (last_tile x)))
shown_by false ts axis (image.One a) = one_edge (ahead axis (tile_at ts a))
shown_by false ts axis (image.Two a b) = two_edges (ahead axis (tile_at ts a)) (ahead axis (tile_at ts b))

-- what an image shows the one before it
abbrev pub met_by : Bool → List Tile → Axis → Image → Edges
met_by true ts axis x = one_edge (behind axis (tile_at ts (first_tile x)))
met_by false ts axis (image.One a) = one_edge (behind axis (tile_at ts a))
met_by false ts axis (image.Two a b) = two_edges (behind axis (tile_at ts a)) (behind axis (tile_at ts b))

-- the same along an axis, for the images of a step
abbrev pub shown : RawStep → Axis → Image → Edges
shown s axis x = shown_by (same_axis axis s.axis) s.fine.tiles axis x

-- and towards the image before
abbrev pub met : RawStep → Axis → Image → Edges
met s axis x = met_by (same_axis axis s.axis) s.fine.tiles axis x

-- the table has what the image of each coarse tile shows the one before
abbrev pub IsMetTable : RawStep → Axis → List Edges → Type 0
IsMetTable s axis table = (j : ℕ) → j < length s.coarse.tiles → slice_index_or table j (one_edge 0) ≡ met s axis (image_at s j)
