-- What `fuse S A u v` answers.
use Rattle.std.specs.Prelude.{ℕ, Bool, nat_lt, if◌then◌else◌, List, [], ◌∷◌, ◌++◌, length, codes, Result, Ok, Err}
use Rattle.wt_grid.specs.declared.axis.Axis.{Axis}
use Rattle.wt_names.specs.Numbering.{name_at}
use Rattle.wt_tile.specs.declared.tile.TileList.{TileList}
use Rattle.wt_tile.specs.declared.fusion.Edge.{Edge}
use Rattle.wt_tile.specs.declared.fusion.Edge.TheVariants as edge
use Rattle.wt_tile.specs.declared.fusion.Fused.{Fused}
use Rattle.wt_tile.specs.Fusion.{fused}
use Rattle.wt_tile.specs.Matching.{matches, tile_at}
use Rattle.wt_session.specs.Names.{Names}
use Rattle.wt_session.specs.Replies.{Reply, says, refused, no_tile, set_named}

-- the name of a colour, or of a pair of colours as `(c,d)`
abbrev pub edge_text : List (List ℕ) → Edge → List ℕ
edge_text names (edge.One c) = name_at names c
edge_text names (edge.Two c d) = codes "(" ++ (name_at names c ++ (codes "," ++ (name_at names d ++ codes ")")))

-- the edges right, top, left, bottom
abbrev pub fused_text : TileList → Fused → List ℕ
fused_text set f =
    edge_text set.names1 f.east ++ (codes " " ++ (edge_text set.names2 f.north ++ (codes " " ++ (edge_text set.names1 f.west ++ (codes " " ++ (edge_text set.names2 f.south ++ codes "\n"))))))

-- two tiles, where they match
abbrev pub fused_in : TileList → Axis → ℕ → ℕ → Reply
fused_in set axis u v =
    if matches set.tiles axis u v then says (fused_text set (fused axis (tile_at set.tiles u) (tile_at set.tiles v))) else refused (codes "refused no match\n")

-- two numbers: first u has to be a tile, and then v
abbrev pub fuse_in : TileList → Axis → ℕ → ℕ → Reply
fuse_in set axis u v = if nat_lt u (length set.tiles) then (if nat_lt v (length set.tiles) then fused_in set axis u v else no_tile v) else no_tile u

-- the set, or why there is none
abbrev pub fuse_of : Axis → ℕ → ℕ → Result TileList Reply → Reply
fuse_of axis u v (Err reply) = reply
fuse_of axis u v (Ok set) = fuse_in set axis u v

-- The reply of `fuse`: the edges of two tiles as one. Refused for the name, then for u, then for v, then where they don't match.
abbrev pub fuse_reply : Names → List ℕ → Axis → ℕ → ℕ → Reply
fuse_reply names s axis u v = fuse_of axis u v (set_named names s)
