-- The fusion of two neighbouring tiles.
use Rattle.wt_tile.specs.declared.tile.Tile.{Tile}
use Rattle.wt_grid.specs.declared.axis.Axis.TheVariants.{One, Two}
use Rattle.wt_grid.specs.declared.axis.Axis.{Axis}
use Rattle.wt_tile.specs.declared.fusion.Fused.{Fused}
use Rattle.wt_tile.specs.declared.fusion.Edge.{Edge}
use Rattle.wt_tile.specs.declared.fusion.Edge.TheVariants as edge

-- u with v to its right, or with v above it: the outer edges along the axis stay, those across it are joined in pairs, u's colour first
abbrev pub fused : Axis → Tile → Tile → Fused
fused One u v = record { east = edge.One v.east; north = edge.Two u.north v.north; west = edge.One u.west; south = edge.Two u.south v.south }
fused Two u v = record { east = edge.Two u.east v.east; north = edge.One v.north; west = edge.Two u.west v.west; south = edge.One u.south }
