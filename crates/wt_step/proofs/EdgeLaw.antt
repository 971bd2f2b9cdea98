-- Images match exactly where the edges that they show each other are the same.
use Rattle.std.proofs.Common.{◌≡◌, List, Bool, true, false, ◌&&◌, nat_eq, if◌then◌else◌, refl}
use Rattle.wt_grid.specs.Axes.{same_axis}
use Rattle.wt_grid.specs.Images.{first_tile, last_tile}
use Rattle.wt_grid.specs.declared.image.Image.TheVariants as image
use Rattle.wt_grid.specs.declared.image.Image.{Image}
use Rattle.wt_grid.specs.declared.axis.Axis.{Axis}
use Rattle.wt_tile.specs.declared.tile.Tile.{Tile}
use Rattle.wt_tile.specs.Matching.{matches, ahead, behind, tile_at}
use Rattle.wt_step.specs.declared.raw.RawStep.{RawStep}
use Rattle.wt_step.specs.Words.{pieces_match, images_match}
use Rattle.wt_step.specs.Joins.{same_edges, shown_by, met_by, shown, met}

alone : (b : Bool) → b ≡ (b && true)
alone true = refl
alone false = refl

pub edges_by : (b : Bool) (ts : List Tile) (axis : Axis) (x y : Image)
    → (if b then matches ts axis (last_tile x) (first_tile y) else pieces_match ts axis x y) ≡ same_edges (shown_by b ts axis x) (met_by b ts axis y)
unfolding matches
edges_by true ts axis x y = alone (nat_eq (ahead axis (tile_at ts (last_tile x))) (behind axis (tile_at ts (first_tile y))))
edges_by false ts axis (image.One a) (image.One b) = alone (nat_eq (ahead axis (tile_at ts a)) (behind axis (tile_at ts b)))
edges_by false ts axis (image.One a) (image.Two c d) = refl
edges_by false ts axis (image.Two a b) (image.One c) = refl
edges_by false ts axis (image.Two a b) (image.Two c d) = refl

pub edges_match : (s : RawStep) (axis : Axis) (x y : Image) → images_match s axis x y ≡ same_edges (shown s axis x) (met s axis y)
edges_match s axis x y = edges_by (same_axis axis s.axis) s.fine.tiles axis x y
