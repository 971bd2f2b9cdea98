-- What every partition is: its torus is one, and its half-planes have directions.
use Rattle.std.specs.Prelude.{◌≡◌, true, pos, ◌<ℤ◌, List, [], ◌∷◌}
use Rattle.wt_plane.specs.HalfPlanes.{AllDirected}
use Rattle.wt_torus.specs.declared.partition.Labelled.{Labelled}
use Rattle.wt_torus.specs.declared.partition.Partition.{Partition}
use Rattle.wt_torus.specs.Boxes.{is_rotation}

-- each half-plane of each region has a direction
abbrev pub RegionsDirected : List Labelled → Type 0
RegionsDirected [] = Unit {0}
RegionsDirected (r ∷ rs) = AllDirected r.region.planes × RegionsDirected rs

-- each move is above 0 and below its side, denominators are above 0, and half-planes have directions
pub record IsSound (p : Partition) : Type 0 where
  pub rotation : is_rotation p.torus ≡ true
  pub width : pos 0 <ℤ p.torus.width.d
  pub height : pos 0 <ℤ p.torus.height.d
  pub move1 : pos 0 <ℤ p.torus.move1.d
  pub move2 : pos 0 <ℤ p.torus.move2.d
  pub directed : RegionsDirected p.regions
