-- The zones of an axis and the two sides of a window's edge, as the code keeps them.
use Rattle.std.specs.Prelude.{◌≡◌, Bool, true, false, List, [], ◌∷◌, ◌++◌}
use Rattle.wt_grid.specs.declared.axis.Axis.{Axis}
use Rattle.wt_plane.specs.HalfPlanes.{Half, reduced_half}
use Rattle.wt_torus.specs.declared.partition.Labelled.{Labelled}
use Rattle.wt_torus.specs.Boxes.{Rotation}
use Rattle.wt_induce.specs.Faults.{moved_back}
use Rattle.wt_induce.specs.Zones.{frame_on, beyond, beneath}
use Rattle.wt_markov.specs.declared.turns.Turns.{Turns}
use Rattle.wt_markov.specs.declared.edges.Edges.{Edges}
use Rattle.wt_markov.specs.Follow.{box, turn_zone, turn_move, meets}

-- the box with each zone of the axis, and the moves of both
pub record IsTurns (axis : Axis) (r : Rotation) (z : Turns) : Type 0 where
  pub along : z.axis ≡ axis
  pub on : z.on ≡ turn_move axis r false
  pub back : z.back ≡ turn_move axis r true
  pub low : z.low ≡ box r ++ turn_zone axis r false
  pub high : z.high ≡ box r ++ turn_zone axis r true

-- the box with each side of the edge of the axis's window
pub record IsEdges (axis : Axis) (r : Rotation) (e : Edges) : Type 0 where
  pub beyond : e.beyond ≡ box r ++ (reduced_half (beyond axis (frame_on axis r).size) ∷ [])
  pub inside : e.inside ≡ box r ++ (reduced_half (beneath axis (frame_on axis r).size) ∷ [])

-- the half-planes of region q moved back by the move of the zone that a turn moves on
abbrev pub planes_on : Turns → Labelled → List Half
planes_on z q = moved_back z.axis z.on q.region.planes

-- the same by the move of the zone that it takes back by the length
abbrev pub planes_back : Turns → Labelled → List Half
planes_back z q = moved_back z.axis z.back q.region.planes

-- some point of region p in the first zone is moved into region q
abbrev pub follows_on : Turns → Labelled → Labelled → Bool
follows_on z p q = meets (z.low ++ (p.region.planes ++ planes_on z q))

-- some point of region p in the second zone is
abbrev pub follows_back : Turns → Labelled → Labelled → Bool
follows_back z p q = meets (z.high ++ (p.region.planes ++ planes_back z q))
