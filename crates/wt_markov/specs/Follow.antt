-- Which regions can follow each other along an axis: some point of one may be moved to a point of the other.
use Rattle.std.specs.Prelude.{Bool, true, false, ◌||◌, not, List, ◌++◌}
use Rattle.wt_grid.specs.declared.axis.Axis.{Axis}
use Rattle.wt_grid.specs.declared.axis.Axis.TheVariants.{One, Two}
use Rattle.wt_golden.specs.Fractions.{Fraction, lowest, difference}
use Rattle.wt_plane.specs.HalfPlanes.{Half}
use Rattle.wt_torus.specs.declared.partition.Labelled.{Labelled}
use Rattle.wt_torus.specs.Boxes.{Rotation, length_of, move_of}
use Rattle.wt_induce.specs.Zones.{between, zero_fraction}
use Rattle.wt_induce.specs.Induced.{some_clash}
use Rattle.wt_induce.specs.Faults.{moved_back}

-- every three of the half-planes, repeats allowed, have a common point
abbrev pub meets : List Half → Bool
meets hs = not (some_clash hs)

-- the half-planes of the box
abbrev pub box : Rotation → List Half
box r = between One zero_fraction r.width ++ between Two zero_fraction r.height

-- what the length is more than the move: from there on a turn is taken back by the length
abbrev pub rest : Axis → Rotation → Fraction
rest axis r = lowest (difference (length_of axis r) (move_of axis r))

-- The two zones of an axis: coordinates that a turn moves on, and those that it takes back by the length.
abbrev pub turn_zone : Axis → Rotation → Bool → List Half
turn_zone axis r false = between axis zero_fraction (rest axis r)
turn_zone axis r true = between axis (rest axis r) (length_of axis r)

-- by how much a turn moves the coordinates of a zone
abbrev pub turn_move : Axis → Rotation → Bool → Fraction
turn_move axis r false = move_of axis r
turn_move axis r true = lowest (difference (move_of axis r) (length_of axis r))

-- what holds at the points of region p that a turn moves, within a zone, to points of region q
abbrev pub turn_planes : Axis → Rotation → Bool → Labelled → Labelled → List Half
turn_planes axis r back p q =
    box r ++ (turn_zone axis r back ++ (p.region.planes ++ moved_back axis (turn_move axis r back) q.region.planes))

-- region p can be followed by region q along the axis
unfoldable pub can_follow : Axis → Rotation → Labelled → Labelled → Bool
can_follow axis r p q = meets (turn_planes axis r false p q) || meets (turn_planes axis r true p q)
