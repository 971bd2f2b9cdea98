-- A box that is turned along both axes, and which points are in it.
use Rattle.std.specs.Prelude.{ℤ, Bool, ◌&&◌}
use Rattle.wt_grid.specs.declared.axis.Axis.TheVariants.{One, Two}
use Rattle.wt_grid.specs.declared.axis.Axis.{Axis}
use Rattle.wt_golden.specs.Whole.{Whole, whole, minus, times, is_positive}
use Rattle.wt_golden.specs.Fractions.{Fraction, top}
use Rattle.wt_plane.specs.HalfPlanes.{Spot}

-- a box and a move along each axis
pub record Rotation : Type 0 where
  pub width : Fraction
  pub height : Fraction
  pub move1 : Fraction
  pub move2 : Fraction

-- the side of the box along an axis
abbrev pub length_of : Axis → Rotation → Fraction
length_of One r = r.width
length_of Two r = r.height

-- the move along an axis
abbrev pub move_of : Axis → Rotation → Fraction
move_of One r = r.move1
move_of Two r = r.move2

-- x / d is below f
abbrev pub is_below : Whole → ℤ → Fraction → Bool
is_below x d f = is_positive (minus (times (top f) (whole d)) (times x (whole f.d)))

-- above 0 and below the length
abbrev pub is_between : Whole → ℤ → Fraction → Bool
is_between x d length = is_positive x && is_below x d length

-- each move is above 0 and below the side of its axis
abbrev pub is_rotation : Rotation → Bool
is_rotation r = is_between (top r.move1) r.move1.d r.width && is_between (top r.move2) r.move2.d r.height

-- strictly inside the box
abbrev pub is_in_box : Rotation → Spot → Bool
is_in_box r z = is_between z.x z.d r.width && is_between z.y z.d r.height

-- the box with these sides and moves
abbrev pub rotation : Fraction → Fraction → Fraction → Fraction → Rotation
rotation width height move1 move2 = record { width = width; height = height; move1 = move1; move2 = move2 }
