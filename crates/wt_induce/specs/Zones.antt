-- The window of an axis, its two zones, and half-planes moved along the axis.
use Rattle.std.specs.Prelude.{pos, List, [], ◌∷◌, Bool, true, false, if◌then◌else◌}
use Rattle.wt_grid.specs.declared.axis.Axis.TheVariants.{One, Two}
use Rattle.wt_grid.specs.declared.axis.Axis.{Axis}
use Rattle.wt_golden.specs.Whole.{whole, opposite}
use Rattle.wt_golden.specs.Fractions.{Fraction, top, lowest, sum, difference}
use Rattle.wt_plane.specs.HalfPlanes.{Half, reduced_half, moved_half}
use Rattle.wt_induce.specs.declared.zones.Frame.{Frame}
use Rattle.wt_torus.specs.Boxes.{Rotation, length_of, move_of, is_below}

-- two times the number
abbrev pub twice : Fraction → Fraction
twice f = sum f f

-- the window for a move of less than half of the length: what the length is more than the move is its size
abbrev pub low_frame : Fraction → Fraction → Frame
low_frame length move =
    let rest = lowest (difference length move) in
    record { size = rest; step = move; bound = lowest (difference rest move); single_below = true }

-- the window for a move of more: what the length is more than the move is its bound
abbrev pub high_frame : Fraction → Fraction → Frame
high_frame length move =
    let rest = lowest (difference length move) in
    record { size = move; step = lowest (difference move rest); bound = rest; single_below = false }

-- the window of a length and a move
abbrev pub frame : Fraction → Fraction → Frame
frame length move = if is_below (top (twice move)) (twice move).d length then low_frame length move else high_frame length move

-- the window of a rotation along an axis
abbrev pub frame_on : Axis → Rotation → Frame
frame_on axis r = frame (length_of axis r) (move_of axis r)

-- the rotation of the window
abbrev pub framed : Axis → Rotation → Rotation
framed One r = record { width = (frame_on One r).size; height = r.height; move1 = (frame_on One r).step; move2 = r.move2 }
framed Two r = record { width = r.width; height = (frame_on Two r).size; move1 = r.move1; move2 = (frame_on Two r).step }

-- t - f > 0 along the axis, before common divisors are taken out
abbrev pub beyond : Axis → Fraction → Half
beyond One f = record { p = whole f.d; q = whole (pos 0); r = opposite (top f) }
beyond Two f = record { p = whole (pos 0); q = whole f.d; r = opposite (top f) }

-- f - t > 0
abbrev pub beneath : Axis → Fraction → Half
beneath One f = record { p = opposite (whole f.d); q = whole (pos 0); r = top f }
beneath Two f = record { p = whole (pos 0); q = opposite (whole f.d); r = top f }

-- the number 0
abbrev pub zero_fraction : Fraction
zero_fraction = record { a = pos 0; b = pos 0; d = pos 1 }

-- holds at a point where h holds at the point moved by f along the axis
abbrev pub moved_along : Axis → Fraction → Half → Half
moved_along One f h = moved_half h f zero_fraction
moved_along Two f h = moved_half h zero_fraction f

-- where the zone below the bound begins, or the one above it
abbrev pub zone_low : Frame → Bool → Fraction
zone_low w true = zero_fraction
zone_low w false = w.bound

-- where it ends
abbrev pub zone_high : Frame → Bool → Fraction
zone_high w true = w.bound
zone_high w false = w.size

-- the two half-planes of the coordinates from low to high
abbrev pub between : Axis → Fraction → Fraction → List Half
between axis low high = reduced_half (beyond axis low) ∷ reduced_half (beneath axis high) ∷ []

-- the two half-planes of the zone below the bound, or of the one above it
abbrev pub zone : Axis → Frame → Bool → List Half
zone axis w below = between axis (zone_low w below) (zone_high w below)
