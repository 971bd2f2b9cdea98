-- The point that five numbers in 128 bits are, before they are divided by their common divisor.
use Rattle.wt_golden.specs.Wide.{number}
use Rattle.wt_plane.specs.declared.point.Five.{Five}
use Rattle.wt_plane.specs.HalfPlanes.{Spot}

-- the point of the five numbers
abbrev pub point : Five → Spot
point s = record { x = number s.x; y = number s.y; d = s.d }
