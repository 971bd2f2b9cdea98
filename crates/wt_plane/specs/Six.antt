-- The half-plane that six numbers in 128 bits are, before they are divided by their common divisor.
use Rattle.wt_golden.specs.Wide.{number}
use Rattle.wt_plane.specs.declared.plane.Six.{Six}
use Rattle.wt_plane.specs.HalfPlanes.{Half}

-- the half-plane of the six numbers
abbrev pub half : Six → Half
half s = record { p = number s.p; q = number s.q; r = number s.r }
