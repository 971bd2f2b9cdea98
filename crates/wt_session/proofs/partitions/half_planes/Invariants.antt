use Rattle.std.proofs.Common.{◌≡◌, drop}
use Rattle.wt_session.specs.Partitions.{halves_from}
use Rattle.wt_session.proofs.Made.{led}
use Rattle.wt_session.proofs.partitions.half_planes.Given as goal

abbrev pub invariant-loop-j : goal.invariant-loop-j
invariant-loop-j l = led l.made.items (halves_from l.j (drop l.j l.planes)) ≡ halves_from 0 l.planes
