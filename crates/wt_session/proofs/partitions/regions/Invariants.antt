use Rattle.std.proofs.Common.{◌≡◌, drop}
use Rattle.wt_session.specs.Partitions.{regions_from}
use Rattle.wt_session.proofs.Made.{led}
use Rattle.wt_session.proofs.partitions.regions.Given as goal

abbrev pub invariant-loop-i : goal.invariant-loop-i
invariant-loop-i l = led l.made.items (regions_from l.i (drop l.i l.raws)) ≡ regions_from 0 l.raws
