use Rattle.std.proofs.Common.{◌≡◌, drop}
use Rattle.std.specs.List.{list_any}
use Rattle.wt_step.specs.Restrict.{loses}
use Rattle.wt_step.proofs.restrict.is_lost.Given as goal

abbrev pub invariant-loop-lost : goal.invariant-loop-lost
invariant-loop-lost l = list_any (loses l.tile) (drop l.lost-index l.losses) ≡ list_any (loses l.tile) l.losses
