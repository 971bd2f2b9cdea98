use Rattle.std.proofs.Common.{◌≡◌, take}
use Rattle.wt_step.proofs.copy.copy_losses.Given as goal

abbrev pub invariant-loop-lost : goal.invariant-loop-lost
invariant-loop-lost l = l.copies.items ≡ take l.lost-index l.losses
