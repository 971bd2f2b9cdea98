use Rattle.std.proofs.Common.{◌≡◌, drop}
use Rattle.wt_grid.specs.Order.{first_in}
use Rattle.wt_step.specs.Faults.{missing_pair_at}
use Rattle.wt_step.proofs.step.missing_pair_in.Given as goal

abbrev pub invariant-loop-pair : goal.invariant-loop-pair
invariant-loop-pair l = first_in (missing_pair_at l.raw) (drop l.pair-index l.pairs) ≡ first_in (missing_pair_at l.raw) l.pairs
