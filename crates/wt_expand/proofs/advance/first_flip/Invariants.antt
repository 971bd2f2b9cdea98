use Rattle.std.proofs.Common.{◌≡◌, drop}
use Rattle.wt_expand.specs.Advances.{flip_from}
use Rattle.wt_expand.specs.Counters.{counter_levels, digits_at}
use Rattle.wt_expand.proofs.advance.first_flip.Given as goal

abbrev pub invariant-loop-i : goal.invariant-loop-i
invariant-loop-i l =
    flip_from l.direction l.counter.renaming.now l.i (drop l.i (counter_levels l.counter)) (digits_at l.counter l.i l.space)
    ≡ flip_from l.direction l.counter.renaming.now 0 (counter_levels l.counter) (digits_at l.counter 0 l.space)
