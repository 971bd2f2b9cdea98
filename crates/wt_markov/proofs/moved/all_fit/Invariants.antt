use Rattle.std.specs.Prelude.{◌≡◌, drop}
use Rattle.std.specs.List.{list_all}
use Rattle.wt_induce.specs.Faults.{is_small_half, moved_back}
use Rattle.wt_markov.proofs.moved.all_fit.Given as goal

abbrev pub invariant-loop-h : goal.invariant-loop-h
invariant-loop-h l = list_all is_small_half (moved_back l.axis l.change (drop l.h-index l.planes)) ≡ list_all is_small_half (moved_back l.axis l.change l.planes)
