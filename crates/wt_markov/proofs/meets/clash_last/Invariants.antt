use Rattle.std.specs.Prelude.{◌≡◌, ◌++◌, drop}
use Rattle.wt_induce.specs.Induced.{some_clash}
use Rattle.wt_induce.specs.Faults.{moved_back}
use Rattle.wt_markov.proofs.meets.clash_last.Given as goal

abbrev pub invariant-loop-i : goal.invariant-loop-i
invariant-loop-i l = some_clash (drop l.i l.second ++ moved_back l.axis l.change l.back) ≡ some_clash (l.second ++ moved_back l.axis l.change l.back)
