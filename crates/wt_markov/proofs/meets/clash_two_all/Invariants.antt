use Rattle.std.specs.Prelude.{◌≡◌, ◌++◌, drop}
use Rattle.wt_plane.specs.Regions.{clash_with_two}
use Rattle.wt_induce.specs.Faults.{moved_back}
use Rattle.wt_markov.proofs.meets.clash_two_all.Given as goal

abbrev pub invariant-loop-i : goal.invariant-loop-i
invariant-loop-i l = clash_with_two l.f (drop l.i l.first ++ (l.second ++ moved_back l.axis l.change l.back)) ≡ clash_with_two l.f (l.first ++ (l.second ++ moved_back l.axis l.change l.back))
