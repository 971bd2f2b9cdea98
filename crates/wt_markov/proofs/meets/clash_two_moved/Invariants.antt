use Rattle.std.specs.Prelude.{◌≡◌, drop, true}
use Rattle.std.specs.List.{list_all}
use Rattle.wt_plane.specs.Regions.{clash_with_two}
use Rattle.wt_induce.specs.Faults.{is_small_half, moved_back}
use Rattle.wt_markov.proofs.meets.clash_two_moved.Given as goal

abbrev pub invariant-loop-i : goal.invariant-loop-i
invariant-loop-i l = (clash_with_two l.f (moved_back l.axis l.change (drop l.i l.back)) ≡ clash_with_two l.f (moved_back l.axis l.change l.back)) × (list_all is_small_half (moved_back l.axis l.change (drop l.i l.back)) ≡ true)
