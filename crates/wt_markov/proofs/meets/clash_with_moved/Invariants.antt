use Rattle.std.specs.Prelude.{◌≡◌, drop, true}
use Rattle.std.specs.List.{list_all}
use Rattle.wt_plane.specs.Regions.{clash_with}
use Rattle.wt_induce.specs.Faults.{is_small_half, moved_back}
use Rattle.wt_markov.proofs.meets.clash_with_moved.Given as goal

abbrev pub invariant-loop-h : goal.invariant-loop-h
invariant-loop-h l = (clash_with l.f l.g (moved_back l.axis l.change (drop l.h-index l.back)) ≡ clash_with l.f l.g (moved_back l.axis l.change l.back)) × (list_all is_small_half (moved_back l.axis l.change (drop l.h-index l.back)) ≡ true)
