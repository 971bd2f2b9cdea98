use Rattle.std.proofs.Common.{◌≡◌, ◌++◌, drop}
use Rattle.std.specs.List.{list_all}
use Rattle.wt_induce.specs.Faults.{is_small_half, moved_back}
use Rattle.wt_induce.proofs.backs.moved_planes.Given as goal

abbrev pub invariant-loop-h : goal.invariant-loop-h
invariant-loop-h l = record {
  moved : l.all.items ++ moved_back l.axis l.step (drop l.h-index l.planes) ≡ moved_back l.axis l.step l.planes;
  small : list_all is_small_half (moved_back l.axis l.step (drop l.h-index l.planes)) ≡ list_all is_small_half (moved_back l.axis l.step l.planes);
}
