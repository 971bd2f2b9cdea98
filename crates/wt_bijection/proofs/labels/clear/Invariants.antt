use Rattle.std.proofs.Common.{◌≡◌, length}
use Rattle.wt_bijection.specs.Labels.{AreCleared}
use Rattle.wt_bijection.proofs.labels.clear.Given as goal

abbrev pub invariant-loop-i : goal.invariant-loop-i
invariant-loop-i l = record {
  whole : length l.sums ≡ 512;
  cleared : AreCleared l.axis l.tiles l.i l.sums;
}
