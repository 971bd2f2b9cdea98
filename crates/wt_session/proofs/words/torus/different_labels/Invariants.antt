use Rattle.std.proofs.Common.{◌≡◌, ◌+◌, ◌≤◌, length, map}
use Rattle.wt_torus.specs.Letters.{label_of}
use Rattle.wt_session.specs.Torus.{different}
use Rattle.wt_session.proofs.words.torus.different_labels.Given as goal

abbrev pub invariant-loop-rest : goal.invariant-loop-rest
invariant-loop-rest l = record {
  left : l.count + different (map label_of l.rest) ≡ different (map label_of l.regions);
  few : l.count + length l.rest ≤ length l.regions;
}

abbrev pub decreases-loop-rest : goal.decreases-loop-rest
decreases-loop-rest l = length l.rest
