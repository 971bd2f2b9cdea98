use Rattle.std.proofs.Common.{◌≡◌, drop, map}
use Rattle.wt_torus.specs.Letters.{label_of}
use Rattle.wt_session.specs.Torus.{is_among as among}
use Rattle.wt_session.proofs.words.torus.is_among.Given as goal

abbrev pub invariant-loop-r : goal.invariant-loop-r
invariant-loop-r l = among l.label (map label_of (drop l.r-index l.regions)) ≡ among l.label (map label_of l.regions)
