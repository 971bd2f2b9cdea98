use Rattle.std.proofs.Common.{◌≡◌, drop}
use Rattle.std.specs.List.{list_any}
use Rattle.wt_step.specs.Words.{same_image}
use Rattle.wt_step.proofs.rules.has_image.Given as goal

abbrev pub invariant-loop-other : goal.invariant-loop-other
invariant-loop-other l = list_any (same_image l.image) (drop l.other-index l.images) ≡ list_any (same_image l.image) l.images
