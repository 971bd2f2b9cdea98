use Rattle.std.proofs.Common.{◌≡◌, drop}
use Rattle.std.specs.List.{list_all}
use Rattle.wt_step.specs.Words.{image_fits}
use Rattle.wt_step.proofs.shape.all_fit.Given as goal

abbrev pub invariant-loop-image : goal.invariant-loop-image
invariant-loop-image l = list_all (image_fits l.below) (drop l.image-index l.images) ≡ list_all (image_fits l.below) l.images
