use Rattle.wt_step.proofs.Goodness.{good_step}
use Rattle.wt_step.proofs.ImageLaw.{image_valid}
use Rattle.wt_scale.proofs.laws.images_are_valid.Goals as goal

pub returns : goal.returns
returns c = λ s e q p. image_valid s (good_step s e) q p
