use Rattle.wt_morphism.proofs.Evenness.{only_image}
use Rattle.wt_morphism.proofs.laws.images_are_images.Goals as goal

pub returns : goal.returns
returns c = only_image
