use Rattle.wt_scale.proofs.LinkImages.{link_image}
use Rattle.wt_scale.proofs.laws.link_images_are_valid.Goals as goal

pub returns : goal.returns
returns c = link_image
