use Rattle.std.proofs.Common.{◌≡◌, ◌++◌, drop}
use Rattle.wt_session.specs.Derive.{images_text}
use Rattle.wt_session.proofs.words.derive.push_images.Given as goal

abbrev pub invariant-loop-image : goal.invariant-loop-image
invariant-loop-image l = l.out.items ++ images_text (drop l.image-index l.images) ≡ l.initial.out.items ++ images_text l.images
