use Rattle.std.proofs.Common.{length}
use Rattle.wt_mask.specs.Masks.{may_stand}
use Rattle.wt_mask.specs.declared.sides.Way.TheVariants.{Left}
use Rattle.wt_strip.proofs.Walked.{allows_bit}
use Rattle.wt_strip.proofs.walk.left_of.Goals as goal

pub returns : goal.returns
returns c = λ t lt. allows_bit _ t (length c.args.sides.now.tiles.now) (may_stand c.args.sides.now.tiles.now Left c.args.u t) (c.beside.ensures t) lt
