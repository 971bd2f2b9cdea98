use Rattle.std.proofs.Common.{length}
use Rattle.wt_mask.specs.Masks.{may_stand}
use Rattle.wt_mask.specs.declared.sides.Way.TheVariants.{Up}
use Rattle.wt_strip.proofs.Walked.{allows_bit}
use Rattle.wt_strip.proofs.walk.above.Goals as goal

pub returns : goal.returns
returns c = λ t lt. allows_bit _ t (length c.args.sides.now.tiles.now) (may_stand c.args.sides.now.tiles.now Up c.args.a t) (c.beside.ensures t) lt
