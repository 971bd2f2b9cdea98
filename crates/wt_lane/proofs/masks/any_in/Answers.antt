use Rattle.wt_lane.proofs.Bits.{lanes_any}
use Rattle.wt_lane.proofs.masks.any_in.Goals as goal

pub returns : goal.returns
returns c = lanes_any c.args.words.now c.requires (λ k. (c.type_inv.words k).fits)
