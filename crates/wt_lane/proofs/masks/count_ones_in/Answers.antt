use Rattle.wt_lane.proofs.Bits.{four_words}
use Rattle.wt_lane.proofs.masks.count_ones_in.Goals as goal

pub returns : goal.returns
returns c = four_words c.args.words.now (λ k. (c.type_inv.words k).fits)
