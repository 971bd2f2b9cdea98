use Rattle.std.proofs.Common.{arith}
use Rattle.wt_lane.proofs.Bits.{lowest_at}
use Rattle.wt_lane.proofs.masks.lowest_in.Goals as goal

pub returns-then-word-ne0 : goal.returns-then-word-ne0
returns-then-word-ne0 c = lowest_at c.args.words.now c.loop-word.word-index c.loop-word.start (omega (arith, c.loop-word-test.true, c.requires)) c.loop-word.invariant.start c.loop-word.invariant.zeros (omega (arith, c.if-word-ne0.true)) (c.type_inv.words c.loop-word.word-index).fits
