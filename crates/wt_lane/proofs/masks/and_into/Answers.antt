use Rattle.std.proofs.Common.{arith}
use Rattle.wt_lane.proofs.Bits.{bits_and}
use Rattle.wt_lane.proofs.masks.and_into.Goals as goal

pub returns : goal.returns
returns c = λ i. bits_and c.args.a.now c.args.b.now i (omega arith)
