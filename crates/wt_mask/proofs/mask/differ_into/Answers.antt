use Rattle.std.proofs.Common.{arith}
use Rattle.wt_mask.proofs.Bits.{bits_xor}
use Rattle.wt_mask.proofs.mask.differ_into.Goals as goal

pub returns : goal.returns
returns c = λ i. bits_xor c.args.a.now c.args.b.now i (omega arith)
