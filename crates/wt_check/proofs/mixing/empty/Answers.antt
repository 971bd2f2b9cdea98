use Rattle.wt_check.proofs.Bits.{empty_bit}
use Rattle.wt_check.proofs.mixing.empty.Goals as goal

pub returns : goal.returns
returns c = empty_bit
