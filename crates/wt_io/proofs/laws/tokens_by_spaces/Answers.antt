use Rattle.wt_io.proofs.Spaces.{length-tokens}
use Rattle.wt_io.proofs.laws.tokens_by_spaces.Goals as goal

pub returns : goal.returns
returns c = length-tokens
