use Rattle.wt_check.proofs.Composed.{counts_of_turns}
use Rattle.wt_check.proofs.laws.counts_compose.Goals as goal

pub returns : goal.returns
returns c = counts_of_turns
