use Rattle.wt_pattern.proofs.FaultLaws.{window_sizes as sizes}
use Rattle.wt_pattern.proofs.laws.window_sizes.Goals as goal

pub returns : goal.returns
returns c = sizes
