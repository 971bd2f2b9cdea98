use Rattle.wt_periodic.proofs.OneLeast.{one_least}
use Rattle.wt_periodic.proofs.laws.least_wraps_are_one.Goals as goal

pub returns : goal.returns
returns c = one_least
