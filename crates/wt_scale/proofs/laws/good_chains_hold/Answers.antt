use Rattle.wt_scale.proofs.Holding.{good_holds}
use Rattle.wt_scale.proofs.laws.good_chains_hold.Goals as goal

pub returns : goal.returns
returns c = good_holds
