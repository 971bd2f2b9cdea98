use Rattle.wt_search.proofs.LightChains.{light_good}
use Rattle.wt_search.proofs.laws.light_chains_are_good.Goals as goal

pub returns : goal.returns
returns c = light_good
