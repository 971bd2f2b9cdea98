use Rattle.wt_search.proofs.LightCounts.{chain_counted}
use Rattle.wt_search.proofs.laws.light_chains_are_small.Goals as goal

pub returns : goal.returns
returns c = chain_counted
