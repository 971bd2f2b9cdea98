use Rattle.wt_chain.proofs.Goodness.{good, back}
use Rattle.wt_chain.proofs.laws.good_chains.Goals as goal

pub returns-clause-good : goal.returns-clause-good
returns-clause-good c = good

pub returns-clause-back : goal.returns-clause-back
returns-clause-back c = back
