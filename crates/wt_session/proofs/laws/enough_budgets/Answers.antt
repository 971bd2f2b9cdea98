use Rattle.wt_session.proofs.Unspent.{unspent}
use Rattle.wt_session.proofs.laws.enough_budgets.Goals as goal

pub returns : goal.returns
returns c = unspent
