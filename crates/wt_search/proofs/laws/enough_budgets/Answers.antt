use Rattle.wt_search.proofs.Enough.{enough_for}
use Rattle.wt_search.proofs.laws.enough_budgets.Goals as goal

pub returns : goal.returns
returns c = enough_for
