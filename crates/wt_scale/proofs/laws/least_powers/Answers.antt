use Rattle.wt_scale.proofs.Powers.{enough, least}
use Rattle.wt_scale.proofs.laws.least_powers.Goals as goal

pub returns : goal.returns
returns c = λ n. (enough n, least n)
