use Rattle.wt_session.proofs.One.{one}
use Rattle.wt_session.proofs.laws.replies_are_one.Goals as goal

pub returns : goal.returns
returns c = one
