use Rattle.wt_session.proofs.Some.{replied}
use Rattle.wt_session.proofs.laws.replies_exist.Goals as goal

pub returns : goal.returns
returns c = replied
