use Rattle.wt_script.proofs.Follow.{followed, skipped}
use Rattle.wt_script.proofs.laws.pieces_follow.Goals as goal

pub returns-clause-followed : goal.returns-clause-followed
returns-clause-followed c = followed

pub returns-clause-skipped : goal.returns-clause-skipped
returns-clause-skipped c = skipped
