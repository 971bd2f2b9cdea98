use Rattle.wt_scale.proofs.RenamedBack.{renamed_back_valid}
use Rattle.wt_scale.proofs.laws.renamed_patterns_are_valid.Goals as goal

pub returns : goal.returns
returns c = renamed_back_valid
