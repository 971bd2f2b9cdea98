use Rattle.wt_scale.proofs.Doubling.{doubled_sides}
use Rattle.wt_scale.proofs.laws.turns_double_patterns.Goals as goal

pub returns : goal.returns
returns c = doubled_sides
