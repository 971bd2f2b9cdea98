use Rattle.std.proofs.Common.{refl}
use Rattle.wt_check.proofs.Composed.{one_more}
use Rattle.wt_check.proofs.laws.turns_compose.Goals as goal

pub returns-clause-none : goal.returns-clause-none
returns-clause-none c = λ loop renaming t. refl

pub returns-clause-more : goal.returns-clause-more
returns-clause-more c = λ loop renaming n t. one_more loop renaming n t
