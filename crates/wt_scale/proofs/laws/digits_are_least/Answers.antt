use Rattle.wt_scale.proofs.Digits.{below_digits, least_digits}
use Rattle.wt_scale.proofs.laws.digits_are_least.Goals as goal

pub returns-clause-above : goal.returns-clause-above
returns-clause-above c = below_digits

pub returns-clause-least : goal.returns-clause-least
returns-clause-least c = least_digits
