use Rattle.wt_text.proofs.Numbers.{number_found}
use Rattle.wt_io.proofs.laws.numbers_are_spelled.Goals as goal

pub returns : goal.returns
returns c = number_found
