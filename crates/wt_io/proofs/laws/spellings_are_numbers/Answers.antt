use Rattle.wt_text.proofs.Numbers.{number_again}
use Rattle.wt_io.proofs.laws.spellings_are_numbers.Goals as goal

pub returns : goal.returns
returns c = number_again
