use Rattle.wt_strip.proofs.TextLaws.{strip_found, strip_again}
use Rattle.wt_strip.proofs.laws.strip_texts_are_exact.Goals as goal

pub returns-clause-found : goal.returns-clause-found
returns-clause-found c = strip_found

pub returns-clause-again : goal.returns-clause-again
returns-clause-again c = strip_again
