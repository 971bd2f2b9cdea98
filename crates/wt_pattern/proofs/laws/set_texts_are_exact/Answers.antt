use Rattle.wt_pattern.proofs.SetTexts.{read_spelled, spelled_read}
use Rattle.wt_pattern.proofs.laws.set_texts_are_exact.Goals as goal

pub returns : goal.returns
returns c = record { found = read_spelled; again = spelled_read }
