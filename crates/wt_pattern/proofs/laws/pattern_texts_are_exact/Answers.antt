use Rattle.wt_pattern.proofs.PatternTexts.{grid_spelled, grid_read}
use Rattle.wt_pattern.proofs.laws.pattern_texts_are_exact.Goals as goal

pub returns : goal.returns
returns c = record { found = grid_spelled; again = λ g text. grid_read g text.0 text.1 }
