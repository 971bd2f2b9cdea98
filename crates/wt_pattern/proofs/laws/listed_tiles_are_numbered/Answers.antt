use Rattle.wt_pattern.proofs.SetTexts.{listed_numbered, numbered_listed}
use Rattle.wt_pattern.proofs.laws.listed_tiles_are_numbered.Goals as goal

pub returns : goal.returns
returns c = record { numbered = listed_numbered; listed = numbered_listed }
