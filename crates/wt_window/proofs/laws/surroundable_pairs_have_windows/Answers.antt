use Rattle.wt_window.proofs.Outcomes.{empty_or_not, tested, matched}
use Rattle.wt_window.proofs.laws.surroundable_pairs_have_windows.Goals as goal

pub returns : goal.returns
returns c = record { empty = empty_or_not; test = tested; matched = matched }
