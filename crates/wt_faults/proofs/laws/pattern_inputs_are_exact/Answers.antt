use Rattle.wt_faults.proofs.Shaped.{shaped_spelled, spelled_shaped}
use Rattle.wt_faults.proofs.laws.pattern_inputs_are_exact.Goals as goal

pub returns-clause-found : goal.returns-clause-found
returns-clause-found c = shaped_spelled

pub returns-clause-again : goal.returns-clause-again
returns-clause-again c = spelled_shaped
