use Rattle.wt_faults.proofs.DesubInputs.{desub_spelled, spelled_desub}
use Rattle.wt_faults.proofs.laws.desub_inputs_are_exact.Goals as goal

pub returns-clause-found : goal.returns-clause-found
returns-clause-found c = desub_spelled

pub returns-clause-again : goal.returns-clause-again
returns-clause-again c = spelled_desub
