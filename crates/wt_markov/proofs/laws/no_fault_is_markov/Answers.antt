use Rattle.wt_markov.proofs.Faultless.{markov_without, turns_within, no_markov_fault}
use Rattle.wt_markov.proofs.laws.no_fault_is_markov.Goals as goal

pub returns-clause-holds : goal.returns-clause-holds
returns-clause-holds c = λ ts p e. (markov_without ts p e, turns_within ts p e)

pub returns-clause-back : goal.returns-clause-back
returns-clause-back c = no_markov_fault
