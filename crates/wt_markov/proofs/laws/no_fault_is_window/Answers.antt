use Rattle.wt_markov.proofs.Faultless.{window_without, edges_within, no_window_fault}
use Rattle.wt_markov.proofs.laws.no_fault_is_window.Goals as goal

pub returns-clause-holds : goal.returns-clause-holds
returns-clause-holds c = λ s p e. (window_without s p e, edges_within s p e)

pub returns-clause-back : goal.returns-clause-back
returns-clause-back c = λ s p m f. no_window_fault s p m.0 m.1 m.2 f
