use Rattle.wt_session.proofs.Binding.{new_value, other_values}
use Rattle.wt_session.proofs.laws.bound_names_are_found.Goals as goal

pub returns-clause-value : goal.returns-clause-value
returns-clause-value c = new_value

pub returns-clause-others : goal.returns-clause-others
returns-clause-others c = other_values
