use Rattle.wt_script.proofs.Bound.{script_binds}
use Rattle.wt_script.proofs.laws.bound_names_are_well_formed.Goals as goal

pub returns : goal.returns
returns c = script_binds
