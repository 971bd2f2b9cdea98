use Rattle.wt_search.proofs.LightLeast.{light_entry, same_pairs}
use Rattle.wt_search.proofs.laws.light_steps_have_least_radii.Goals as goal

pub returns-clause-entries : goal.returns-clause-entries
returns-clause-entries c = light_entry

pub returns-clause-pairs : goal.returns-clause-pairs
returns-clause-pairs c = same_pairs
