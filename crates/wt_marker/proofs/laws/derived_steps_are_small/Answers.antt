use Rattle.wt_marker.proofs.Deriving.{few_nodes_in_all}
use Rattle.wt_marker.proofs.SlimSteps.{slim_step}
use Rattle.wt_marker.proofs.laws.derived_steps_are_small.Goals as goal

pub returns : goal.returns
returns c = record { step = slim_step; nodes = few_nodes_in_all }
