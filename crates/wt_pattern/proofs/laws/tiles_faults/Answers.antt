use Rattle.wt_pattern.proofs.FaultLaws.{tiles_below, no_stranger}
use Rattle.wt_pattern.proofs.laws.tiles_faults.Goals as goal

pub returns-clause-sound : goal.returns-clause-sound
returns-clause-sound c = tiles_below

pub returns-clause-complete : goal.returns-clause-complete
returns-clause-complete c = no_stranger
