use Rattle.wt_tile.proofs.TileSets.{tile_set, no_fault}
use Rattle.wt_tile.proofs.laws.tile_sets.Goals as goal

pub returns-clause-sound : goal.returns-clause-sound
returns-clause-sound c = tile_set

pub returns-clause-complete : goal.returns-clause-complete
returns-clause-complete c = no_fault
