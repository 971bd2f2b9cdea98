use Rattle.wt_pattern.proofs.FaultLaws.{tiles_below, is_valid, no_fault}
use Rattle.std.proofs.Common.{length}
use Rattle.wt_pattern.proofs.laws.faults.Goals as goal

pub returns-clause-sound : goal.returns-clause-sound
returns-clause-sound c = is_valid

pub returns-clause-complete : goal.returns-clause-complete
returns-clause-complete c = no_fault

pub returns-clause-pattern : goal.returns-clause-pattern
returns-clause-pattern c = λ ts g grid tiles valid. (grid, tiles_below (length ts) g tiles, is_valid ts g valid)
