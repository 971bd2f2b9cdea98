use Rattle.wt_check.specs.Seeds.{loop_tiles, power_corners}
use Rattle.wt_check.proofs.Ascending.{seeds_ascend}
use Rattle.wt_check.proofs.laws.seeds_ascend.Goals as goal

pub returns : goal.returns
returns c = λ loop renaming q. seeds_ascend (loop_tiles loop) (power_corners loop renaming q)
