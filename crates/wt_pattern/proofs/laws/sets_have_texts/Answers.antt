use Rattle.wt_tile.proofs.TileSets.{tile_set}
use Rattle.wt_pattern.proofs.SetsListed.{set_listed}
use Rattle.wt_pattern.proofs.laws.sets_have_texts.Goals as goal

pub returns : goal.returns
returns c = λ list e. set_listed list (tile_set list e)
