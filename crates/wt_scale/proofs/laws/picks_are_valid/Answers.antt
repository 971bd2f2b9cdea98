use Rattle.wt_chain.proofs.Goodness.{good}
use Rattle.wt_scale.proofs.EverySize.{valid_pick}
use Rattle.wt_scale.proofs.laws.picks_are_valid.Goals as goal

pub returns : goal.returns
returns c = λ chain e loop. valid_pick chain (good chain e) loop.start loop.expansion loop.renaming loop.ends loop.first loop.later loop.begins
