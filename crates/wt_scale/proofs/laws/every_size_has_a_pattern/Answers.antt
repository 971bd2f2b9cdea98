use Rattle.wt_chain.proofs.Goodness.{good}
use Rattle.wt_scale.proofs.EverySize.{every_size}
use Rattle.wt_scale.proofs.laws.every_size_has_a_pattern.Goals as goal

pub returns : goal.returns
returns c = λ chain e loop. every_size chain (good chain e) loop.start loop.expansion loop.renaming loop.ends loop.first loop.later loop.begins
