use Rattle.wt_chain.proofs.Goodness.{good}
use Rattle.wt_scale.proofs.NoPeriods.{no_period}
use Rattle.wt_scale.proofs.laws.large_patterns_have_no_period.Goals as goal

pub returns : goal.returns
returns c = λ chain e loop. no_period chain (good chain e) loop.start loop.expansion loop.renaming loop.ends loop.first loop.later loop.begins
