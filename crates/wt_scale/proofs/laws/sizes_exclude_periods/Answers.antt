use Rattle.wt_chain.proofs.Goodness.{good}
use Rattle.wt_scale.proofs.SizeLaws.{excluded}
use Rattle.wt_scale.proofs.laws.sizes_exclude_periods.Goals as goal

pub returns : goal.returns
returns c = λ chain e x y size h first rest steps. excluded chain (good chain e) first rest steps x y size h
