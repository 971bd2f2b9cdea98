use Rattle.wt_chain.proofs.Goodness.{good}
use Rattle.wt_scale.proofs.Holding.{good_holds}
use Rattle.wt_periodic.proofs.NoWraps.{never_wraps}
use Rattle.wt_periodic.proofs.laws.looped_sets_have_no_wrap.Goals as goal

pub returns : goal.returns
returns c = λ chain e. never_wraps chain (good_holds chain (good chain e)).no_period
