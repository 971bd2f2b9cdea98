use Rattle.wt_chain.proofs.Goodness.{good}
use Rattle.wt_cert.proofs.WithinLimits.{good_writable}
use Rattle.wt_cert.proofs.laws.good_chains_have_texts.Goals as goal

pub returns : goal.returns
returns c = λ set chain fault begins one two within. good_writable set chain (good chain fault) begins one two within
