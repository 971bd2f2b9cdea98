use Rattle.wt_chain.proofs.Open.{upgraded}
use Rattle.wt_chain.proofs.accepted.upgrade.Goals as goal

pub of-requires : goal.of-requires
of-requires c = upgraded c.into_raw-raw.result c.into_raw-raw.ensures.good
