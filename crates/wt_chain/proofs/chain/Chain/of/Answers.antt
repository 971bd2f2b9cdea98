use Rattle.wt_chain.proofs.Open.{reopened}
use Rattle.wt_chain.proofs.chain.Chain.of.Goals as goal

pub invariant_of-result : goal.invariant_of-result
invariant_of-result c = rw (c.into_vec.ensures, c.version_of-version.ensures, c.as_slice.ensures) (reopened c.args.raw c.requires)
