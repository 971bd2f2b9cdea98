use Rattle.std.proofs.Common.{refl}
use Rattle.wt_chain.specs.declared.raw.End.TheVariants.{Open}
use Rattle.wt_chain.proofs.Open.{ended}
use Rattle.wt_chain.proofs.chain.Chain.finish.Goals as goal

pub of-requires : goal.of-requires
of-requires c = rw c.new.ensures (ended c.self.inside.steps.items c.self.inside.version Open c.self.invariant refl)
