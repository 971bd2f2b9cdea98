use Rattle.wt_chain.proofs.Grown.{fine_good}
use Rattle.wt_chain.proofs.Run.{few_numbers}
use Rattle.wt_chain.proofs.faults.closed_expansion.Goals as goal

pub of-set-requires : goal.of-set-requires
of-set-requires c = rw c.fine_set.ensures (fine_good c.args.first.now c.requires.closed.0.0)

pub least_expansion-requires-clause-few : goal.least_expansion-requires-clause-few
least_expansion-requires-clause-few c =
    few_numbers c.args.first.now c.args.others.now c.args.renaming.now c.requires.closed.0 c.requires.closed.1
