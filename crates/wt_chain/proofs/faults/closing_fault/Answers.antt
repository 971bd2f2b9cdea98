use Rattle.wt_chain.proofs.Grown.{fine_good}
use Rattle.wt_chain.proofs.Run.{from_good, few_numbers}
use Rattle.wt_chain.proofs.faults.closing_fault.Goals as goal

pub of-from-requires : goal.of-from-requires
of-from-requires c =
    rw (c.last_set.ensures, c.coarse_set.ensures) (from_good c.args.first.now c.args.others.now c.requires.linked)

pub of-to-requires : goal.of-to-requires
of-to-requires c = rw c.fine_set.ensures (fine_good c.args.first.now c.requires.linked.0)

pub growth_fault-requires-clause-few : goal.growth_fault-requires-clause-few
growth_fault-requires-clause-few c =
    let fault = (c.in-Ok.ensures {u = tt}).exact in
    few_numbers c.args.first.now c.args.others.now c.args.renaming.now c.requires.linked
    (rw (c.of-from.ensures, c.of-to.ensures, c.last_set.ensures, c.coarse_set.ensures, c.fine_set.ensures) at fault)
