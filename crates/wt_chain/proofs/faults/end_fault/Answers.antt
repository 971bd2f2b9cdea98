use Rattle.wt_chain.proofs.Run.{run_drop}
use Rattle.wt_chain.proofs.faults.end_fault.Goals as goal

pub loop_fault-requires : goal.loop_fault-requires
loop_fault-requires c = rw c.steps_from.ensures (run_drop c.in-Loop.start c.args.links.now c.requires)
