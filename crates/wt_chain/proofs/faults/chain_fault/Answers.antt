use Rattle.std.proofs.Common.{sym}
use Rattle.wt_chain.proofs.Run.{run_from}
use Rattle.wt_chain.proofs.faults.chain_fault.Goals as goal

pub end_fault-requires : goal.end_fault-requires
end_fault-requires c = run_from c.as_slice-steps.result.now (sym c.in-None.ensures)
