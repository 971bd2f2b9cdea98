use Rattle.std.proofs.Common.{sym}
use Rattle.wt_step.proofs.Sorted.{sorted}
use Rattle.wt_step.proofs.restrict.restrict_fault.Goals as goal

pub use_fault-requires : goal.use_fault-requires
use_fault-requires c = sorted c.args.raw.now (sym c.in-None.ensures)
