use Rattle.std.proofs.Common.{sym}
use Rattle.wt_chain.specs.declared.raw.End.TheVariants.{Loop}
use Rattle.wt_chain.proofs.Open.{ended}
use Rattle.wt_chain.proofs.Run.{run_from, run_drop}
use Rattle.wt_chain.proofs.chain.Chain.close.Goals as goal

pub loop_fault-requires : goal.loop_fault-requires
loop_fault-requires c =
    let steps = c.self.inside.steps.items in
    rw (c.steps_from.ensures, c.deref.ensures.value) (run_drop c.args.start steps (run_from steps c.self.invariant.good))

pub of-requires : goal.of-requires
of-requires c =
    let fault = c.in-None.ensures in
    let right = rw (c.steps_from.ensures, c.deref.ensures.value, c.deref-2.ensures.value) at fault in
    rw (c.new.ensures, c.new-in-None.ensures)
    (ended c.self.inside.steps.items c.self.inside.version (Loop c.args.start c.args.renaming.items c.args.expansion) c.self.invariant (sym right))
