use Rattle.std.proofs.Common.{◌≡◌, None, drop, sym, ◌∙◌}
use Rattle.wt_chain.specs.Faults.{steps_fault}
use Rattle.wt_chain.proofs.Run.{run_from, run_drop, closes}
use Rattle.wt_chain.proofs.Later.{none_later}
use Rattle.wt_chain.proofs.chain.Chain.expansion.Goals as goal

pub loop_expansion-requires : goal.loop_expansion-requires
loop_expansion-requires c =
    let steps = c.args.self.now in
    let good : steps_fault steps ≡ None = rw c.self.view_is at c.self.invariant.good in
    rw (c.steps_from.ensures, c.deref.ensures.value, c.self.view_is)
    (closes (drop c.args.start steps) c.args.renaming.now (run_drop c.args.start steps (run_from steps good)) c.requires)

pub returns-clause-never : goal.returns-clause-never
returns-clause-never c =
    let steps = c.args.self.now in
    let good : steps_fault steps ≡ None = rw c.self.view_is at c.self.invariant.good in
    let found = rw (c.steps_from.ensures, c.deref.ensures.value, c.self.view_is) at c.loop_expansion.ensures in
    λ none turns grown. none_later (drop c.args.start steps) c.args.renaming.now
    (closes (drop c.args.start steps) c.args.renaming.now (run_drop c.args.start steps (run_from steps good)) c.requires)
    (sym found ∙ none) turns grown
