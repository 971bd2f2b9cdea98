use Rattle.std.proofs.Common.{arith, ◌<◌, length, ◌∙◌}
use Rattle.wt_step.specs.declared.raw.RawLink.TheVariants.{Marker}
use Rattle.wt_search.specs.Asked.{asked}
use Rattle.wt_search.specs.Found.{links_of}
use Rattle.wt_search.proofs.Levels.{step_fine}
use Rattle.wt_search.proofs.Pushing.{may_push}
use Rattle.wt_search.proofs.finding.advance.Goals as goal

pub with_step-requires-clause-next : goal.with_step-requires-clause-next
with_step-requires-clause-next c =
    let s = asked c.args.axes.now c.args.side c.args.radius c.args.budget in
    let few : length (links_of c.args.chain) < 32 = omega (arith, c.requires.level, c.requires.below) in
    may_push c.args.set.list.now (links_of c.args.chain) (Marker c.in-Ok.step) few
    (step_fine s c.args.level c.current.result.list.now c.in-Ok.step (c.in-Ok.ensures {u = tt}).ok ∙ c.current.ensures)
