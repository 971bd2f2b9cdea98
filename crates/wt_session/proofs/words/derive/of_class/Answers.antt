use Rattle.std.proofs.Common.{arith, ◌<◌, length, ◌∙◌}
use Rattle.wt_step.specs.declared.raw.RawLink.TheVariants.{Marker}
use Rattle.wt_window.specs.Surrounded.{allowed}
use Rattle.wt_marker.specs.Derived.{plan}
use Rattle.wt_marker.proofs.Callers.{listed_plan}
use Rattle.wt_search.specs.Found.{links_of}
use Rattle.wt_search.proofs.Pushing.{may_push}
use Rattle.wt_session.proofs.Behind.{step_fine}
use Rattle.wt_session.proofs.words.derive.of_class.Goals as goal

pub derive_step-requires-clause-plan : goal.derive_step-requires-clause-plan
derive_step-requires-clause-plan c =
    listed_plan c.args.set.list.now c.args.wanted.axis c.args.wanted.side c.args.wanted.radius c.args.class.now (allowed c.args.one.now) (allowed c.args.two.now)
    c.requires.one c.requires.two c.requires.kept

pub with_step-requires : goal.with_step-requires
with_step-requires c =
    let few : length (links_of c.args.before) < 32 = omega (arith, c.requires.room) in
    let p = plan c.args.set.list.now c.args.wanted.axis c.args.wanted.side c.args.wanted.radius c.args.class.now (allowed c.args.one.now) (allowed c.args.two.now) in
    may_push c.args.set.list.now (links_of c.args.before) (Marker c.in-Ok.step) few
    (step_fine p c.args.wanted.budget c.derive_step.result c.in-Ok.step c.in-Ok.is c.derive_step.ensures ∙ c.requires.set)
