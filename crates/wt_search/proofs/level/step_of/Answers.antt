use Rattle.wt_grid.specs.declared.axis.Axis.TheVariants.{One, Two}
use Rattle.wt_window.specs.Surrounded.{allowed}
use Rattle.wt_marker.proofs.Callers.{listed_plan}
use Rattle.wt_search.proofs.Levels.{tells_by}
use Rattle.wt_search.proofs.level.step_of.Goals as goal

pub derive_step-requires-clause-plan : goal.derive_step-requires-clause-plan
derive_step-requires-clause-plan c =
    let ts = c.args.set.list.now.tiles in
    listed_plan c.args.set.list.now c.args.axis c.args.side c.args.radius c.args.class.now (allowed c.args.one.now) (allowed c.args.two.now)
    (tells_by ts One c.args.radius (allowed c.args.one.now) c.requires.one) (tells_by ts Two c.args.radius (allowed c.args.two.now) c.requires.two) c.requires.kept
