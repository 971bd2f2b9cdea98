use Rattle.wt_window.specs.Surrounded.{allowed}
use Rattle.wt_marker.specs.Derived.{plan}
use Rattle.wt_marker.proofs.Deriving.{good_plan}
use Rattle.wt_marker.proofs.derive.derive_step.Goals as goal

pub of-requires : goal.of-requires
of-requires c =
    let e = c.in-Ok.ensures {u = tt} in
    rw e.derived (good_plan (plan c.args.set.list.now c.args.axis c.args.side c.args.radius c.args.class.now (allowed c.args.one.now) (allowed c.args.two.now)) c.args.budget c.requires.small c.args.set.good c.requires.plan e.none)
