use Rattle.std.proofs.Common.{arith, refl, ◌∙◌, ◌≡◌, length}
use Rattle.wt_window.specs.Surrounded.{allowed}
use Rattle.wt_grid.specs.declared.axis.Axis.TheVariants.{One, Two}
use Rattle.wt_marker.specs.Derived.{plan, images_of}
use Rattle.wt_marker.proofs.Deriving.{all_small, images_joined}
use Rattle.wt_marker.proofs.derive.derive_raw.Goals as goal

pub list_images-requires : goal.list_images-requires
list_images-requires c =
    let n = c.len-count.ensures.value in
    let few = c.len-count.ensures.few in
    all_small (length c.args.set.list.now.tiles) c.args.class.now (omega (arith, n, few)) c.requires.plan.kept.ascending

pub fuse_all-requires : goal.fuse_all-requires
fuse_all-requires c =
    let e : c.deref.result.now ≡ images_of (plan c.args.set.list.now c.args.axis c.args.side c.args.radius c.args.class.now (allowed c.args.one.now) (allowed c.args.two.now)) = c.deref.ensures.value ∙ (c.in_ok-images.ensures {u = tt} ∙ rw c.on_axis.ensures refl) in
    rw e (images_joined (plan c.args.set.list.now c.args.axis c.args.side c.args.radius c.args.class.now (allowed c.args.one.now) (allowed c.args.two.now)) c.requires.plan)

pub refute_all-requires-clause-tells1 : goal.refute_all-requires-clause-tells1
refute_all-requires-clause-tells1 c = c.requires.plan.tells One

pub refute_all-requires-clause-tells2 : goal.refute_all-requires-clause-tells2
refute_all-requires-clause-tells2 c = c.requires.plan.tells Two
