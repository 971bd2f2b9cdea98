use Rattle.std.proofs.Common.{◌∙◌, refl, subst}
use Rattle.std.specs.Prelude.{◌↔◌, IsErrOf}
use Rattle.std.proofs.lemmas.Int.{to_z-of_z}
use mir.Syntax.{w64}
use Rattle.wt_plane.specs.HalfPlanes.{HasDirection, raw_half}
use Rattle.wt_plane.specs.declared.plane.PlaneFault.TheVariants.{NoDirection}
use Rattle.wt_plane.proofs.Opposites.{same_half}
use Rattle.wt_plane.proofs.plane.HalfPlane.new.Goals as goal

pub returns-clause-no_direction : goal.returns-clause-no_direction
returns-clause-no_direction c =
    subst (λ h. IsErrOf c.made.result NoDirection ↔ (HasDirection h → ⊥))
    (same_half _ (raw_half c.args.p0 c.args.p1 c.args.q0 c.args.q1 c.args.r0 c.args.r1)
    (c.wide.ensures.value ∙ simp (to_z-of_z w64 c.args.p0 c.ranges.p0, to_z-of_z w64 c.args.p1 c.ranges.p1) refl)
    (c.wide-2.ensures.value ∙ simp (to_z-of_z w64 c.args.q0 c.ranges.q0, to_z-of_z w64 c.args.q1 c.ranges.q1) refl)
    (c.wide-3.ensures.value ∙ simp (to_z-of_z w64 c.args.r0 c.ranges.r0, to_z-of_z w64 c.args.r1 c.ranges.r1) refl))
    c.made.ensures.no_direction
