use Rattle.std.proofs.Common.{◌≡◌, Option, None, Some, Result, Ok, Err, refl, ap, subst, w64, to_z, of_z}
use Rattle.std.proofs.lemmas.Int.{to_z-of_z}
use Rattle.wt_plane.specs.HalfPlanes.{Half, raw_half}
use Rattle.wt_plane.specs.declared.plane.PlaneFault.{PlaneFault}
use Rattle.wt_plane.specs.declared.plane.PlaneFault.TheVariants.{NoDirection, TooLarge}
use Rattle.wt_session.specs.Partitions.{half_from}
use Rattle.wt_session.proofs.HalfTests.{is_made, no_direction, too_large}
use Rattle.wt_session.proofs.partitions.made_plane.Goals as goal

pub returns-in-Ok : goal.returns-in-Ok
returns-in-Ok c =
    let same : raw_half (to_z w64 (of_z w64 c.args.p0)) (to_z w64 (of_z w64 c.args.p1)) (to_z w64 (of_z w64 c.args.q0)) (to_z w64 (of_z w64 c.args.q1)) (to_z w64 (of_z w64 c.args.r0)) (to_z w64 (of_z w64 c.args.r1)) ≡ raw_half c.args.p0 c.args.p1 c.args.q0 c.args.q1 c.args.r0 c.args.r1 = simp (to_z-of_z w64 c.args.p0 c.ranges.p0, to_z-of_z w64 c.args.p1 c.ranges.p1, to_z-of_z w64 c.args.q0 c.ranges.q0, to_z-of_z w64 c.args.q1 c.ranges.q1, to_z-of_z w64 c.args.r0 c.ranges.r0, to_z-of_z w64 c.args.r1 c.ranges.r1) refl in
    subst (λ (k : Half). Some c.in-Ok.plane ≡ half_from k) same
    (is_made (raw_half (to_z w64 (of_z w64 c.args.p0)) (to_z w64 (of_z w64 c.args.p1)) (to_z w64 (of_z w64 c.args.q0)) (to_z w64 (of_z w64 c.args.q1)) (to_z w64 (of_z w64 c.args.r0)) (to_z w64 (of_z w64 c.args.r1))) c.in-Ok.plane (λ none. let e = c.in-Ok.ensures.no_direction.1 none in absurd cc) c.in-Ok.ensures.made.0 c.in-Ok.ensures.made.1)

pub returns-in-Err : goal.returns-in-Err
returns-in-Err c =
    let same : raw_half (to_z w64 (of_z w64 c.args.p0)) (to_z w64 (of_z w64 c.args.p1)) (to_z w64 (of_z w64 c.args.q0)) (to_z w64 (of_z w64 c.args.q1)) (to_z w64 (of_z w64 c.args.r0)) (to_z w64 (of_z w64 c.args.r1)) ≡ raw_half c.args.p0 c.args.p1 c.args.q0 c.args.q1 c.args.r0 c.args.r1 = simp (to_z-of_z w64 c.args.p0 c.ranges.p0, to_z-of_z w64 c.args.p1 c.ranges.p1, to_z-of_z w64 c.args.q0 c.ranges.q0, to_z-of_z w64 c.args.q1 c.ranges.q1, to_z-of_z w64 c.args.r0 c.ranges.r0, to_z-of_z w64 c.args.r1 c.ranges.r1) refl in
    subst (λ (k : Half). None ≡ half_from k) same (by c.in-Err.field-0 refl)
  where
    by : (fault : PlaneFault) → c.in-Err.field-0 ≡ fault → None ≡ half_from (raw_half (to_z w64 (of_z w64 c.args.p0)) (to_z w64 (of_z w64 c.args.p1)) (to_z w64 (of_z w64 c.args.q0)) (to_z w64 (of_z w64 c.args.q1)) (to_z w64 (of_z w64 c.args.r0)) (to_z w64 (of_z w64 c.args.r1)))
    by NoDirection e = no_direction (raw_half (to_z w64 (of_z w64 c.args.p0)) (to_z w64 (of_z w64 c.args.p1)) (to_z w64 (of_z w64 c.args.q0)) (to_z w64 (of_z w64 c.args.q1)) (to_z w64 (of_z w64 c.args.r0)) (to_z w64 (of_z w64 c.args.r1))) (c.in-Err.ensures.no_direction.0 (ap (λ (f : PlaneFault). Err f) e))
    by TooLarge e = too_large (raw_half (to_z w64 (of_z w64 c.args.p0)) (to_z w64 (of_z w64 c.args.p1)) (to_z w64 (of_z w64 c.args.q0)) (to_z w64 (of_z w64 c.args.q1)) (to_z w64 (of_z w64 c.args.r0)) (to_z w64 (of_z w64 c.args.r1))) (c.in-Err.ensures.too_large (ap (λ (f : PlaneFault). Err f) e))
