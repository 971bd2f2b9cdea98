use Rattle.std.proofs.Common.{◌^◌, subst, sym}
use Rattle.std.specs.Prelude.{◌↔◌}
use Rattle.wt_plane.specs.Six.{half}
use Rattle.wt_plane.specs.HalfPlanes.{Holds, shifted, reduced_half}
use Rattle.wt_plane.proofs.Shifts.{moved_direction, moved_points, ok_follows}
use Rattle.wt_plane.proofs.plane.HalfPlane.moved.Goals as goal

pub lowest_half-requires-clause-direction : goal.lowest_half-requires-clause-direction
lowest_half-requires-clause-direction c = moved_direction _ _ _ _ c.half_plane.ensures.direction c.moved_six.ensures.positive c.moved_six.ensures.value

pub returns-clause-points : goal.returns-clause-points
returns-clause-points c =
    let d = moved_direction _ _ _ _ c.half_plane.ensures.direction c.moved_six.ensures.positive c.moved_six.ensures.value in
    ok_follows c.lowest_half.result _ _ _ c.lowest_half.ensures
    (λ k e z. subst (λ t. Holds t z ↔ Holds c.args.self (shifted z c.args.tx c.args.ty)) (sym e.0)
    (subst (λ t. Holds (reduced_half t) z ↔ Holds c.args.self (shifted z c.args.tx c.args.ty)) (sym c.moved_six.ensures.value)
    (moved_points c.args.self (half c.moved_six.result) c.args.tx c.args.ty (2 ^ 126) d c.moved_six.ensures.p c.moved_six.ensures.q c.moved_six.ensures.value z)))
