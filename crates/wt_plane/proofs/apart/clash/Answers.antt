use Rattle.std.proofs.Common.{subst, sym}
use Rattle.std.specs.Bool.{MatchBool}
use Rattle.wt_plane.specs.HalfPlanes.{HasCommonSpot}
use Rattle.wt_plane.proofs.Meeting.{clashes_settle}
use Rattle.wt_plane.proofs.apart.clash.Goals as goal

pub returns-clause-exact : goal.returns-clause-exact
returns-clause-exact c =
    let h1 = c.args.h1.now in
    let h2 = c.args.h2.now in
    let h3 = c.args.h3.now in
    subst (λ b. MatchBool b (HasCommonSpot h1 h2 h3 → ⊥) (HasCommonSpot h1 h2 h3)) (sym c.test_by_signs.ensures)
    (clashes_settle h1 h2 h3 c.half_plane.ensures.direction c.half_plane-2.ensures.direction c.half_plane-3.ensures.direction)
