use Rattle.std.proofs.Common.{ap, ◌∙◌}
use Rattle.wt_plane.specs.HalfPlanes.{reduced_spot}
use Rattle.wt_plane.proofs.Shifts.{ok_follows}
use Rattle.wt_plane.proofs.Points.{both_again}
use Rattle.wt_plane.proofs.point.Point.new.Goals as goal

pub returns-clause-coordinates : goal.returns-clause-coordinates
returns-clause-coordinates c =
    ok_follows c.lowest_point.result _ _ _ c.lowest_point.ensures (λ z e. both_again c.args.x c.args.y z c.golden.ensures c.golden-2.ensures (e.0 ∙ ap reduced_spot c.over_both.ensures.value))
