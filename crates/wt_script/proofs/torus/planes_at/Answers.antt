use Rattle.std.proofs.lemmas.Result.{err_from_is_err_and}
use Rattle.wt_line.specs.Left.{lines_left}
use Rattle.wt_line.proofs.Turns.{goes_on, ends}
use Rattle.wt_pattern.specs.TileRows.{no_state}
use Rattle.wt_script.specs.TorusText.{plane_part, planes_part}
use Rattle.wt_script.proofs.torus.planes_at.Goals as goal

pub returns-in_err-plane : goal.returns-in_err-plane
returns-in_err-plane c =
    let p = err_from_is_err_and c.from_residual.result c.from_residual.ensures.1 in
    rw (p.1, p.2) (ends (λ s. plane_part) no_state c.in_err-plane.field-0.0 c.loop.planes.items c.args.count c.loop.counter 0 (lines_left c.loop.place) (planes_part c.args.count (lines_left c.args.place)) c.loop-test.true c.in_err-plane.ensures c.loop.invariant)

pub loop-preserved : goal.loop-preserved
loop-preserved c =
    let g = goes_on (λ s. plane_part) no_state c.loop.planes.items c.args.count c.loop.counter 0 (lines_left c.loop.place) c.in_ok-plane.plane (lines_left c.in_ok-plane.next) (planes_part c.args.count (lines_left c.args.place)) c.loop-test.true c.in_ok-plane.ensures c.loop.invariant in
    rw c.in_ok-push.ensures.items g
