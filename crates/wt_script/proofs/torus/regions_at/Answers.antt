use Rattle.std.proofs.lemmas.Result.{err_from_is_err_and}
use Rattle.wt_line.specs.Left.{lines_left}
use Rattle.wt_line.proofs.Turns.{goes_on, ends}
use Rattle.wt_pattern.specs.TileRows.{no_state}
use Rattle.wt_script.specs.TorusText.{region_part, regions_part}
use Rattle.wt_script.proofs.torus.regions_at.Goals as goal

pub returns-in_err-region : goal.returns-in_err-region
returns-in_err-region c =
    let p = err_from_is_err_and c.from_residual.result c.from_residual.ensures.1 in
    rw (p.1, p.2) (ends (λ s. region_part) no_state c.in_err-region.field-0.0 c.loop.regions.items c.args.count c.loop.counter 0 (lines_left c.loop.place) (regions_part c.args.count (lines_left c.args.place)) c.loop-test.true c.in_err-region.ensures c.loop.invariant)

pub loop-preserved : goal.loop-preserved
loop-preserved c =
    let g = goes_on (λ s. region_part) no_state c.loop.regions.items c.args.count c.loop.counter 0 (lines_left c.loop.place) c.in_ok-region.region (lines_left c.in_ok-region.next) (regions_part c.args.count (lines_left c.args.place)) c.loop-test.true c.in_ok-region.ensures c.loop.invariant in
    rw c.in_ok-push.ensures.items g
