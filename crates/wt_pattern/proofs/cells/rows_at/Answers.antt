use Rattle.std.proofs.Common.{◌≡◌, ◌++◌, ◌∷◌, []}
use Rattle.std.proofs.lemmas.Result.{err_from_is_err_and}
use Rattle.wt_text.specs.Lines.{lines}
use Rattle.wt_text.specs.Readers.{one_line}
use Rattle.wt_line.proofs.Turns.{goes_on, ends}
use Rattle.wt_pattern.specs.TileRows.{no_state}
use Rattle.wt_pattern.specs.PatternRows.{cells_form, cells_rows}
use Rattle.wt_pattern.proofs.cells.rows_at.Goals as goal

pub returns-in_err-cells : goal.returns-in_err-cells
returns-in_err-cells c =
    let p = err_from_is_err_and c.from_residual.result c.from_residual.ensures.1 in
    rw (p.1, p.2) (ends (λ s. one_line (cells_form c.args.width)) no_state c.in_err-cells.field-0.0 c.loop.rows.items c.args.height c.loop.counter 0 (c.loop.place.number, lines c.loop.place.bytes.now) (cells_rows c.args.width c.args.height (c.args.place.number, lines c.args.place.bytes.now)) c.loop-test.true c.in_err-cells.ensures c.loop.invariant)

pub loop-preserved : goal.loop-preserved
loop-preserved c =
    rw c.in_ok-push.ensures.items (goes_on (λ s. one_line (cells_form c.args.width)) no_state c.loop.rows.items c.args.height c.loop.counter 0 (c.loop.place.number, lines c.loop.place.bytes.now) c.in_ok-cells.cells (c.in_ok-cells.next.number, lines c.in_ok-cells.next.bytes.now) (cells_rows c.args.width c.args.height (c.args.place.number, lines c.args.place.bytes.now)) c.loop-test.true c.in_ok-cells.ensures c.loop.invariant)
