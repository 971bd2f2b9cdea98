use Rattle.std.proofs.Common.{◌≡◌, [], Ok, Err, Some, true, false, refl, sym, ◌∙◌}
use Rattle.std.proofs.lemmas.Result.{err_from_is_err_and}
use Rattle.wt_text.specs.Words.{tokens}
use Rattle.wt_text.specs.Readers.{whole, mapped}
use Rattle.wt_line.specs.Given.{left}
use Rattle.wt_pattern.proofs.CellTurns.{cells_left, goes_on, ends, is_done}
use Rattle.wt_line.proofs.Ended.{goes_on_is_wrong}
use Rattle.wt_pattern.proofs.cells.cells_row.Goals as goal

pub returns-in_err-cell : goal.returns-in_err-cell
unfolding whole
returns-in_err-cell c =
    let p = err_from_is_err_and c.from_residual.result c.from_residual.ensures.1 in
    rw (p.1, p.2) (ends c.in_err-cell.field-0.0 (mapped (λ v. v.items) c.loop.cells) c.args.width c.loop.counter (left c.loop.rest.more c.loop.rest.line.now) (cells_left c.args.width (tokens c.args.line.now)) c.loop-test.true c.in_err-cell.ensures.read c.loop.invariant)

pub loop-preserved : goal.loop-preserved
loop-preserved c =
    rw c.in_ok-cells.ensures.value (goes_on (mapped (λ v. v.items) c.loop.cells) c.args.width c.loop.counter (left c.loop.rest.more c.loop.rest.line.now) c.in_ok-cell.cell (left c.in_ok-cell.next.more c.in_ok-cell.next.line.now) (cells_left c.args.width (tokens c.args.line.now)) c.loop-test.true c.in_ok-cell.ensures.read c.loop.invariant)

pub returns-in_err-line_end : goal.returns-in_err-line_end
unfolding whole
returns-in_err-line_end c =
    let p = err_from_is_err_and c.from_residual-in_err-line_end.result c.from_residual-in_err-line_end.ensures.1 in
    let done = is_done (mapped (λ v. v.items) c.loop.cells) c.args.width c.loop.counter (left c.loop.rest.more c.loop.rest.line.now) (cells_left c.args.width (tokens c.args.line.now)) c.loop-test.false c.loop.invariant in
    rw (p.1, p.2, done) (goes_on_is_wrong c.in_err-line_end.field-0.0 (mapped (λ v. v.items) c.loop.cells) (left c.loop.rest.more c.loop.rest.line.now) c.in_err-line_end.ensures)

pub returns : goal.returns
unfolding whole
returns c =
    let done = is_done (mapped (λ v. v.items) c.loop.cells) c.args.width c.loop.counter (left c.loop.rest.more c.loop.rest.line.now) (cells_left c.args.width (tokens c.args.line.now)) c.loop-test.false c.loop.invariant in
    rw (done, c.in_ok-line_end.ensures, c.new-2.ensures, c.in_ok-cells-2.was) refl

pub returns-in_err-cells-2 : goal.returns-in_err-cells-2
unfolding whole
returns-in_err-cells-2 c =
    let p = err_from_is_err_and c.from_residual-in_err-cells-2.result c.from_residual-in_err-cells-2.ensures.1 in
    let done = is_done (mapped (λ v. v.items) c.loop.cells) c.args.width c.loop.counter (left c.loop.rest.more c.loop.rest.line.now) (cells_left c.args.width (tokens c.args.line.now)) c.loop-test.false c.loop.invariant in
    rw (p.1, p.2, done, c.in_ok-line_end.ensures, c.in_err-cells-2.was) refl
