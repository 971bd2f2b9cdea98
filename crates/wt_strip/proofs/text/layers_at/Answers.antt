use Rattle.std.proofs.Common.{arith, ◌≡◌, ◌/◌, List, ℕ, length, ap}
use Rattle.std.proofs.lemmas.Result.{err_from_is_err_and}
use Rattle.wt_text.specs.Lines.{lines}
use Rattle.wt_line.proofs.Turns.{goes_on, ends}
use Rattle.wt_strip.specs.Listed.{rows_in}
use Rattle.wt_strip.specs.StripText.{layer_part, rows_with, layers_part}
use Rattle.wt_strip.proofs.text.layers_at.Goals as goal

pub returns-in_err-cells : goal.returns-in_err-cells
returns-in_err-cells c =
    let p = err_from_is_err_and c.from_residual.result c.from_residual.ensures.1 in
    rw (p.1, p.2) (ends (layer_part c.args.w) (rows_with c.args.w) c.in_err-cells.field-0.0 c.loop.layers.items c.args.h c.loop.counter c.loop.before (c.loop.place.number, lines c.loop.place.bytes.now) (layers_part c.args.w c.args.h (c.args.place.number, lines c.args.place.bytes.now)) c.loop-test.true c.in_err-cells.ensures.read c.loop.invariant.read)

pub loop-preserved : goal.loop-preserved
loop-preserved c =
    let size : length c.as_slice.result.now / c.args.w ≡ rows_in c.args.w c.in_ok-cells.cells = ap (λ (l : List ℕ). length l / c.args.w) c.as_slice.ensures in
    let few = c.in_ok-cells.ensures.few in
    record {
      read = rw (c.in_ok-push.ensures.items, size) (goes_on (layer_part c.args.w) (rows_with c.args.w) c.loop.layers.items c.args.h c.loop.counter c.loop.before (c.loop.place.number, lines c.loop.place.bytes.now) c.in_ok-cells.cells (c.in_ok-cells.next.number, lines c.in_ok-cells.next.bytes.now) (layers_part c.args.w c.args.h (c.args.place.number, lines c.args.place.bytes.now)) c.loop-test.true c.in_ok-cells.ensures.read c.loop.invariant.read);
      few = omega (arith, few, size);
    }
