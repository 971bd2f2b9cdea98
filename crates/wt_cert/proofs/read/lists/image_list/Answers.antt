use Rattle.std.proofs.lemmas.Result.{err_from_is_err_and}
use Rattle.wt_line.specs.Left.{lines_left}
use Rattle.wt_text.specs.Readers.{one_line, many_parts}
use Rattle.wt_line.proofs.Turns.{goes_on, ends}
use Rattle.wt_pattern.specs.TileRows.{no_state}
use Rattle.wt_cert.specs.LineForms.{image_form}
use Rattle.wt_cert.proofs.read.lists.image_list.Goals as goal

pub returns-in_err-image : goal.returns-in_err-image
returns-in_err-image c =
    let p = err_from_is_err_and c.from_residual.result c.from_residual.ensures.1 in
    rw (p.1, p.2) (ends (λ s. one_line image_form) no_state c.in_err-image.field-0.0 c.loop.images.items c.args.count c.loop.counter 0 (lines_left c.loop.place) (many_parts (λ s. one_line image_form) no_state 0 c.args.count (lines_left c.args.place)) c.loop-test.true c.in_err-image.ensures c.loop.invariant)

pub loop-preserved : goal.loop-preserved
loop-preserved c =
    let g = goes_on (λ s. one_line image_form) no_state c.loop.images.items c.args.count c.loop.counter 0 (lines_left c.loop.place) c.in_ok-image.image (lines_left c.in_ok-image.next) (many_parts (λ s. one_line image_form) no_state 0 c.args.count (lines_left c.args.place)) c.loop-test.true c.in_ok-image.ensures c.loop.invariant in
    rw c.in_ok-push.ensures.items g
