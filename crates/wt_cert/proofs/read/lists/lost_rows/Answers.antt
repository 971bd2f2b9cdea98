use Rattle.std.proofs.Common.{ℕ, ap, ◌∙◌}
use Rattle.wt_line.specs.Left.{lines_left}
use Rattle.std.proofs.lemmas.Result.{err_from_is_err_and}
use Rattle.wt_text.specs.Readers.{many_parts}
use Rattle.wt_line.proofs.Turns.{goes_on, ends}
use Rattle.wt_cert.specs.Parts.{lost_row, with_lost}
use Rattle.wt_cert.proofs.States.{left_by_more}
use Rattle.wt_cert.proofs.read.lists.lost_rows.Goals as goal

pub returns-in_err-lost-clause-read : goal.returns-in_err-lost-clause-read
returns-in_err-lost-clause-read c =
    let p = err_from_is_err_and c.from_residual.result c.from_residual.ensures.1 in
    rw (p.1, p.2) (ends lost_row with_lost c.in_err-lost.field-0.0 c.loop.list.items c.args.count c.loop.counter c.loop.total (lines_left c.loop.place) (many_parts lost_row with_lost c.args.nodes c.args.count (lines_left c.args.place)) c.loop-test.true c.in_err-lost.ensures.read c.loop.invariant.so_far)

pub loop-preserved : goal.loop-preserved
loop-preserved c =
    let g = goes_on lost_row with_lost c.loop.list.items c.args.count c.loop.counter c.loop.total (lines_left c.loop.place) c.in_ok-lost.lost (lines_left c.in_ok-lost.next) (many_parts lost_row with_lost c.args.nodes c.args.count (lines_left c.args.place)) c.loop-test.true c.in_ok-lost.ensures.read c.loop.invariant.so_far in
    record {
      so_far = rw (c.in_ok-push.ensures.items, c.in_ok-lost.ensures.nodes) g;
      nodes = rw (c.in_ok-push.ensures.items, left_by_more with_lost c.args.nodes c.loop.list.items c.in_ok-lost.lost) (c.in_ok-lost.ensures.nodes ∙ ap (λ (n : ℕ). with_lost n c.in_ok-lost.lost) c.loop.invariant.nodes);
      room = c.in_ok-lost.ensures.room;
    }
