use Rattle.std.proofs.lemmas.Result.{err_from_is_err_and}
use Rattle.wt_line.specs.Left.{lines_left}
use Rattle.wt_text.specs.Readers.{many_parts}
use Rattle.wt_line.proofs.Turns.{goes_on, ends}
use Rattle.wt_cert.specs.Parts.{next_step}
use Rattle.wt_cert.specs.Seen.{link_at_step}
use Rattle.wt_cert.proofs.read.links_at.Goals as goal

pub returns-in_err-link : goal.returns-in_err-link
returns-in_err-link c =
    let p = err_from_is_err_and c.from_residual.result c.from_residual.ensures.1 in
    rw (p.1, p.2) (ends (link_at_step c.args.version) next_step c.in_err-link.field-0.0 c.loop-k.links.items c.args.count c.loop-k.k (c.loop-k.k, c.loop-k.nodes) (lines_left c.loop-k.place) (many_parts (link_at_step c.args.version) next_step (0, 0) c.args.count (lines_left c.args.place)) c.loop-k-test.true c.in_err-link.ensures.read c.loop-k.invariant.so_far)

pub loop-k-preserved : goal.loop-k-preserved
loop-k-preserved c =
    let g = goes_on (link_at_step c.args.version) next_step c.loop-k.links.items c.args.count c.loop-k.k (c.loop-k.k, c.loop-k.nodes) (lines_left c.loop-k.place) c.in_ok-link.link (lines_left c.in_ok-link.next) (many_parts (link_at_step c.args.version) next_step (0, 0) c.args.count (lines_left c.args.place)) c.loop-k-test.true c.in_ok-link.ensures.read c.loop-k.invariant.so_far in
    record {
      so_far = rw (c.in_ok-push.ensures.items, c.in_ok-link.ensures.nodes) g;
      room = c.in_ok-link.ensures.room;
    }
