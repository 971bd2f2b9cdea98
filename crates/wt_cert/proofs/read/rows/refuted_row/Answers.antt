use Rattle.std.proofs.Common.{rules}
use Rattle.std.proofs.lemmas.Result.{err_from_is_err_and}
use Rattle.wt_line.specs.Given.{left}
use Rattle.wt_refute.specs.View.{refutation}
use Rattle.wt_text.specs.Words.{tokens}
use Rattle.wt_text.specs.Readers.{mapped}
use Rattle.wt_cert.proofs.Lines.{refuted_fails}
use Rattle.wt_cert.proofs.read.rows.refuted_row.Goals as goal

pub returns-in_err-line_end-clause-read : goal.returns-in_err-line_end-clause-read
returns-in_err-line_end-clause-read c =
    let p = err_from_is_err_and c.from_residual-in_err-line_end.result c.from_residual-in_err-line_end.ensures.1 in
    rw (p.1, p.2) (refuted_fails c.in_err-line_end.field-0.0 c.args.version c.args.radius c.args.nodes (tokens c.args.line.now)
    (left c.in_ok-axis.rest.more c.in_ok-axis.rest.line.now) (left c.in_ok-a.rest.more c.in_ok-a.rest.line.now) (left c.in_ok-b.rest.more c.in_ok-b.rest.line.now) (left c.in_ok-radius.rest.more c.in_ok-radius.rest.line.now) (left c.in_ok-grown.rest.more c.in_ok-grown.rest.line.now)
    c.in_ok-axis.axis c.in_ok-a.a c.in_ok-b.b c.in_ok-radius.radius (mapped (λ g. refutation g.tree) c.in_ok-grown.grown)
    (search rules) c.in_ok-a.ensures.read c.in_ok-b.ensures.read c.in_ok-radius.ensures (search rules) c.in_err-line_end.ensures)
