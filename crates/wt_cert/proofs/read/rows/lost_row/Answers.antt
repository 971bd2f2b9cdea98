use Rattle.std.proofs.Common.{rules}
use Rattle.std.proofs.lemmas.Result.{err_from_is_err_and}
use Rattle.wt_line.specs.Given.{left}
use Rattle.wt_refute.specs.View.{refutation}
use Rattle.wt_text.specs.Words.{tokens}
use Rattle.wt_text.specs.Readers.{mapped}
use Rattle.wt_cert.proofs.Lines.{lost_fails}
use Rattle.wt_cert.proofs.read.rows.lost_row.Goals as goal

pub returns-in_err-line_end-clause-read : goal.returns-in_err-line_end-clause-read
returns-in_err-line_end-clause-read c =
    let p = err_from_is_err_and c.from_residual-in_err-line_end.result c.from_residual-in_err-line_end.ensures.1 in
    rw (p.1, p.2) (lost_fails c.in_err-line_end.field-0.0 c.args.nodes (tokens c.args.line.now)
    (left c.in_ok-tile.rest.more c.in_ok-tile.rest.line.now) (left c.in_ok-grown.rest.more c.in_ok-grown.rest.line.now)
    c.in_ok-tile.tile (mapped (λ g. refutation g.tree) c.in_ok-grown.grown)
    (search rules) c.in_ok-grown.ensures.read c.in_err-line_end.ensures)
