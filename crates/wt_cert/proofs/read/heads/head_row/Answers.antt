use Rattle.std.proofs.Common.{rules}
use Rattle.std.proofs.lemmas.Result.{err_from_is_err_and}
use Rattle.wt_line.specs.Given.{left}
use Rattle.wt_text.specs.Words.{tokens}
use Rattle.wt_text.specs.Readers.{mapped}
use Rattle.wt_cert.specs.Seen.{head_view}
use Rattle.wt_cert.proofs.Lines.{head_fails}
use Rattle.wt_cert.proofs.read.heads.head_row.Goals as goal

pub returns-in_err-line_end : goal.returns-in_err-line_end
returns-in_err-line_end c =
    let p = err_from_is_err_and c.from_residual-in_err-line_end.result c.from_residual-in_err-line_end.ensures.1 in
    rw (p.1, p.2) (head_fails c.in_err-line_end.field-0.0 c.args.version c.args.k (mapped head_view c.in_ok-head.head) (tokens c.args.line.now) (left c.in_ok-rest.rest.more c.in_ok-rest.rest.line.now) (left c.in_ok-rest-2.rest.more c.in_ok-rest-2.rest.line.now) (left c.in_ok-head.rest.more c.in_ok-head.rest.line.now) (search rules) c.in_ok-rest-2.ensures c.in_ok-head.ensures c.in_err-line_end.ensures)
