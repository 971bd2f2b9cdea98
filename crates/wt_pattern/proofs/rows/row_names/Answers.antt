use Rattle.std.proofs.Common.{Ok}
use Rattle.std.proofs.lemmas.Result.{err_from_is_err_and}
use Rattle.wt_line.specs.Given.{left}
use Rattle.wt_text.specs.Readers.{whole}
use Rattle.wt_pattern.specs.Numbered.{row_words}
use Rattle.wt_line.proofs.Ended.{goes_on_is_wrong}
use Rattle.wt_pattern.proofs.rows.row_names.Goals as goal

pub returns-in_err-line_end-clause-read : goal.returns-in_err-line_end-clause-read
unfolding whole
returns-in_err-line_end-clause-read c =
    let p = err_from_is_err_and c.from_residual-in_err-line_end.result c.from_residual-in_err-line_end.ensures.1 in
    rw (p.1, p.2, ← c.new.ensures, c.in_ok-row.ensures.read) (goes_on_is_wrong c.in_err-line_end.field-0.0 (Ok (row_words c.in_ok-row.row)) (left c.in_ok-row.rest.more c.in_ok-row.rest.line.now) c.in_err-line_end.ensures)
