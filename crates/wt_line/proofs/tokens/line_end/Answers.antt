use Rattle.wt_line.proofs.Parts.{more_is_wrong}
use Rattle.wt_line.proofs.tokens.line_end.Goals as goal

pub returns-then-rest : goal.returns-then-rest
returns-then-rest c = more_is_wrong c.args.rest.more c.args.rest.line.now c.if-rest.true
