use Rattle.std.proofs.Common.{rules}
use Rattle.wt_line.proofs.Ended.{some_lines, no_lines}
use Rattle.wt_line.proofs.ends.text_end.Goals as goal

pub returns-then-is_empty : goal.returns-then-is_empty
returns-then-is_empty c = no_lines c.args.place.bytes.now (search rules)

pub returns-else-is_empty : goal.returns-else-is_empty
returns-else-is_empty c = some_lines c.args.place.number c.args.place.bytes.now (search rules)
