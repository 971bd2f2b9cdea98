use Rattle.std.proofs.Common.{rules}
use Rattle.wt_pattern.proofs.RowFaults.{no_stranger}
use Rattle.wt_pattern.proofs.validity.stranger_in.Goals as goal

pub returns-then-all_below : goal.returns-then-all_below
returns-then-all_below c = no_stranger c.args.count c.args.p.now c.args.y c.row.result.now c.row.ensures.cells (search rules) c.row.ensures.len
