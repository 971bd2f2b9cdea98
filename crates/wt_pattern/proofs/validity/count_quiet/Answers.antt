use Rattle.std.proofs.Common.{arith}
use Rattle.wt_pattern.proofs.RowFaults.{quiet_at}
use Rattle.wt_pattern.proofs.validity.count_quiet.Goals as goal

pub returns-then-height-y-gt1-clause-quiet : goal.returns-then-height-y-gt1-clause-quiet
returns-then-height-y-gt1-clause-quiet c =
    quiet_at c.args.colours.now.tiles.now c.args.p.now c.args.y c.row.result.now c.row-then-height-y-gt1.result.now c.count_matched.result c.row.ensures.cells c.row-then-height-y-gt1.ensures.cells
    (omega (arith, c.count_matched.ensures.within, c.row.ensures.len)) c.count_matched.ensures.matched
