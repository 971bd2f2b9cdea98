use Rattle.std.proofs.Common.{sym}
use Rattle.wt_periodic.proofs.Cylinders.{dead_as}
use Rattle.wt_periodic.proofs.least.mark_length.Goals as goal

pub mark-requires-clause-marked : goal.mark-requires-clause-marked
mark-requires-clause-marked c = dead_as _ _ _ _ c.args.heights.now (sym c.requires.second_tiles) (sym c.requires.second_axis) c.requires.heights
