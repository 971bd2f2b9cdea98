use Rattle.std.proofs.Common.{length}
use Rattle.wt_scale.proofs.size.+size_from.Given as goal

abbrev pub decreases-size_from : goal.decreases-size_from
decreases-size_from l = length l.links.now
