use Rattle.std.proofs.Common.{rules}
use Rattle.wt_plane.proofs.Inside.{clipped}
use Rattle.wt_plane.proofs.region.clip.Goals as goal

pub returns-in-Ok-clause-points : goal.returns-in-Ok-clause-points
returns-in-Ok-clause-points c = clipped c.args.r.planes c.new.result c.args.h (search rules)
