use Rattle.wt_tile.proofs.Numbering.{tell_edges}
use Rattle.wt_tile.proofs.laws.numbers_tell_edges.Goals as goal

pub returns : goal.returns
returns c = tell_edges
