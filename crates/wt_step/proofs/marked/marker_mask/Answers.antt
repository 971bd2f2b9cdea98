use Rattle.std.proofs.Common.{arith}
use Rattle.wt_step.proofs.TileMasks.{all_marked}
use Rattle.wt_step.proofs.marked.marker_mask.Goals as goal

pub returns : goal.returns
returns c = all_marked c.args.raw.now c.requires c.mask_of.result (omega arith) (rw c.as_slice.ensures at c.mask_of.ensures)
