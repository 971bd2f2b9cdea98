use Rattle.std.proofs.Common.{length}
use Rattle.wt_step.specs.Blocks.{IsIndexed}
use Rattle.wt_step.proofs.index.index_images.Given as goal

abbrev pub invariant-loop-i : goal.invariant-loop-i
invariant-loop-i l = IsIndexed l.raw.images (length l.raw.fine.tiles) l.i l.index.singles.items l.index.pairs.items
