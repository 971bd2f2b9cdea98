use Rattle.std.proofs.Common.{length}
use Rattle.wt_step.specs.Blocks.{IsPlaced}
use Rattle.wt_step.proofs.keep.place_kept.Given as goal

abbrev pub invariant-loop-i : goal.invariant-loop-i
invariant-loop-i l = IsPlaced l.raw.kept (length l.raw.fine.tiles) l.i l.places.items
