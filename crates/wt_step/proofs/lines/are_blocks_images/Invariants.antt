use Rattle.std.proofs.Common.{◌<◌, ℕ}
use Rattle.wt_step.specs.TileMasks.{HasRowImages}
use Rattle.wt_step.proofs.lines.are_blocks_images.Given as goal

abbrev pub invariant-loop-a : goal.invariant-loop-a
invariant-loop-a l = (k : ℕ) → k < l.a → HasRowImages l.raw k
