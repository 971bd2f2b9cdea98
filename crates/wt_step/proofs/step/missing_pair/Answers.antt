use Rattle.std.proofs.Common.{sym}
use Rattle.wt_step.proofs.MarkedRows.{no_missing_pair}
use Rattle.wt_step.proofs.step.missing_pair.Goals as goal

pub returns-then-are_blocks_images : goal.returns-then-are_blocks_images
returns-then-are_blocks_images c = sym (no_missing_pair c.args.raw.now c.requires.shaped c.if-are_blocks_images.ensures)
