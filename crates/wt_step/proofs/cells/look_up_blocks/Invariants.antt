use Rattle.std.proofs.Common.{◌≡◌, take, length}
use Rattle.wt_grid.specs.Grid.{listed}
use Rattle.wt_step.specs.Blocks.{block_in}
use Rattle.wt_step.proofs.cells.look_up_blocks.Given as goal

abbrev pub invariant-loop-i : goal.invariant-loop-i
invariant-loop-i l = record {
  done : take l.i l.out ≡ listed l.i (block_in l.tiles l.index.singles.items l.index.pairs.items l.row l.blocks);
  size : length l.out ≡ length l.initial.out;
}
