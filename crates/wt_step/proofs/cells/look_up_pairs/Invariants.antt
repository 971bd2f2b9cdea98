use Rattle.std.proofs.Common.{◌≡◌, take, length}
use Rattle.wt_grid.specs.Grid.{listed}
use Rattle.wt_step.specs.Blocks.{pair_found_at}
use Rattle.wt_step.proofs.cells.look_up_pairs.Given as goal

abbrev pub invariant-loop-i : goal.invariant-loop-i
invariant-loop-i l = record {
  done : take l.i l.out ≡ listed l.i (pair_found_at l.table l.tiles l.low l.high);
  size : length l.out ≡ length l.initial.out;
}
