use Rattle.std.proofs.Common.{◌≡◌, take, length}
use Rattle.wt_grid.specs.Grid.{listed}
use Rattle.wt_step.specs.Blocks.{found_at}
use Rattle.wt_step.proofs.cells.look_up.Given as goal

abbrev pub invariant-loop-i : goal.invariant-loop-i
invariant-loop-i l = record {
  done : take l.i l.out ≡ listed l.i (found_at l.table l.line);
  size : length l.out ≡ length l.initial.out;
}
