use Rattle.std.proofs.Common.{◌≡◌, ◌≤◌, length}
use Rattle.wt_expand.specs.Ready.{IsAtRow}
use Rattle.wt_expand.proofs.rows.count_up.Given as goal

abbrev pub invariant-loop-y : goal.invariant-loop-y
invariant-loop-y l = record {
  at_row : IsAtRow 0 l.w l.counter l.space 1 l.y;
  inside : l.y ≤ l.h;
  size : length l.space ≡ length l.initial.space;
}
