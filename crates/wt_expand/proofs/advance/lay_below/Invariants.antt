use Rattle.std.proofs.Common.{◌≡◌, ◌≤◌, length, take, drop}
use Rattle.wt_expand.specs.Splits.{split_under}
use Rattle.wt_expand.specs.Counters.{counter_levels, digits_at}
use Rattle.wt_expand.proofs.advance.lay_below.Given as goal

abbrev pub invariant-loop-i : goal.invariant-loop-i
invariant-loop-i l = record {
  inside : l.i ≤ l.j;
  laid : digits_at l.counter l.i l.space ≡ split_under l.direction l.low l.w l.counter.renaming.now l.i (drop l.i (take l.j (counter_levels l.counter))) (digits_at l.counter l.j l.initial.space);
  size : length l.space ≡ length l.initial.space;
}

abbrev pub decreases-loop-i : goal.decreases-loop-i
decreases-loop-i l = l.i
