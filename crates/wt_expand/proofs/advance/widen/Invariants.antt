use Rattle.std.proofs.Common.{◌≡◌, ◌≤◌, ◌*◌, length, take}
use Rattle.wt_expand.specs.Counters.{counter_levels}
use Rattle.wt_expand.proofs.Widened.{IsWide}
use Rattle.wt_expand.proofs.advance.widen.Given as goal

abbrev pub invariant-loop-i : goal.invariant-loop-i
invariant-loop-i l = record {
  low : l.low ≤ l.i;
  inside : l.i ≤ length (counter_levels l.counter);
  wide : IsWide l.w l.counter.renaming.now l.counter.block (counter_levels l.counter) l.i l.initial.space l.space;
  below : take (l.i * l.counter.block) l.space ≡ take (l.i * l.counter.block) l.initial.space;
  size : length l.space ≡ length l.initial.space;
}

abbrev pub decreases-loop-i : goal.decreases-loop-i
decreases-loop-i l = l.i
