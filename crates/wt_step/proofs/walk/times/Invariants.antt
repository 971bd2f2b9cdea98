use Rattle.std.proofs.Common.{◌≡◌, ◌≤◌, ◌+◌, ◌-◌}
use Rattle.wt_grid.specs.First.{count_from}
use Rattle.wt_step.specs.Words.{entry_at, times}
use Rattle.wt_step.proofs.walk.times.Given as goal

abbrev pub invariant-loop-radius : goal.invariant-loop-radius
invariant-loop-radius l = record {
  counted : l.count + count_from (entry_at l.raw l.axis l.a l.b) l.radius (l.raw.radius + 1 - l.radius) ≡ times l.raw l.axis l.a l.b;
  few : l.count ≤ l.radius;
}
