use Rattle.std.proofs.Common.{◌≡◌, ◌≤◌, take}
use Rattle.std.specs.Prelude.{count_by}
use Rattle.wt_program.specs.Samples.{has_period}
use Rattle.wt_program.proofs.sample.count_periods.Given as goal

abbrev pub invariant-loop-dx : goal.invariant-loop-dx
invariant-loop-dx l = record {
  counted : l.count ≡ count_by (has_period l.p) (take l.dx-index l.vectors);
  few : l.count ≤ l.dx-index;
}
