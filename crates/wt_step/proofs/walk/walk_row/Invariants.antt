use Rattle.std.proofs.Common.{◌≡◌, ◌-◌, length}
use Rattle.wt_grid.specs.First.{first_from}
use Rattle.wt_step.specs.Faults.{pair_fault}
use Rattle.wt_step.specs.Walk.{IsAtPlace}
use Rattle.wt_step.proofs.walk.walk_row.Given as goal

abbrev pub invariant-loop-b : goal.invariant-loop-b
invariant-loop-b l = record {
  first : first_from (pair_fault l.raw l.axis l.a) l.b (length l.raw.fine.tiles - l.b) ≡ first_from (pair_fault l.raw l.axis l.a) l.from (length l.raw.fine.tiles - l.from);
  placed : IsAtPlace l.raw l.axis l.a l.b l.places;
}
