use Rattle.std.proofs.Common.{◌≡◌, ◌≤◌, ◌+◌, ◌-◌, length}
use Rattle.wt_grid.specs.First.{first_from}
use Rattle.wt_step.specs.Faults.{pair_fault, row_fault}
use Rattle.wt_step.specs.Walk.{IsAtPlace}
use Rattle.wt_step.proofs.walk.row_fault.Given as goal

abbrev pub invariant-loop-odd : goal.invariant-loop-odd
invariant-loop-odd l = record {
  left : first_from (pair_fault l.raw l.axis l.a) l.from (length l.raw.fine.tiles - l.from) ≡ row_fault l.raw l.axis l.a;
  placed : IsAtPlace l.raw l.axis l.a l.from l.places;
  within : l.from ≤ l.tiles;
}

abbrev pub decreases-loop-odd : goal.decreases-loop-odd
decreases-loop-odd l = l.tiles + 1 - l.from
