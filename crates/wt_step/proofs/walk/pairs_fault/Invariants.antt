use Rattle.std.proofs.Common.{◌≡◌, ◌-◌, length}
use Rattle.wt_grid.specs.First.{first_from}
use Rattle.wt_step.specs.Faults.{row_fault, pairs_fault}
use Rattle.wt_step.specs.Walk.{IsAtPlace}
use Rattle.wt_step.proofs.walk.pairs_fault.Given as goal

abbrev pub invariant-loop-a : goal.invariant-loop-a
invariant-loop-a l = record {
  first : first_from (row_fault l.raw l.axis) l.a (length l.raw.fine.tiles - l.a) ≡ pairs_fault l.raw l.axis;
  placed : IsAtPlace l.raw l.axis l.a 0 l.places;
}
