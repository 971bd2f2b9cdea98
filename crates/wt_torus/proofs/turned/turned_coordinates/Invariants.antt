use Rattle.std.proofs.Common.{◌≡◌, map, take}
use Rattle.wt_golden.specs.Wide.{number}
use Rattle.wt_torus.proofs.Cells.{lowered_over}
use Rattle.wt_torus.proofs.turned.turned_coordinates.Given as goal

abbrev pub invariant-loop-at : goal.invariant-loop-at
invariant-loop-at l = l.all.items ≡ map (lowered_over l.d.a) (map number (take l.at-index l.at-items))
