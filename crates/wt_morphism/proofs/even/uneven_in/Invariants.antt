use Rattle.std.proofs.Common.{◌≡◌, ◌-◌}
use Rattle.wt_grid.specs.First.{first_from}
use Rattle.wt_morphism.specs.Images.{uneven_at, uneven_in}
use Rattle.wt_morphism.proofs.even.uneven_in.Given as goal

abbrev pub invariant-loop-x : goal.invariant-loop-x
invariant-loop-x l = first_from (uneven_at l.m l.p l.y) l.x (l.p.width - l.x) ≡ uneven_in l.m l.p l.y
