use Rattle.std.proofs.Common.{◌≡◌, ◌-◌}
use Rattle.wt_grid.specs.First.{first_from}
use Rattle.wt_morphism.specs.Images.{uneven_in, uneven}
use Rattle.wt_morphism.proofs.even.uneven.Given as goal

abbrev pub invariant-loop-y : goal.invariant-loop-y
invariant-loop-y l = first_from (uneven_in l.m l.p) l.y (l.p.height - l.y) ≡ uneven l.m l.p
