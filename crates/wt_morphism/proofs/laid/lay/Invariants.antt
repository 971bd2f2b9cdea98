use Rattle.std.proofs.Common.{◌≡◌, ◌*◌}
use Rattle.wt_grid.specs.Grid.{listed}
use Rattle.wt_morphism.specs.Strands.{laid_index}
use Rattle.wt_morphism.proofs.laid.lay.Given as goal

abbrev pub invariant-loop-y : goal.invariant-loop-y
invariant-loop-y l = l.cells.items ≡ listed (l.y * l.w) (laid_index l.m l.p l.lines.items l.w)
