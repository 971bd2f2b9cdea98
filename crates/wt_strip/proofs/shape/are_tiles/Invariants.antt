use Rattle.std.proofs.Common.{◌≡◌, drop}
use Rattle.std.specs.List.{list_all}
use Rattle.wt_grid.specs.Order.{is_below}
use Rattle.wt_strip.proofs.shape.are_tiles.Given as goal

abbrev pub invariant-loop-cell : goal.invariant-loop-cell
invariant-loop-cell l = list_all (is_below l.count) (drop l.cell-index l.cells) ≡ list_all (is_below l.count) l.cells
