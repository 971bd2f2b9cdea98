use Rattle.std.proofs.Common.{◌≡◌, drop}
use Rattle.std.specs.List.{list_all}
use Rattle.wt_strip.specs.Exact.{are_rows}
use Rattle.wt_strip.proofs.shape.are_layers.Given as goal

abbrev pub invariant-loop-cells : goal.invariant-loop-cells
invariant-loop-cells l = list_all (are_rows l.count l.w) (drop l.cells-index l.layers) ≡ list_all (are_rows l.count l.w) l.layers
