use Rattle.std.proofs.Common.{◌≡◌, ◌≤◌, ◌+◌, ◌++◌, drop, map, min}
use Rattle.wt_grid.specs.Order.{first_in}
use Rattle.wt_marker.specs.Derived.{entry_of, spent_at, nodes_of}
use Rattle.wt_marker.proofs.forest.plant_all.Given as goal

abbrev pub invariant-loop-pair : goal.invariant-loop-pair
invariant-loop-pair l = record {
  few : l.forest.nodes ≤ 1048577;
  nodes : min (l.forest.nodes + nodes_of l.sides.tiles.now l.radius l.axis (drop l.pair-index l.pairs)) 1048577 ≡ min (l.initial.forest.nodes + nodes_of l.sides.tiles.now l.radius l.axis l.pairs) 1048577;
  entries : l.forest.nodes ≤ 1048576 → l.forest.entries.items ++ map (entry_of l.sides.tiles.now l.radius l.axis) (drop l.pair-index l.pairs) ≡ l.initial.forest.entries.items ++ map (entry_of l.sides.tiles.now l.radius l.axis) l.pairs;
  spent : first_in (spent_at l.sides.tiles.now l.radius l.budget l.axis) (drop l.pair-index l.pairs) ≡ first_in (spent_at l.sides.tiles.now l.radius l.budget l.axis) l.pairs;
}
