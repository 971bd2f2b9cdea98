use Rattle.std.proofs.Common.{◌≡◌, ◌+◌, ◌-◌, ◌≤◌, length}
use Rattle.wt_grid.specs.Grid.{along}
use Rattle.wt_morphism.specs.Strands.{strands, line_is_two, all_strands}
use Rattle.wt_morphism.proofs.laid.count_lines.Given as goal

abbrev pub invariant-loop-i : goal.invariant-loop-i
invariant-loop-i l = record {
  left : l.count + length (strands (line_is_two l.m l.p) l.i (along l.m.axis l.p - l.i)) ≡ length (all_strands l.m l.p);
  few : l.count ≤ l.i + l.i;
}
