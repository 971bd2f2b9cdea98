use Rattle.std.proofs.Common.{◌≡◌, ◌-◌, ◌++◌}
use Rattle.wt_grid.specs.Grid.{along}
use Rattle.wt_morphism.specs.Strands.{strands, line_is_two, all_strands}
use Rattle.wt_morphism.proofs.laid.strands.Given as goal

abbrev pub invariant-loop-line : goal.invariant-loop-line
invariant-loop-line l = l.lines.items ++ strands (line_is_two l.m l.p) l.line (along l.m.axis l.p - l.line) ≡ all_strands l.m l.p
