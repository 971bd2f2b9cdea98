use Rattle.std.proofs.Common.{◌≡◌, ◌++◌}
use Rattle.wt_text.specs.Lines.{bytes_of}
use Rattle.wt_strip.proofs.Written.{row_lines}
use Rattle.wt_strip.proofs.text.push_rows.Given as goal

abbrev pub invariant-loop-r : goal.invariant-loop-r
invariant-loop-r l = l.out.items ≡ l.fn.out.items ++ bytes_of (row_lines l.w l.cells l.r)
