use Rattle.std.proofs.Common.{◌≡◌, ◌≤◌, ◌++◌, take, length}
use Rattle.std.specs.List.{flat_map}
use Rattle.wt_text.specs.Lines.{bytes_of}
use Rattle.wt_text.specs.Spellings.{line_spelling}
use Rattle.wt_pattern.specs.PatternRows.{rows_below, cells_spelling, pattern_lines}
use Rattle.wt_pattern.proofs.writing.put_rows.Given as goal

abbrev pub invariant-loop-y : goal.invariant-loop-y
invariant-loop-y l = record {
  so_far : l.out.items ++ bytes_of (flat_map (line_spelling cells_spelling) (rows_below l.p l.y)) ≡ l.fn.out.items ++ bytes_of (pattern_lines l.p);
  within : l.y ≤ l.p.height;
  longer : length l.fn.out.items ≤ length l.out.items;
  before : take (length l.fn.out.items) l.out.items ≡ l.fn.out.items;
}

abbrev pub decreases-loop-y : goal.decreases-loop-y
decreases-loop-y l = l.y
