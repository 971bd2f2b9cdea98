use Rattle.std.proofs.Common.{◌≡◌, ◌-◌}
use Rattle.wt_text.specs.Lines.{lines}
use Rattle.wt_line.proofs.Turns.{with_front}
use Rattle.wt_pattern.specs.PatternRows.{cells_rows}
use Rattle.wt_pattern.proofs.cells.rows_at.Given as goal

abbrev pub invariant-loop : goal.invariant-loop
invariant-loop l = with_front l.rows.items (cells_rows l.width (l.height - l.counter) (l.place.number, lines l.place.bytes.now)) ≡ cells_rows l.width l.height (l.fn.place.number, lines l.fn.place.bytes.now)
