use Rattle.std.proofs.Common.{◌≡◌, ◌-◌}
use Rattle.wt_text.specs.Words.{tokens}
use Rattle.wt_line.specs.Given.{left}
use Rattle.wt_text.specs.Readers.{mapped}
use Rattle.wt_pattern.proofs.CellTurns.{behind_cells, cells_left}
use Rattle.wt_pattern.proofs.cells.cells_row.Given as goal

abbrev pub invariant-loop : goal.invariant-loop
invariant-loop l = behind_cells (mapped (λ v. v.items) l.cells) (cells_left (l.width - l.counter) (left l.rest.more l.rest.line.now)) ≡ cells_left l.width (tokens l.line)
