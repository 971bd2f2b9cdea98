use Rattle.wt_grid.proofs.CarriedGrids.{repeated_lines, lines_repeated}
use Rattle.wt_pattern.proofs.laws.period_lines.Goals as goal

pub returns-clause-to_lines : goal.returns-clause-to_lines
returns-clause-to_lines c = repeated_lines

pub returns-clause-to_cells : goal.returns-clause-to_cells
returns-clause-to_cells c = lines_repeated
