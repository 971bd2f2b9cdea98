use Rattle.wt_grid.proofs.Grids.{field_lines, lines_field}
use Rattle.wt_tile.specs.Matching.{matches}
use Rattle.wt_pattern.proofs.laws.valid_lines.Goals as goal

pub returns-clause-to_lines : goal.returns-clause-to_lines
returns-clause-to_lines c = λ ts axis g. field_lines (matches ts) axis g

pub returns-clause-to_cells : goal.returns-clause-to_cells
returns-clause-to_cells c = λ ts axis g. lines_field (matches ts) axis g
