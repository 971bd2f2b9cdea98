-- The readers of sets and patterns follow their grammars.
use Rattle.std.proofs.Common.{ℕ}
use Rattle.std.specs.Prelude.{codes}
use Rattle.wt_line.specs.declared.faults.What.TheVariants.{Number, Width, Height}
use Rattle.wt_names.specs.Rows.{row_form}
use Rattle.wt_pattern.specs.TileRows.{no_state, row_edges, rows_list, tile_rows}
use Rattle.wt_pattern.specs.PatternRows.{cells_rows, rows_grid, pattern_rows, only_rows, pattern_part}
use Rattle.wt_faults.specs.Grammars.{many}
use Rattle.wt_faults.specs.Rows.{names_line, names_part, cells_grammar, shaped_grammar}
use Rattle.wt_faults.proofs.Follows.{IsRead, IsOfForm, one_read, seen_read, by_read, many_read}
use Rattle.wt_faults.proofs.FormLaws.{number_said, from_one_said, name_said, behind_said, both_said, times_said, whole_said}

names_form : IsOfForm row_form names_line
names_form = whole_said (both_said name_said (both_said name_said (both_said name_said name_said)))

pub set_read : (n : ℕ) → IsRead (tile_rows n) (λ next. many names_part n (λ rows. next (rows_list rows)))
set_read n = seen_read rows_list (many_read no_state (λ s. seen_read row_edges (one_read names_form)) 0 n)

cells_read : (width height : ℕ) → IsRead (cells_rows width height) (cells_grammar width height)
cells_read width height = many_read no_state (λ s. one_read (whole_said (times_said (number_said 65535 Number) width))) 0 height

pub rows_read : (width height : ℕ) → IsRead (pattern_rows width height) (λ next. cells_grammar width height (λ rows. next (rows_grid width height rows)))
rows_read width height = seen_read (rows_grid width height) (cells_read width height)

pub shaped_read : IsRead pattern_part (λ next. shaped_grammar (λ x. next (rows_grid x.0.0 x.0.1 x.1)))
shaped_read = seen_read only_rows (by_read (one_read (whole_said (behind_said (codes "pattern") (both_said (from_one_said 4096 Width) (from_one_said 4096 Height))))) (λ s. rows_read s.0 s.1))
