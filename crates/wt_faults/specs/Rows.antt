-- The texts of lists of tiles, and of patterns.
use Rattle.std.specs.Prelude.{ℕ, List, Option, codes}
use Rattle.wt_grid.specs.declared.limits.TheConstants.{MAX_SIDE}
use Rattle.wt_line.specs.declared.limits.TheConstants.{MOST}
use Rattle.wt_line.specs.declared.faults.What.TheVariants.{Number, Width, Height}
use Rattle.wt_names.specs.Rows.{Edges}
use Rattle.wt_pattern.specs.TileRows.{row_edges}
use Rattle.wt_faults.specs.Grammars.{Quantity, Grammar, ends, one, many}
use Rattle.wt_faults.specs.Forms.{a_number, a_number_from_one, a_name, behind_word, two, so_many, alone}

-- a row of four names
abbrev pub names_line : List (List ℕ) → Option ((List ℕ × (List ℕ × (List ℕ × List ℕ))) × List Quantity)
names_line = alone (two a_name (two a_name (two a_name a_name)))

-- such a row, and then what goes by its edges
abbrev pub names_part : (Edges (List ℕ) → Grammar) → Grammar
names_part next = one names_line (λ x. next (row_edges x))

-- n such rows
abbrev pub set_grammar : ℕ → Grammar
set_grammar n = many names_part n (λ rows. ends)

-- a row of n numbers
abbrev pub cells_line : ℕ → List (List ℕ) → Option (List ℕ × List Quantity)
cells_line width = alone (so_many (a_number MOST Number) width)

-- h rows of w numbers, and then what goes by them
abbrev pub cells_grammar : ℕ → ℕ → (List (List ℕ) → Grammar) → Grammar
cells_grammar width height = many (one (cells_line width)) height

-- pattern w h, of which neither is 0
abbrev pub shape_line : List (List ℕ) → Option ((ℕ × ℕ) × List Quantity)
shape_line = alone (behind_word (codes "pattern") (two (a_number_from_one MAX_SIDE Width) (a_number_from_one MAX_SIDE Height)))

-- the rows of a pattern of this width and height
abbrev pub rows_grammar : ℕ → ℕ → Grammar
rows_grammar width height = cells_grammar width height (λ rows. ends)

-- a pattern with the line of its width and height, and then what goes by both
abbrev pub shaped_grammar : ((ℕ × ℕ) × List (List ℕ) → Grammar) → Grammar
shaped_grammar next = one shape_line (λ s. cells_grammar s.0 s.1 (λ rows. next (s, rows)))

-- a pattern with the line of its width and height
abbrev pub pattern_grammar : Grammar
pattern_grammar = shaped_grammar (λ x. ends)
