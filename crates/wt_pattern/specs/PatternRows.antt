-- Patterns as text: a row of numbers in each line, the top row first.
use Rattle.std.specs.Prelude.{◌≡◌, ℕ, zero, suc, ◌+◌, ◌*◌, ◌≤◌, List, [], ◌∷◌, ◌++◌, length, map, slice_range, Option, None, Some, Result, Ok, codes}
use Rattle.std.specs.List.{flat_map}
use Rattle.std.specs.Fmt.{decimal}
use Rattle.wt_line.specs.declared.faults.What.{What}
use Rattle.wt_line.specs.Limits.{small, number_from_one}
use Rattle.wt_line.specs.declared.faults.What.TheVariants.{Width, Height}
use Rattle.wt_text.specs.Lines.{Line}
use Rattle.wt_text.specs.Readers.{◌>>=◌, LineFault, TextFault, value_behind, both, whole, value_in_front, one_line, many_parts, seen_as, part_by}
use Rattle.wt_text.specs.Spellings.{behind_spelling, both_spelling, number_spelling, line_spelling}
use Rattle.wt_grid.specs.Grid.{Grid}
use Rattle.wt_grid.specs.declared.limits.TheConstants.{MAX_SIDE}
use Rattle.wt_pattern.specs.TileRows.{no_state}

-- n values one after the other
abbrev pub times : {W A : Type 0} → (List (List ℕ) → Option (Result A W × List (List ℕ))) → ℕ → List (List ℕ) → Option (Result (List A) W × List (List ℕ))
times read zero ts = Some (Ok [], ts)
times read (suc n) ts = read ts >>= λ a. times read n a.1 >>= λ x. Some (value_in_front a.0 x.0, x.1)

-- a row of n numbers
abbrev pub cells_form : ℕ → List (List ℕ) → Result (List ℕ) (LineFault What)
cells_form width = whole (times small width)

-- h rows of w numbers
abbrev pub cells_rows : ℕ → ℕ → ℕ × List Line → Result (List (List ℕ) × (ℕ × List Line)) (TextFault What)
cells_rows width height = many_parts (λ s. one_line (cells_form width)) no_state 0 height

-- the cells of rows, the top one first, in reading order, which begins at the bottom
abbrev pub from_bottom : List (List ℕ) → List ℕ
from_bottom [] = []
from_bottom (r ∷ rs) = from_bottom rs ++ r

-- rows as a rectangle of this width and height
abbrev pub rows_grid : ℕ → ℕ → List (List ℕ) → Grid
rows_grid width height rows = record { width = width; height = height; cells = from_bottom rows }

-- the rows of a pattern of this width and height
abbrev pub pattern_rows : ℕ → ℕ → ℕ × List Line → Result (Grid × (ℕ × List Line)) (TextFault What)
pattern_rows width height = seen_as (rows_grid width height) (cells_rows width height)

-- pattern w h
abbrev pub shape_form : List (List ℕ) → Result (ℕ × ℕ) (LineFault What)
shape_form = whole (value_behind (codes "pattern") (both (number_from_one MAX_SIDE Width) (number_from_one MAX_SIDE Height)))

-- the pattern alone, without the width and the height that its text begins with
abbrev pub only_rows : (ℕ × ℕ) × Grid → Grid
only_rows x = x.1

-- the line with the width and the height, and then the rows
abbrev pub pattern_part : ℕ × List Line → Result (Grid × (ℕ × List Line)) (TextFault What)
pattern_part = seen_as only_rows (part_by (one_line shape_form) (λ s. pattern_rows s.0 s.1))

-- ---- how a pattern is written

-- row y, from left to right
abbrev pub row_cells : Grid → ℕ → List ℕ
row_cells g y = slice_range g.cells (y * g.width) (y * g.width + g.width)

-- the rows below row y, the highest first
abbrev pub rows_below : Grid → ℕ → List (List ℕ)
rows_below g zero = []
rows_below g (suc y) = row_cells g y ∷ rows_below g y

-- the tokens of a row: each cell in decimal
abbrev pub cells_spelling : List ℕ → List (List ℕ)
cells_spelling row = map decimal row

-- the lines of a pattern, the top row first
abbrev pub pattern_lines : Grid → List Line
pattern_lines g = flat_map (line_spelling cells_spelling) (rows_below g g.height)
