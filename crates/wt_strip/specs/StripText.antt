-- Layers as text: the line with the width and the number of layers, the layers, and the line `end`.
use Rattle.std.specs.Prelude.{◌≡◌, ℕ, ◌+◌, ◌-◌, ◌*◌, ◌≤◌, List, [], ◌∷◌, ◌++◌, length, Result, codes}
use Rattle.std.specs.List.{concat, flat_map}
use Rattle.std.specs.Fmt.{decimal}
use Rattle.wt_text.specs.Lines.{Line, bytes_of}
use Rattle.wt_text.specs.Readers.{LineFault, TextFault, value_behind, both, given, number_to, whole, one_line, many_parts, counted_parts, both_parts, part_by, seen_as}
use Rattle.wt_text.specs.Spellings.{AllFit, line_spelling}
use Rattle.wt_grid.specs.Grid.{listed}
use Rattle.wt_grid.specs.Shifts.{fill}
use Rattle.wt_line.specs.declared.limits.TheConstants.{MOST}
use Rattle.wt_line.specs.declared.faults.What.{What}
use Rattle.wt_line.specs.declared.faults.What.TheVariants.{Width, Height, Rows}
use Rattle.wt_line.specs.Limits.{number_from_one}
use Rattle.wt_pattern.specs.TileRows.{no_state}
use Rattle.wt_pattern.specs.PatternRows.{cells_form, cells_spelling}
use Rattle.wt_strip.specs.declared.layers.Layers.{Layers}
use Rattle.wt_strip.specs.declared.limits.TheConstants.{MAX_COLUMNS, MAX_LAYERS, MAX_ROWS}
use Rattle.wt_strip.specs.Listed.{rows_in, row_at}

-- strip w h: the width, and how many layers there are
abbrev pub head_form : List (List ℕ) → Result (ℕ × ℕ) (LineFault What)
head_form = whole (value_behind (codes "strip") (both (number_from_one MAX_COLUMNS Width) (number_from_one MAX_LAYERS Height)))

-- layer c: how many rows a layer has, behind n rows of other layers
abbrev pub count_form : ℕ → List (List ℕ) → Result ℕ (LineFault What)
count_form before = whole (value_behind (codes "layer") (number_to (MAX_ROWS - before) Rows))

-- a line with the word end alone
abbrev pub end_form : List (List ℕ) → Result (Unit {0}) (LineFault What)
end_form = whole (value_behind (codes "end") (given tt))

-- the line with a layer's count, and then n rows of width w; as cells, one row after the other
abbrev pub layer_part : ℕ → ℕ → ℕ × List Line → Result (List ℕ × (ℕ × List Line)) (TextFault What)
layer_part w before = seen_as concat (counted_parts (one_line (count_form before)) (λ s. one_line (cells_form w)) no_state 0)

-- how many rows there are with those of this layer
abbrev pub rows_with : ℕ → ℕ → List ℕ → ℕ
rows_with w before cells = before + rows_in w cells

-- n layers, the lowest first
abbrev pub layers_part : ℕ → ℕ → ℕ × List Line → Result (List (List ℕ) × (ℕ × List Line)) (TextFault What)
layers_part w h = many_parts (layer_part w) (rows_with w) 0 h

-- the layers of a text, whose number its first line tells
abbrev pub strip_layers : ((ℕ × ℕ) × List (List ℕ)) × Unit {0} → Layers
strip_layers x = record { width = x.0.0.0; layers = x.0.1 }

-- the first line, the layers and the last line
abbrev pub strip_part : ℕ × List Line → Result (Layers × (ℕ × List Line)) (TextFault What)
strip_part = seen_as strip_layers (both_parts (part_by (one_line head_form) (λ s. layers_part s.0 s.1)) (one_line end_form))

-- ---- how layers are written

-- the rows of a layer
abbrev pub layer_rows : ℕ → List ℕ → List (List ℕ)
layer_rows w cells = listed (rows_in w cells) (row_at w cells)

-- a word, and a number behind it
abbrev pub count_tokens : List ℕ → ℕ → List (List ℕ)
count_tokens word n = word ∷ decimal n ∷ []

-- strip, the width and how many layers there are
abbrev pub head_tokens : ℕ × ℕ → List (List ℕ)
head_tokens x = codes "strip" ∷ decimal x.0 ∷ decimal x.1 ∷ []

-- end alone
abbrev pub end_tokens : Unit {0} → List (List ℕ)
end_tokens x = codes "end" ∷ []

-- the lines of a layer: how many rows it has, and its rows
abbrev pub layer_lines : ℕ → List ℕ → List Line
layer_lines w cells = line_spelling (count_tokens (codes "layer")) (length (layer_rows w cells)) ++ flat_map (line_spelling cells_spelling) (layer_rows w cells)

-- the lines of layers
abbrev pub strip_lines : Layers → List Line
strip_lines l = (line_spelling head_tokens (l.width, length l.layers) ++ flat_map (layer_lines l.width) l.layers) ++ line_spelling end_tokens tt

-- whole rows, each cell of which is a number that a text may have
abbrev pub AreNumbers : ℕ → List ℕ → Type 0
AreNumbers w cells = (length cells ≡ rows_in w cells * w) × AllFit (λ c. c ≤ MOST) cells

-- layers that have a text: within the limits of layers, whatever stands in them
pub record HasText (l : Layers) : Type 0 where
  pub wide : (1 ≤ l.width) × (l.width ≤ MAX_COLUMNS)
  pub high : (1 ≤ length l.layers) × (length l.layers ≤ MAX_LAYERS)
  pub rows : AllFit (AreNumbers l.width) l.layers
  pub few : fill (rows_in l.width) l.layers ≤ MAX_ROWS

-- the bytes are the text of these layers
abbrev pub IsStripText : Layers → List ℕ → Type 0
IsStripText l bytes = (bytes ≡ bytes_of (strip_lines l)) × HasText l
