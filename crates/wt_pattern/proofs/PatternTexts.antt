-- Patterns as text, both ways.
use Rattle.std.proofs.Common.{rules, arith, ◌≡◌, ℕ, zero, suc, ◌+◌, ◌-◌, ◌*◌, ◌≤◌, ◌<◌, ◌++◌, List, [], ◌∷◌, length, take, drop, min, Result, Ok, refl, sym, ap, ◌∙◌, subst, append-nil, append_assoc, length-append, length-drop, length-take}
use Rattle.std.specs.List.{flat_map}
use Rattle.std.proofs.Math.Seq.{take-add}
use Rattle.std.proofs.lemmas.Nat.{mul-le}
use Rattle.std.proofs.lemmas.List.{take_at, drop_at, take_all}
use Rattle.wt_line.specs.declared.faults.What.{What}
use Rattle.wt_text.specs.Lines.{Line, lines, bytes_of}
use Rattle.wt_text.specs.Readers.{TextFault, whole_text}
use Rattle.wt_text.specs.Spellings.{AllFit, line_spelling, FitInTurn}
use Rattle.wt_text.proofs.Texts.{IsPart, IsWhole, text_whole}
use Rattle.wt_text.proofs.Seen.{seen_part}
use Rattle.wt_grid.specs.Grid.{Grid, IsGrid}
use Rattle.wt_pattern.specs.TileRows.{no_state}
use Rattle.wt_pattern.specs.PatternRows.{cells_rows, from_bottom, rows_grid, pattern_rows, row_cells, rows_below, cells_spelling, pattern_lines}
use Rattle.wt_pattern.proofs.CellForms.{CellsFit, rows_law, stacked_length}

one_more : (n w : ℕ) → suc n * w ≡ n * w + w
one_more n w = omega arith

no_more : (w : ℕ) → 0 * w ≡ 0
no_more w = omega arith

row_is : (g : Grid) (y : ℕ) → row_cells g y ≡ take g.width (drop (y * g.width) g.cells)
row_is g y = let k : y * g.width + g.width - y * g.width ≡ g.width = omega arith in rw k refl

-- the rows below a row hold the cells below it
stacked_below : (g : Grid) (n : ℕ) → from_bottom (rows_below g n) ≡ take (n * g.width) g.cells
stacked_below g zero = rw (no_more g.width) refl
stacked_below g (suc n) =
    rw (one_more n g.width, take-add (n * g.width) g.width g.cells)
    (ap (λ (x : List ℕ). x ++ row_cells g n) (stacked_below g n) ∙ ap (λ (x : List ℕ). take (n * g.width) g.cells ++ x) (row_is g n))

all_below : (g : Grid) → IsGrid g → from_bottom (rows_below g g.height) ≡ g.cells
all_below g whole = stacked_below g g.height ∙ take_all (g.height * g.width) g.cells (omega (arith, whole.whole, turned g.height g.width))
  where
    turned : (a b : ℕ) → a * b ≡ b * a
    turned a b = grind arith

-- the rows of a rectangle that is made of rows
made_below : (w h : ℕ) (rows : List (List ℕ)) (more : List ℕ) → FitInTurn (λ s. CellsFit w) no_state 0 rows → rows_below (record { width = w; height = h; cells = from_bottom rows ++ more }) (length rows) ≡ rows
made_below w h [] more fits = refl
made_below w h (r ∷ rs) more fits =
    let g : Grid = record { width = w; height = h; cells = from_bottom rs ++ (r ++ more) } in
    let same : (from_bottom rs ++ r) ++ more ≡ from_bottom rs ++ (r ++ more) = append_assoc (from_bottom rs) r more in
    let size : length (from_bottom rs) ≡ length rs * w = stacked_length w rs fits.1 ∙ turned w (length rs) in
    let one : length r ≡ w = fits.0.0 in
    let row : row_cells g (length rs) ≡ r = row_is g (length rs) ∙ ap (take w) (drop_at (from_bottom rs) (r ++ more) (length rs * w) size) ∙ take_at r more w one in
    ap (λ (cs : List ℕ). rows_below (record { width = w; height = h; cells = cs }) (suc (length rs))) same
    ∙ ap (λ (x : List ℕ). x ∷ rows_below g (length rs)) row ∙ ap (λ (x : List (List ℕ)). r ∷ x) (made_below w h rs (r ++ more) fits.1)
  where
    turned : (a b : ℕ) → a * b ≡ b * a
    turned a b = grind arith

rows_back : (w h : ℕ) (rows : List (List ℕ)) → (length rows ≡ h) × FitInTurn (λ s. CellsFit w) no_state 0 rows → rows_below (rows_grid w h rows) h ≡ rows
rows_back w h rows fits =
    ap (rows_below (rows_grid w h rows)) (sym fits.0)
    ∙ ap (λ (cs : List ℕ). rows_below (record { width = w; height = h; cells = cs }) (length rows)) (sym (append-nil (from_bottom rows)))
    ∙ made_below w h rows [] fits.1

abbrev pub GridFits : ℕ → ℕ → Grid → Type 0
GridFits w h g = ((length (rows_below g h) ≡ h) × FitInTurn (λ s. CellsFit w) no_state 0 (rows_below g h)) × (rows_grid w h (rows_below g h) ≡ g)

pub grid_law : (w h : ℕ) → 1 ≤ w → IsPart (pattern_rows w h) (λ g. flat_map (line_spelling cells_spelling) (rows_below g h)) (GridFits w h)
grid_law w h le = seen_part (rows_grid w h) (λ g. rows_below g h) (λ rows fits. rows_back w h rows fits) (rows_law w h le)

small_take : (n : ℕ) (cs : List ℕ) → AllFit (λ c. c ≤ 65535) cs → AllFit (λ c. c ≤ 65535) (take n cs)
small_take zero cs fits = tt
small_take (suc n) [] fits = tt
small_take (suc n) (c ∷ cs) fits = (fits.0, small_take n cs fits.1)

small_drop : (n : ℕ) (cs : List ℕ) → AllFit (λ c. c ≤ 65535) cs → AllFit (λ c. c ≤ 65535) (drop n cs)
small_drop zero cs fits = fits
small_drop (suc n) [] fits = tt
small_drop (suc n) (c ∷ cs) fits = small_drop n cs fits.1

small_both : (as' bs : List ℕ) → AllFit (λ c. c ≤ 65535) as' → AllFit (λ c. c ≤ 65535) bs → AllFit (λ c. c ≤ 65535) (as' ++ bs)
small_both [] bs a b = b
small_both (x ∷ xs) bs a b = (a.0, small_both xs bs a.1 b)

small_stack : (w : ℕ) (rows : List (List ℕ)) → FitInTurn (λ s. CellsFit w) no_state 0 rows → AllFit (λ c. c ≤ 65535) (from_bottom rows)
small_stack w [] fits = tt
small_stack w (r ∷ rs) fits = small_both (from_bottom rs) r (small_stack w rs fits.1) fits.0.1

count_below : (g : Grid) (n : ℕ) → length (rows_below g n) ≡ n
count_below g zero = refl
count_below g (suc n) = ap suc (count_below g n)

row_length : (g : Grid) (y h : ℕ) → length g.cells ≡ g.width * h → suc y ≤ h → length (row_cells g y) ≡ g.width
row_length g y h size lt =
    let e : row_cells g y ≡ take g.width (drop (y * g.width) g.cells) = row_is g y in
    let most : suc y * g.width ≤ h * g.width = mul-le (suc y) g.width h g.width lt (omega arith) in
    let turned : h * g.width ≡ g.width * h = grind arith in
    ap length e ∙ length-take g.width (drop (y * g.width) g.cells) ∙ omega (arith, length-drop (y * g.width) g.cells, size, most, turned, one_more y g.width)

rows_fit : (g : Grid) (h n : ℕ) → length g.cells ≡ g.width * h → AllFit (λ c. c ≤ 65535) g.cells → n ≤ h → FitInTurn (λ s. CellsFit g.width) no_state 0 (rows_below g n)
rows_fit g h zero size small le = tt
rows_fit g h (suc n) size small le =
    ((row_length g n h size le, subst (AllFit (λ c. c ≤ 65535)) (sym (row_is g n)) (small_take g.width (drop (n * g.width) g.cells) (small_drop (n * g.width) g.cells small))), rows_fit g h n size small (omega arith))

-- what is read is spelled so
pub grid_spelled : (bytes : List ℕ) (w h : ℕ) (g : Grid) → 1 ≤ w → 1 ≤ h → whole_text (pattern_rows w h) (lines bytes) ≡ Ok g → (bytes ≡ bytes_of (pattern_lines g)) × (g.width ≡ w) × (g.height ≡ h) × IsGrid g × AllFit (λ c. c ≤ 65535) g.cells
grid_spelled bytes w h g wide high e =
    let t : IsWhole (whole_text (pattern_rows w h)) (λ x. flat_map (line_spelling cells_spelling) (rows_below x h)) (GridFits w h) = text_whole (grid_law w h wide) in
    let f = t.found bytes g e in
    let rows = rows_below g h in
    let same : rows_grid w h rows ≡ g = f.1.1 in
    let size : length (from_bottom rows) ≡ w * h = stacked_length w rows f.1.0.1 ∙ ap (λ (n : ℕ). w * n) f.1.0.0 in
    let height : g.height ≡ h = sym (ap (λ (x : Grid). x.height) same) in
    let P : Grid → Type 0 = λ x. (x.width ≡ w) × (x.height ≡ h) × IsGrid x × AllFit (λ c. c ≤ 65535) x.cells in
    let made = subst P same (refl, refl, record { wide = wide; high = high; whole = size }, small_stack w rows f.1.0.1) in
    (f.0 ∙ ap (λ (n : ℕ). bytes_of (flat_map (line_spelling cells_spelling) (rows_below g n))) (sym height), made.0, made.1, made.2, made.3)

-- what is spelled is read
pub grid_read : (g : Grid) → IsGrid g → AllFit (λ c. c ≤ 65535) g.cells → whole_text (pattern_rows g.width g.height) (lines (bytes_of (pattern_lines g))) ≡ Ok g
grid_read g good small =
    let t : IsWhole (whole_text (pattern_rows g.width g.height)) (λ x. flat_map (line_spelling cells_spelling) (rows_below x g.height)) (GridFits g.width g.height) = text_whole (grid_law g.width g.height good.wide) in
    t.again g ((count_below g g.height, rows_fit g g.height g.height good.whole small (omega arith)), ap (λ (cs : List ℕ). record { width = g.width; height = g.height; cells = cs }) (all_below g good))
