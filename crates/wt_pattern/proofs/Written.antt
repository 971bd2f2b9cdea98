-- Rows that are written one after the other.
use Rattle.std.proofs.Common.{rules, arith, ◌≡◌, ℕ, zero, suc, ◌+◌, ◌≤◌, ◌<◌, List, [], ◌∷◌, ◌++◌, length, get_or, map, take, drop, refl, sym, ap, ◌∙◌, append_assoc, add-one, drop-cons}
use Rattle.std.specs.List.{flat_map}
use Rattle.std.proofs.lemmas.List.{append-nil, length-append, take-append-le}
use Rattle.std.specs.Fmt.{decimal}
use Rattle.wt_tile.specs.declared.tile.Tile.{Tile}
use Rattle.wt_text.specs.Lines.{Line, bytes_of}
use Rattle.wt_text.specs.Words.{spaced}
use Rattle.wt_text.specs.Spellings.{line_spelling}
use Rattle.wt_names.specs.Numbering.{name_at, named}
use Rattle.wt_names.specs.Rows.{along1, along2, tiles_from, row_spelling}
use Rattle.wt_grid.specs.Grid.{Grid}
use Rattle.wt_pattern.specs.TileRows.{row_names, tile_edges}
use Rattle.wt_pattern.specs.PatternRows.{row_cells, rows_below, cells_spelling}
use Rattle.wt_pattern.specs.Writing.{tile_bytes}

-- the lines of tiles with these names
abbrev pub tile_lines : List (List ℕ) → List (List ℕ) → List Tile → List Line
tile_lines names1 names2 ts = flat_map (λ e. line_spelling row_spelling (row_names e)) (tiles_from (named names1 (along1 (map tile_edges ts))) (named names2 (along2 (map tile_edges ts))))

four_names : (a b c d rest : List ℕ) → (a ++ 32 ∷ (b ++ 32 ∷ (c ++ 32 ∷ d))) ++ 10 ∷ rest ≡ (a ++ 32 ∷ (b ++ 32 ∷ (c ++ 32 ∷ (d ++ 10 ∷ [])))) ++ rest
four_names a b c d rest = simp append_assoc refl

first_tile : (names1 names2 : List (List ℕ)) (t : Tile) (ts : List Tile) → bytes_of (tile_lines names1 names2 (t ∷ ts)) ≡ tile_bytes names1 names2 t ++ bytes_of (tile_lines names1 names2 ts)
first_tile names1 names2 t ts = four_names (name_at names1 t.east) (name_at names2 t.north) (name_at names1 t.west) (name_at names2 t.south) (bytes_of (tile_lines names1 names2 ts))

first_row : (g : Grid) (y : ℕ) → bytes_of (flat_map (line_spelling cells_spelling) (rows_below g (suc y))) ≡ (spaced (map decimal (row_cells g y)) ++ 10 ∷ []) ++ bytes_of (flat_map (line_spelling cells_spelling) (rows_below g y))
first_row g y = sym (append_assoc (spaced (map decimal (row_cells g y))) (10 ∷ []) (bytes_of (flat_map (line_spelling cells_spelling) (rows_below g y))))

-- one tile more
pub tile_written : (names1 names2 : List (List ℕ)) (ts : List Tile) (i : ℕ) (t : Tile) (out new total : List ℕ) → drop i ts ≡ t ∷ drop (i + 1) ts → new ≡ out ++ tile_bytes names1 names2 t
    → out ++ bytes_of (tile_lines names1 names2 (drop i ts)) ≡ total → new ++ bytes_of (tile_lines names1 names2 (drop (i + 1) ts)) ≡ total
tile_written names1 names2 ts i t out new total d n so_far =
    let e : bytes_of (tile_lines names1 names2 (drop i ts)) ≡ tile_bytes names1 names2 t ++ bytes_of (tile_lines names1 names2 (drop (i + 1) ts)) = ap (λ (x : List Tile). bytes_of (tile_lines names1 names2 x)) d ∙ first_tile names1 names2 t (drop (i + 1) ts) in
    ap (λ (x : List ℕ). x ++ bytes_of (tile_lines names1 names2 (drop (i + 1) ts))) n ∙ append_assoc out (tile_bytes names1 names2 t) (bytes_of (tile_lines names1 names2 (drop (i + 1) ts))) ∙ ap (λ (x : List ℕ). out ++ x) (sym e) ∙ so_far

-- one row more
pub row_written : (g : Grid) (y z : ℕ) (out new total : List ℕ) → y ≡ suc z → new ≡ out ++ spaced (map decimal (row_cells g z)) ++ 10 ∷ []
    → out ++ bytes_of (flat_map (line_spelling cells_spelling) (rows_below g y)) ≡ total → new ++ bytes_of (flat_map (line_spelling cells_spelling) (rows_below g z)) ≡ total
row_written g y z out new total k n so_far =
    let rest = bytes_of (flat_map (line_spelling cells_spelling) (rows_below g z)) in
    let row = spaced (map decimal (row_cells g z)) ++ 10 ∷ [] in
    let e : bytes_of (flat_map (line_spelling cells_spelling) (rows_below g y)) ≡ row ++ rest = ap (λ (x : ℕ). bytes_of (flat_map (line_spelling cells_spelling) (rows_below g x))) k ∙ first_row g z in
    ap (λ (x : List ℕ). x ++ rest) (n ∙ append_assoc out (spaced (map decimal (row_cells g z))) (10 ∷ [])) ∙ append_assoc out row rest ∙ ap (λ (x : List ℕ). out ++ x) (sym e) ∙ so_far

-- a name by its number
pub name_is : (xs : List (List ℕ)) (n : ℕ) (x : List ℕ) → n < length xs → x ≡ get_or xs n x → x ≡ name_at xs n
name_is [] n x lt e = absurd (omega arith)
name_is (y ∷ ys) zero x lt e = e
name_is (y ∷ ys) (suc n) x lt e = name_is ys n x (omega arith) e

pub no_name : (xs : List (List ℕ)) (n : ℕ) → length xs ≤ n → [] ≡ name_at xs n
no_name [] n le = refl
no_name (y ∷ ys) zero le = absurd (omega arith)
no_name (y ∷ ys) (suc n) le = no_name ys n (omega arith)

-- a text begins with what it began with before more was appended
pub still_before : (old out more last new : List ℕ) → length old ≤ length out → take (length old) out ≡ old → new ≡ out ++ more ++ last → (length old ≤ length new) × (take (length old) new ≡ old)
still_before old out more last new longer before e =
    let longest : new ≡ out ++ (more ++ last) = e ∙ append_assoc out more last in
    let grown : length new ≡ length out + length (more ++ last) = ap length longest ∙ length-append out (more ++ last) in
    (omega (arith, longer, grown), ap (take (length old)) longest ∙ take-append-le (length old) out (more ++ last) longer ∙ before)
