-- Lists of tiles as text, both ways.
use Rattle.std.proofs.Common.{rules, arith, ◌≡◌, ℕ, zero, suc, ◌≤◌, ◌<◌, ◌++◌, List, [], ◌∷◌, length, map, Result, Ok, refl, sym, ap, ◌∙◌, subst}
use Rattle.std.specs.List.{flat_map}
use Rattle.wt_tile.specs.declared.tile.Tile.{Tile}
use Rattle.wt_tile.specs.declared.tile.TileList.{TileList}
use Rattle.wt_line.specs.declared.faults.What.{What}
use Rattle.wt_text.specs.Lines.{Line, lines, bytes_of}
use Rattle.wt_text.specs.Readers.{TextFault, one_line, many_parts, whole_text}
use Rattle.wt_text.specs.Spellings.{AllFit, line_spelling, FitInTurn}
use Rattle.wt_text.proofs.Texts.{IsPart, IsWhole, line_part, many_part, text_whole}
use Rattle.wt_text.proofs.Seen.{seen_part}
use Rattle.wt_names.specs.Numbering.{named}
use Rattle.wt_names.specs.Rows.{Edges, NumberedTiles, along1, along2, tiles_from, with_numbers, with_names, row_spelling, RowFits, IsNumbered}
use Rattle.wt_names.proofs.Tiles.{rows_again, numbered_again, rows_numbered}
use Rattle.wt_names.proofs.RowLines.{row_line}
use Rattle.wt_pattern.specs.TileRows.{row_edges, row_names, edges_tile, tile_edges, rows_list, list_rows, no_state, row_part, tile_rows, rows_spelling, IsListed}
use Rattle.wt_pattern.specs.SetTexts.{as_numbered, RowsFit}

pub edges_again : (es : List (Edges ℕ)) → map tile_edges (map edges_tile es) ≡ es
edges_again [] = refl
edges_again (e ∷ es) = ap (λ (r : List (Edges ℕ)). e ∷ r) (edges_again es)

pub tiles_again : (ts : List Tile) → map edges_tile (map tile_edges ts) ≡ ts
tiles_again [] = refl
tiles_again (t ∷ ts) = ap (λ (r : List Tile). t ∷ r) (tiles_again ts)

-- rows are found again
rows_back : (rows : List (Edges (List ℕ))) → list_rows (rows_list rows) ≡ rows
rows_back rows =
    let n = with_numbers rows in
    ap (λ (es : List (Edges ℕ)). with_names (record { tiles = es; names1 = n.names1; names2 = n.names2 })) (edges_again n.tiles) ∙ rows_again rows

-- a row in its line fits
abbrev pub RowFit : Edges (List ℕ) → Type 0
RowFit e = RowFits (row_names e) × (row_edges (row_names e) ≡ e)

abbrev pub one_row : Edges (List ℕ) → List Line
one_row e = line_spelling row_spelling (row_names e)

pub row_law : {W : Type 0} → IsPart {W = W} row_part one_row RowFit
row_law = seen_part row_edges row_names (λ a fits. refl) (line_part row_line)

pub rows_law : {W : Type 0} (n : ℕ) → IsPart {W = W} (many_parts (λ s. row_part) no_state 0 n) (flat_map one_row) (λ rows. (length rows ≡ n) × FitInTurn (λ s. RowFit) no_state 0 rows)
rows_law n = many_part no_state (λ s. row_law) 0 n

-- n rows as a list of tiles
abbrev pub TilesFit : ℕ → TileList → Type 0
TilesFit n list = ((length (list_rows list) ≡ n) × FitInTurn (λ s. RowFit) no_state 0 (list_rows list)) × (rows_list (list_rows list) ≡ list)

pub tiles_law : {W : Type 0} (n : ℕ) → IsPart {W = W} (tile_rows n) rows_spelling (TilesFit n)
tiles_law n = seen_part rows_list list_rows (λ rows fits. rows_back rows) (rows_law n)

from_turn : (rows : List (Edges (List ℕ))) → FitInTurn (λ s. RowFit) no_state 0 rows → RowsFit rows
from_turn [] fits = tt
from_turn (r ∷ rs) fits = (fits.0.0, from_turn rs fits.1)

to_turn : (rows : List (Edges (List ℕ))) → RowsFit rows → FitInTurn (λ s. RowFit) no_state 0 rows
to_turn [] fits = tt
to_turn (r ∷ rs) fits = ((fits.0, refl), to_turn rs fits.1)

rows_length : (names1 names2 : List (List ℕ)) (ts : List Tile) → length (tiles_from (named names1 (along1 (map tile_edges ts))) (named names2 (along2 (map tile_edges ts)))) ≡ length ts
rows_length names1 names2 [] = refl
rows_length names1 names2 (t ∷ ts) = ap suc (rows_length names1 names2 ts)

pub listed_fits : (list : TileList) (n : ℕ) → length list.tiles ≡ n → IsListed list → TilesFit n list
listed_fits list n e good = ((rows_length list.names1 list.names2 list.tiles ∙ e, to_turn (list_rows list) good.names), good.numbered)

pub fits_listed : (list : TileList) (n : ℕ) → TilesFit n list → (length list.tiles ≡ n) × IsListed list
fits_listed list n fits = (sym (rows_length list.names1 list.names2 list.tiles) ∙ fits.0.0, record { names = from_turn (list_rows list) fits.0.1; numbered = fits.1 })

-- what is read is spelled so
pub read_spelled : (bytes : List ℕ) (n : ℕ) (list : TileList) → whole_text {W = What} (tile_rows n) (lines bytes) ≡ Ok list → (bytes ≡ bytes_of (rows_spelling list)) × (length list.tiles ≡ n) × IsListed list
read_spelled bytes n list e =
    let w : IsWhole {W = What} (whole_text (tile_rows n)) rows_spelling (TilesFit n) = text_whole (tiles_law n) in
    let f = w.found bytes list e in
    let g = fits_listed list n f.1 in
    (f.0, g.0, g.1)

-- what is spelled is read
pub spelled_read : (list : TileList) → IsListed list → whole_text {W = What} (tile_rows (length list.tiles)) (lines (bytes_of (rows_spelling list))) ≡ Ok list
spelled_read list good =
    let w : IsWhole {W = What} (whole_text (tile_rows (length list.tiles))) rows_spelling (TilesFit (length list.tiles)) = text_whole (tiles_law (length list.tiles)) in
    w.again list (listed_fits list (length list.tiles) refl good)

-- ---- the condition in words

abbrev list_of : NumberedTiles → TileList
list_of n = record { tiles = map edges_tile n.tiles; names1 = n.names1; names2 = n.names2 }

list_again : (list : TileList) → list_of (as_numbered list) ≡ list
list_again list = ap (λ (ts : List Tile). record { tiles = ts; names1 = list.names1; names2 = list.names2 }) (tiles_again list.tiles)

numbered_back : (n : NumberedTiles) → as_numbered (list_of n) ≡ n
numbered_back n = ap (λ (es : List (Edges ℕ)). record { tiles = es; names1 = n.names1; names2 = n.names2 }) (edges_again n.tiles)

pub numbered_listed : (list : TileList) → RowsFit (list_rows list) → IsNumbered (as_numbered list) → IsListed list
numbered_listed list fits good = record { names = fits; numbered = ap list_of (numbered_again (as_numbered list) good) ∙ list_again list }

pub listed_numbered : (list : TileList) → IsListed list → IsNumbered (as_numbered list)
listed_numbered list good =
    let same : with_numbers (list_rows list) ≡ as_numbered list = sym (numbered_back (with_numbers (list_rows list))) ∙ ap as_numbered good.numbered in
    subst IsNumbered same (rows_numbered (list_rows list))
