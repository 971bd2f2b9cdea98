-- Rows read one after the other, as a loop does.
use Rattle.std.proofs.Common.{◌≡◌, ℕ, suc, ◌-◌, ◌+◌, ◌≤◌, ◌<◌, List, [], ◌∷◌, ◌++◌, map, Result, Ok, Err, refl, sym, ap, ◌∙◌, append_assoc, arith}
use Rattle.std.proofs.lemmas.List.{append-nil}
use Rattle.wt_tile.specs.declared.tile.Tile.{Tile}
use Rattle.wt_tile.specs.declared.tile.TileList.{TileList}
use Rattle.wt_line.specs.declared.faults.What.{What}
use Rattle.wt_line.specs.declared.faults.TextFault.{TextFault}
use Rattle.wt_line.specs.declared.faults.TextFault.TheVariants as text
use Rattle.wt_line.specs.Faults.{TextFails}
use Rattle.wt_text.specs.Lines.{Line}
use Rattle.wt_text.specs.Readers as words
use Rattle.wt_text.specs.Readers.{◌then◌, many_parts, seen_as}
use Rattle.wt_names.specs.Numbering.{seen_after, numbered, all_seen}
use Rattle.wt_names.specs.Rows.{Edges, along1, along2, tiles_from}
use Rattle.wt_pattern.specs.TileRows.{edges_tile, no_state, row_part, tile_rows}
use Rattle.wt_pattern.specs.Numbered.{next_tile}

-- tiles, and the tiles of further rows behind them
abbrev pub list_on : List Tile → List (List ℕ) → List (List ℕ) → List (Edges (List ℕ)) → TileList
list_on front seen1 seen2 rows = record { tiles = front ++ map edges_tile (tiles_from (numbered seen1 (along1 rows)) (numbered seen2 (along2 rows))); names1 = all_seen seen1 (along1 rows); names2 = all_seen seen2 (along2 rows) }

abbrev pub Rows : Type 0
Rows = Result (List (Edges (List ℕ)) × (ℕ × List Line)) (words.TextFault What)

abbrev pub listed : List Tile → List (List ℕ) → List (List ℕ) → Rows → Result (TileList × (ℕ × List Line)) (words.TextFault What)
listed front seen1 seen2 read = read then λ x. Ok (list_on front seen1 seen2 x.0, x.1)

-- n rows
abbrev pub rows_left : ℕ → ℕ × List Line → Rows
rows_left n p = many_parts (λ s. row_part) no_state 0 n p

pub begins : (count : ℕ) (p : ℕ × List Line) → listed [] [] [] (rows_left (count - 0) p) ≡ tile_rows count p
unfolding seen_as
begins count p = let k : count - 0 ≡ count = omega arith in rw k refl

regroup : (front : List Tile) (seen1 seen2 : List (List ℕ)) (e : Edges (List ℕ)) (r : Rows)
    → listed front seen1 seen2 (r then λ x. Ok (e ∷ x.0, x.1)) ≡ listed (front ++ next_tile seen1 seen2 e ∷ []) (seen_after (seen_after seen1 e.right) e.left) (seen_after (seen_after seen2 e.top) e.bottom) r
regroup front seen1 seen2 e (Ok x) =
    let after1 = seen_after (seen_after seen1 e.right) e.left in
    let after2 = seen_after (seen_after seen2 e.top) e.bottom in
    ap (λ (ts : List Tile). Ok (record { tiles = ts; names1 = all_seen after1 (along1 x.0); names2 = all_seen after2 (along2 x.0) }, x.1)) (sym (append_assoc front (next_tile seen1 seen2 e ∷ []) (map edges_tile (tiles_from (numbered after1 (along1 x.0)) (numbered after2 (along2 x.0))))))
regroup front seen1 seen2 e (Err w) = refl

pub goes_on : (front : List Tile) (seen1 seen2 : List (List ℕ)) (count i : ℕ) (p : ℕ × List Line) (e : Edges (List ℕ)) (q : ℕ × List Line) (total : Result (TileList × (ℕ × List Line)) (words.TextFault What)) → i < count → row_part {W = What} p ≡ Ok (e, q)
    → listed front seen1 seen2 (rows_left (count - i) p) ≡ total
    → listed (front ++ next_tile seen1 seen2 e ∷ []) (seen_after (seen_after seen1 e.right) e.left) (seen_after (seen_after seen2 e.top) e.bottom) (rows_left (count - (i + 1)) q) ≡ total
goes_on front seen1 seen2 count i p e q total lt h so_far =
    let k : count - i ≡ suc (count - (i + 1)) = omega arith in
    let one : listed front seen1 seen2 (rows_left (count - i) p) ≡ listed (front ++ next_tile seen1 seen2 e ∷ []) (seen_after (seen_after seen1 e.right) e.left) (seen_after (seen_after seen2 e.top) e.bottom) (rows_left (count - (i + 1)) q) =
    rw (k, h) (regroup front seen1 seen2 e (rows_left (count - (i + 1)) q)) in
    sym one ∙ so_far

fails : (front : List Tile) (seen1 seen2 : List (List ℕ)) (n : ℕ) (p : ℕ × List Line) (w : words.TextFault What) → row_part {W = What} p ≡ Err w → listed front seen1 seen2 (rows_left (suc n) p) ≡ Err w
fails front seen1 seen2 n p w h = rw h refl

pub ends : (w : TextFault) (front : List Tile) (seen1 seen2 : List (List ℕ)) (count i : ℕ) (p : ℕ × List Line) (total : Result (TileList × (ℕ × List Line)) (words.TextFault What)) → i < count → TextFails w (row_part {W = What} p)
    → listed front seen1 seen2 (rows_left (count - i) p) ≡ total → TextFails w total
ends text.OutOfMemory front seen1 seen2 count i p total lt h so_far = tt
ends (text.Syntax n) front seen1 seen2 count i p total lt h so_far =
    let k : count - i ≡ suc (count - (i + 1)) = omega arith in
    sym so_far ∙ ap (λ (m : ℕ). listed front seen1 seen2 (rows_left m p)) k ∙ fails front seen1 seen2 (count - (i + 1)) p (words.syntax_at n) h
ends (text.Limit what n) front seen1 seen2 count i p total lt h so_far =
    let k : count - i ≡ suc (count - (i + 1)) = omega arith in
    sym so_far ∙ ap (λ (m : ℕ). listed front seen1 seen2 (rows_left m p)) k ∙ fails front seen1 seen2 (count - (i + 1)) p (words.limit_at what n) h

pub is_done : (front : List Tile) (seen1 seen2 : List (List ℕ)) (count i : ℕ) (p : ℕ × List Line) (total : Result (TileList × (ℕ × List Line)) (words.TextFault What)) → count ≤ i → listed front seen1 seen2 (rows_left (count - i) p) ≡ total
    → total ≡ Ok (record { tiles = front; names1 = seen1; names2 = seen2 }, p)
is_done front seen1 seen2 count i p total le so_far =
    let k : count - i ≡ 0 = omega arith in
    let one : listed front seen1 seen2 (rows_left (count - i) p) ≡ Ok (record { tiles = front; names1 = seen1; names2 = seen2 }, p) = rw k (ap (λ (ts : List Tile). Ok (record { tiles = ts; names1 = seen1; names2 = seen2 }, p)) (append-nil front)) in
    sym so_far ∙ one
