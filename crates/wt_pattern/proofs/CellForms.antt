-- Rows of numbers in lines, both ways.
use Rattle.std.proofs.Common.{rules, arith, ◌≡◌, ℕ, zero, suc, ◌+◌, ◌*◌, ◌≤◌, ◌<◌, List, [], ◌∷◌, ◌++◌, length, map, Option, Some, Result, Ok, Err, refl, sym, ap, ◌∙◌, subst, length-append}
use Rattle.std.specs.List.{flat_map}
use Rattle.std.specs.Fmt.{decimal}
use Rattle.wt_line.specs.declared.faults.What.{What}
use Rattle.wt_line.specs.declared.faults.What.TheVariants.{Number}
use Rattle.wt_text.specs.Lines.{Line}
use Rattle.wt_text.specs.Readers.{◌>>=◌, value_in_front, one_line}
use Rattle.wt_text.specs.Spellings.{IsClean, AllFit, IsNotEmpty, number_spelling, line_spelling, FitInTurn}
use Rattle.wt_text.proofs.Formats.{IsFormat, IsLine, number_format, fit_line, bind_some, read_is, joined_ok}
use Rattle.wt_text.proofs.Texts.{IsPart, line_part, many_part}
use Rattle.wt_pattern.specs.TileRows.{no_state}
use Rattle.wt_line.specs.Limits.{small}
use Rattle.wt_pattern.specs.PatternRows.{times, cells_form, cells_rows, cells_spelling, from_bottom}

-- n numbers, each within its limit
abbrev pub CellsFit : ℕ → List ℕ → Type 0
CellsFit width ns = (length ns ≡ width) × AllFit (λ n. n ≤ 65535) ns

cell_format : IsFormat small number_spelling (λ n. n ≤ 65535)
cell_format = number_format 65535 Number (omega arith)

cells_found : (n : ℕ) (ts : List (List ℕ)) (x : List ℕ) (rest : List (List ℕ)) → times small n ts ≡ Some (Ok x, rest) → (ts ≡ cells_spelling x ++ rest) × CellsFit n x
cells_found zero ts x rest e =
    let p = read_is {X = Result (List ℕ) What} (Ok []) (Ok x) ts rest e in
    let same : [] ≡ x = cc p.0 in
    let P : List ℕ → Type 0 = λ y. (ts ≡ cells_spelling y ++ rest) × CellsFit zero y in
    subst P same (p.1, (refl, tt))
cells_found (suc n) ts x rest e =
    let a = bind_some (small ts) _ (Ok x, rest) e in
    let b = bind_some (times small n a.0.1) _ (Ok x, rest) a.2 in
    let p = read_is (value_in_front a.0.0 b.0.0) (Ok x) b.0.1 rest b.2 in
    let j = joined_ok a.0.0 b.0.0 x p.0 in
    let f = cell_format.found ts j.0 a.0.1 (a.1 ∙ ap (λ (r : Result ℕ What). Some (r, a.0.1)) j.3) in
    let h = cells_found n a.0.1 j.1 rest (b.1 ∙ ap (λ (r : Result (List ℕ) What). Some (r, b.0.1)) j.4 ∙ ap (λ (r : List (List ℕ)). Some (Ok j.1, r)) p.1) in
    let P : List ℕ → Type 0 = λ y. (ts ≡ cells_spelling y ++ rest) × CellsFit (suc n) y in
    subst P (sym j.2) (f.0 ∙ ap (λ (r : List (List ℕ)). decimal j.0 ∷ r) h.0, (ap suc h.1.0, (f.1, h.1.1)))

cells_again : (n : ℕ) (x : List ℕ) (rest : List (List ℕ)) → CellsFit n x → times small n (cells_spelling x ++ rest) ≡ Some (Ok x, rest)
cells_again zero [] rest fits = refl
cells_again zero (c ∷ cs) rest fits = let e : suc (length cs) ≡ 0 = fits.0 in absurd (omega (arith, e))
cells_again (suc n) [] rest fits = let e : 0 ≡ suc n = fits.0 in absurd (omega (arith, e))
cells_again (suc n) (c ∷ cs) rest fits =
    let e : suc (length cs) ≡ suc n = fits.0 in
    rw (cell_format.again c (cells_spelling cs ++ rest) fits.1.0, cells_again n cs rest (omega (arith, e), fits.1.1)) refl

cells_clean : (x : List ℕ) → AllFit (λ n. n ≤ 65535) x → AllFit IsClean (cells_spelling x)
cells_clean [] fits = tt
cells_clean (c ∷ cs) fits = ((cell_format.clean c fits.0).0, cells_clean cs fits.1)

cells_format : (n : ℕ) → IsFormat (times small n) cells_spelling (CellsFit n)
cells_format n = record { found = cells_found n; again = cells_again n; clean = λ x fits. cells_clean x fits.1 }

cells_some : (n : ℕ) → 1 ≤ n → (x : List ℕ) → CellsFit n x → IsNotEmpty (cells_spelling x)
cells_some n le [] fits = let e : 0 ≡ n = fits.0 in absurd (omega (arith, e, le))
cells_some n le (c ∷ cs) fits = tt

pub cells_line : (width : ℕ) → 1 ≤ width → IsLine (cells_form width) cells_spelling (CellsFit width)
cells_line width le = fit_line (cells_some width le) (cells_format width)

pub rows_law : (width height : ℕ) → 1 ≤ width → IsPart (cells_rows width height) (flat_map (line_spelling cells_spelling)) (λ rows. (length rows ≡ height) × FitInTurn (λ s. CellsFit width) no_state 0 rows)
rows_law width height le = many_part no_state (λ s. line_part (cells_line width le)) 0 height

pub stacked_length : (width : ℕ) (rows : List (List ℕ)) → FitInTurn (λ s. CellsFit width) no_state 0 rows → length (from_bottom rows) ≡ width * length rows
stacked_length width [] fits = omega arith
stacked_length width (r ∷ rs) fits =
    let h = stacked_length width rs fits.1 in
    let one : length r ≡ width = fits.0.0 in
    let both = length-append (from_bottom rs) r in
    let times : width * suc (length rs) ≡ width * length rs + width = omega arith in
    omega (arith, h, one, both, times)

pub stack_size : (width height : ℕ) (p : ℕ × List Line) (rows : List (List ℕ)) (q : ℕ × List Line) → 1 ≤ width → cells_rows width height p ≡ Ok (rows, q) → length (from_bottom rows) ≡ width * height
stack_size width height p rows q le e =
    let f = (rows_law width height le).found p rows q e in
    stacked_length width rows f.1.1 ∙ ap (λ (n : ℕ). width * n) f.1.0
