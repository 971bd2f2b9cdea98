-- Layers as text, both ways.
use Rattle.std.proofs.Common.{rules, arith, ◌≡◌, ℕ, zero, suc, ◌+◌, ◌-◌, ◌*◌, ◌/◌, ◌≤◌, ◌<◌, ◌^◌, Bool, true, false, cond, nat_eq, List, [], ◌∷◌, ◌++◌, length, length-append, take, drop, Option, Some, None, Result, Ok, refl, sym, ap, ◌∙◌, append_assoc, subst, codes}
use Rattle.std.specs.List.{concat, flat_map}
use Rattle.std.specs.Fmt.{decimal}
use Rattle.std.proofs.lemmas.Bool.{eqb-false}
use Rattle.std.proofs.lemmas.Bool.Decides.{nat_tests}
use Rattle.std.proofs.lemmas.Nat.{div-mul-add}
use Rattle.std.proofs.lemmas.List.{drop-drop, take_at, drop_at, take_all}
use Rattle.std.proofs.Math.Seq.{take-add}
use Rattle.wt_text.specs.Words.{number}
use Rattle.wt_text.specs.Lines.{Line, lines, bytes_of}
use Rattle.wt_text.specs.Readers.{TextFault, given, within, part_by, whole_text}
use Rattle.wt_text.specs.Spellings.{AllFit, number_spelling, FitInTurn}
use Rattle.wt_text.proofs.Numbers.{number_found, number_again, decimal_clean}
use Rattle.wt_text.proofs.Formats.{IsFormat, IsLine, bind_some, read_is, within_ok, within_again, number_format, behind_format, both_format, whole_line}
use Rattle.wt_text.proofs.Texts.{IsPart, IsWhole, then_ok, ok_pair, clean_lines, line_part, both_part, many_part, counted_part, text_whole}
use Rattle.wt_text.proofs.Seen.{seen_part}
use Rattle.wt_grid.specs.Grid.{listed}
use Rattle.wt_grid.specs.Shifts.{fill}
use Rattle.wt_line.specs.Limits.{number_from_one}
use Rattle.wt_line.specs.declared.faults.What.{What}
use Rattle.wt_line.specs.declared.faults.What.TheVariants.{Width, Height, Rows}
use Rattle.wt_pattern.specs.TileRows.{no_state}
use Rattle.wt_pattern.specs.PatternRows.{cells_rows}
use Rattle.wt_pattern.proofs.CellForms.{CellsFit, cells_line, rows_law}
use Rattle.wt_grid.proofs.Bridge.{length-listed}
use Rattle.wt_grid.proofs.Grids.{listed_same}
use Rattle.wt_strip.specs.declared.layers.Layers.{Layers}
use Rattle.wt_strip.proofs.Cells.{row_long}
use Rattle.wt_strip.specs.Listed.{rows_in, row_at}
use Rattle.wt_strip.specs.StripText.{head_form, count_form, end_form, layer_part, rows_with, layers_part, strip_layers, strip_part, layer_rows, count_tokens, head_tokens, end_tokens, layer_lines, strip_lines, AreNumbers, HasText, IsStripText}

-- ---- lines

other : (n : ℕ) → 1 ≤ n → nat_eq n 0 ≡ false
other n le = grind (arith, nat_tests)

from_one_format : (most : ℕ) (what : What) → most < 2 ^ 64 → IsFormat (number_from_one most what) number_spelling (λ n. (1 ≤ n) × (n ≤ most))
from_one_format most what small = record {
  found = found;
  again = λ n rest fits. let le : n ≤ most = fits.1 in rw (number_again n (omega (arith, le)), other n fits.0, within_again most what n le) refl;
  clean = λ n fits. let le : n ≤ most = fits.1 in (decimal_clean n (omega (arith, le)), tt);
}
  where
    go : (t : List ℕ) (ts : List (List ℕ)) (n x : ℕ) (rest : List (List ℕ)) (b : Bool) → number t ≡ Some n → nat_eq n 0 ≡ b → ◌≡◌ {A = Option (Result ℕ What × List (List ℕ))} (cond b None (Some (within most what n, ts))) (Some (Ok x, rest))
        → (t ∷ ts ≡ number_spelling x ++ rest) × ((1 ≤ x) × (x ≤ most))
    go t ts n x rest true k h e = absurd cc
    go t ts n x rest false k h e =
        let p = read_is (within most what n) (Ok x) ts rest e in
        let w = within_ok most what n x p.0 in
        let spelled : t ≡ decimal x = number_found t n k (omega (arith, w.0, w.1)) ∙ ap decimal w.0 in
        let left : ts ≡ rest = p.1 in
        let some : 1 ≤ x = omega (arith, eqb-false n 0 h, w.0) in
        (cc, (some, w.1))

    found : (ts : List (List ℕ)) (x : ℕ) (rest : List (List ℕ)) → number_from_one most what ts ≡ Some (Ok x, rest) → (ts ≡ number_spelling x ++ rest) × ((1 ≤ x) × (x ≤ most))
    found [] x rest e = absurd cc
    found (t ∷ ts) x rest e = let n = bind_some (number t) _ (Ok x, rest) e in go t ts n.0 x rest (nat_eq n.0 0) n.1 refl n.2

given_format : {W A : Type 0} (x : A) → IsFormat {W = W} (given x) (λ y. []) (λ y. y ≡ x)
given_format {W} {A} x = record {
  found = λ ts y rest e. let p = read_is {X = Result A W} (Ok x) (Ok y) ts rest e in let same : x ≡ y = cc (p.0) in (p.1, sym same);
  again = λ y rest fits. ap (λ (z : A). Some (Ok z, rest)) (sym fits);
  clean = λ y fits. tt;
}

abbrev pub HeadFits : ℕ × ℕ → Type 0
HeadFits x = ((1 ≤ x.0) × (x.0 ≤ 64)) × ((1 ≤ x.1) × (x.1 ≤ 64))

head_line : IsLine head_form head_tokens HeadFits
head_line = whole_line (λ x. tt) (behind_format (codes "strip") (search rules) (both_format (from_one_format 64 Width (omega arith)) (from_one_format 64 Height (omega arith))))

count_line : (before : ℕ) → IsLine (count_form before) (count_tokens (codes "layer")) (λ n. n ≤ 65536 - before)
count_line before = whole_line (λ x. tt) (behind_format (codes "layer") (search rules) (number_format (65536 - before) Rows (omega arith)))

end_line : IsLine end_form end_tokens (λ x. x ≡ tt)
end_line = whole_line (λ x. tt) (behind_format (codes "end") (search rules) (given_format tt))

-- ---- rows as cells

-- rows of one width
abbrev pub RowsFit : ℕ → List (List ℕ) → Type 0
RowsFit w rows = FitInTurn (λ s. CellsFit w) no_state 0 rows

pub joined_length : (w : ℕ) (rows : List (List ℕ)) → RowsFit w rows → length (concat rows) ≡ length rows * w
joined_length w [] fits = omega arith
joined_length w (r ∷ rs) fits =
    let h = joined_length w rs fits.1 in
    let one : length r ≡ w = fits.0.0 in
    let both = length-append r (concat rs) in
    let times : suc (length rs) * w ≡ length rs * w + w = omega arith in
    omega (arith, h, one, both, times)

pub joined_rows : (w : ℕ) (rows : List (List ℕ)) → 1 ≤ w → RowsFit w rows → rows_in w (concat rows) ≡ length rows
joined_rows w rows wide fits =
    let none : (n : ℕ) → n ≡ n + 0 = λ n. omega arith in
    ap (λ (k : ℕ). k / w) (joined_length w rows fits ∙ none (length rows * w)) ∙ div-mul-add (length rows) w 0 wide

at_place : (w j : ℕ) (front r rest : List ℕ) → length front ≡ j * w → length r ≡ w → row_at w (front ++ (r ++ rest)) j ≡ r
at_place w j front r rest size one =
    let s : j * w + w - j * w ≡ w = omega arith in
    rw s (ap (take w) (drop_at front (r ++ rest) (j * w) size) ∙ take_at r rest w one)

-- the rows that joined rows are, behind those in front
rows_behind : (w : ℕ) (front : List ℕ) (k : ℕ) (rows : List (List ℕ)) → length front ≡ k * w → RowsFit w rows → listed (length rows) (λ i. row_at w (front ++ concat rows) (k + i)) ≡ rows
rows_behind w front k [] e fits = refl
rows_behind w front k (r ∷ rs) e fits =
    let rest = concat rs in
    let one : length r ≡ w = fits.0.0 in
    let both = length-append front r in
    let next : suc k * w ≡ k * w + w = omega arith in
    let size : length (front ++ r) ≡ suc k * w = omega (arith, both, e, one, next) in
    let whole : front ++ (r ++ rest) ≡ (front ++ r) ++ rest = sym (append_assoc front r rest) in
    let here : k + 0 ≡ k = omega arith in
    let head : row_at w (front ++ (r ++ rest)) (k + 0) ≡ r = ap (row_at w (front ++ (r ++ rest))) here ∙ at_place w k front r rest e one in
    let tail : listed (length rs) (λ i. row_at w (front ++ (r ++ rest)) (k + suc i)) ≡ rs =
    listed_same (length rs) (λ i. row_at w (front ++ (r ++ rest)) (k + suc i)) (λ i. row_at w ((front ++ r) ++ rest) (suc k + i))
    (λ i lt. let on : k + suc i ≡ suc k + i = omega arith in ap (λ (cs : List ℕ). row_at w cs (k + suc i)) whole ∙ ap (row_at w ((front ++ r) ++ rest)) on)
    ∙ rows_behind w (front ++ r) (suc k) rs size fits.1 in
    ap (λ (x : List ℕ). x ∷ listed (length rs) (λ i. row_at w (front ++ (r ++ rest)) (k + suc i))) head ∙ ap (λ (x : List (List ℕ)). r ∷ x) tail

pub rows_of_joined : (w : ℕ) (rows : List (List ℕ)) → 1 ≤ w → RowsFit w rows → layer_rows w (concat rows) ≡ rows
rows_of_joined w rows wide fits =
    let zero_rows : 0 ≡ 0 * w = omega arith in
    ap (λ (n : ℕ). listed n (row_at w (concat rows))) (joined_rows w rows wide fits)
    ∙ listed_same (length rows) (row_at w (concat rows)) (λ i. row_at w ([] ++ concat rows) (0 + i)) (λ i lt. let on : i ≡ 0 + i = omega arith in ap (row_at w (concat rows)) on)
    ∙ rows_behind w [] 0 rows zero_rows fits

-- the cells that the rows from row k on are
cells_from : (w : ℕ) (cells : List ℕ) (n k : ℕ) → concat (listed n (λ i. row_at w cells (k + i))) ≡ take (n * w) (drop (k * w) cells)
cells_from w cells zero k = let none : 0 * w ≡ 0 = omega arith in rw none refl
cells_from w cells (suc n) k =
    let s : k * w + w - k * w ≡ w = omega arith in
    let here : k + 0 ≡ k = omega arith in
    let head : row_at w cells (k + 0) ≡ take w (drop (k * w) cells) = ap (row_at w cells) here ∙ ap (λ (m : ℕ). take m (drop (k * w) cells)) s in
    let tail : concat (listed n (λ i. row_at w cells (k + suc i))) ≡ take (n * w) (drop (suc k * w) cells) =
    ap concat (listed_same n (λ i. row_at w cells (k + suc i)) (λ i. row_at w cells (suc k + i)) (λ i lt. let on : k + suc i ≡ suc k + i = omega arith in ap (row_at w cells) on))
    ∙ cells_from w cells n (suc k) in
    let next : suc k * w ≡ k * w + w = omega arith in
    let size : suc n * w ≡ w + n * w = omega arith in
    let behind : drop (suc k * w) cells ≡ drop w (drop (k * w) cells) = ap (λ (m : ℕ). drop m cells) next ∙ sym (drop-drop w (k * w) cells) in
    rw size (ap (λ (x : List ℕ). x ++ concat (listed n (λ i. row_at w cells (k + suc i)))) head
    ∙ ap (λ (x : List ℕ). take w (drop (k * w) cells) ++ x) (tail ∙ ap (take (n * w)) behind)
    ∙ sym (take-add w (n * w) (drop (k * w) cells)))

pub joined_of_rows : (w : ℕ) (cells : List ℕ) → length cells ≡ rows_in w cells * w → concat (layer_rows w cells) ≡ cells
joined_of_rows w cells whole =
    let zero_rows : 0 * w ≡ 0 = omega arith in
    ap concat (listed_same (rows_in w cells) (row_at w cells) (λ i. row_at w cells (0 + i)) (λ i lt. let on : i ≡ 0 + i = omega arith in ap (row_at w cells) on))
    ∙ (cells_from w cells (rows_in w cells) 0 ∙ ap (λ (m : ℕ). take (rows_in w cells * w) (drop m cells)) zero_rows) ∙ take_all (rows_in w cells * w) cells (omega (arith, whole))

-- ---- numbers that a text may have

abbrev pub AreSmall : List ℕ → Type 0
AreSmall cs = AllFit (λ c. c ≤ 65535) cs

small_take : (n : ℕ) (cs : List ℕ) → AreSmall cs → AreSmall (take n cs)
small_take zero cs fits = tt
small_take (suc n) [] fits = tt
small_take (suc n) (c ∷ cs) fits = (fits.0, small_take n cs fits.1)

small_drop : (n : ℕ) (cs : List ℕ) → AreSmall cs → AreSmall (drop n cs)
small_drop zero cs fits = fits
small_drop (suc n) [] fits = tt
small_drop (suc n) (c ∷ cs) fits = small_drop n cs fits.1

small_both : (as' bs : List ℕ) → AreSmall as' → AreSmall bs → AreSmall (as' ++ bs)
small_both [] bs a b = b
small_both (x ∷ xs) bs a b = (a.0, small_both xs bs a.1 b)

small_joined : (w : ℕ) (rows : List (List ℕ)) → RowsFit w rows → AreSmall (concat rows)
small_joined w [] fits = tt
small_joined w (r ∷ rs) fits = small_both r (concat rs) fits.0.1 (small_joined w rs fits.1)

fit_listed : (w n : ℕ) (f : ℕ → List ℕ) → ((i : ℕ) → i < n → CellsFit w (f i)) → RowsFit w (listed n f)
fit_listed w zero f h = tt
fit_listed w (suc n) f h = (h 0 (omega arith), fit_listed w n (λ k. f (suc k)) (λ i lt. h (suc i) (omega arith)))

rows_fit : (w : ℕ) (cells : List ℕ) → 1 ≤ w → AreNumbers w cells → RowsFit w (layer_rows w cells)
rows_fit w cells wide fits = fit_listed w (rows_in w cells) (row_at w cells)
    (λ i lt. (row_long w cells i wide lt, small_take (i * w + w - i * w) (drop (i * w) cells) (small_drop (i * w) cells fits.1)))

-- ---- a layer

next_part_if : {W A B : Type 0} {ra : ℕ × List Line → Result (A × (ℕ × List Line)) (TextFault W)} {sa : A → List Line} {Fa : A → Type 0} {rb : A → ℕ × List Line → Result (B × (ℕ × List Line)) (TextFault W)} {sb : A → B → List Line} {Fb : A → B → Type 0}
    → IsPart ra sa Fa → ((a : A) → Fa a → IsPart (rb a) (sb a) (Fb a)) → IsPart (part_by ra rb) (λ x. sa x.0 ++ sb x.0 x.1) (λ x. Fa x.0 × Fb x.0 x.1)
unfolding part_by
next_part_if {W} {A} {B} {ra} {sa} {Fa} {rb} {sb} {Fb} f g = record {
  found = λ p x q e.
      let a = then_ok (ra p) _ (x, q) e in
      let b = then_ok (rb a.0.0 a.0.1) _ (x, q) a.2 in
      let h = ok_pair (a.0.0, b.0.0) x b.0.1 q b.2 in
      let fa = f.found p a.0.0 a.0.1 a.1 in
      let fb = (g a.0.0 fa.1).found a.0.1 b.0.0 b.0.1 b.1 in
      let P : A × B → Type 0 = λ y. (p.1 ≡ (sa y.0 ++ sb y.0 y.1) ++ q.1) × (Fa y.0 × Fb y.0 y.1) in
      let left : sb a.0.0 b.0.0 ++ b.0.1.1 ≡ sb a.0.0 b.0.0 ++ q.1 = ap (λ (y : ℕ × List Line). sb a.0.0 b.0.0 ++ y.1) h.1 in
      subst P h.0 (fa.0 ∙ ap (λ (r : List Line). sa a.0.0 ++ r) (fb.0 ∙ left) ∙ sym (append_assoc (sa a.0.0) (sb a.0.0 b.0.0) q.1), (fa.1, fb.1));
  again = λ x n rest fits.
      let a = f.again x.0 n (sb x.0 x.1 ++ rest) fits.0 in
      let b = (g x.0 fits.0).again x.1 a.0 rest fits.1 in
      (b.0, rw (append_assoc (sa x.0) (sb x.0 x.1) rest, a.1, b.1) refl);
  clean = λ x fits. clean_lines (sa x.0) (sb x.0 x.1) (f.clean x.0 fits.0) ((g x.0 fits.0).clean x.1 fits.1);
}

abbrev pub LayerFits : ℕ → ℕ → List ℕ → Type 0
LayerFits w before cells = ((length (layer_rows w cells) ≤ 65536 - before) × RowsFit w (layer_rows w cells)) × (concat (layer_rows w cells) ≡ cells)

layer_law : (w before : ℕ) → 1 ≤ w → IsPart (layer_part w before) (layer_lines w) (LayerFits w before)
layer_law w before wide = seen_part concat (layer_rows w) (λ rows fits. rows_of_joined w rows wide fits.1) (counted_part no_state (λ s. line_part (cells_line w wide)) (line_part (count_line before)) 0)

abbrev pub LayersFit : ℕ → ℕ → List (List ℕ) → Type 0
LayersFit w before layers = FitInTurn (LayerFits w) (rows_with w) before layers

layers_law : (w h : ℕ) → 1 ≤ w → IsPart (layers_part w h) (flat_map (layer_lines w)) (λ layers. (length layers ≡ h) × LayersFit w 0 layers)
layers_law w h wide = many_part (rows_with w) (λ before. layer_law w before wide) 0 h

-- what is read of a layer
pub layer_size : (w before : ℕ) (p : ℕ × List Line) (cells : List ℕ) (q : ℕ × List Line) → 1 ≤ w → layer_part w before p ≡ Ok (cells, q) → rows_in w cells ≤ 65536 - before
layer_size w before p cells q wide e =
    let f = ((layer_law w before wide).found p cells q e).1 in
    let n = length-listed (rows_in w cells) (row_at w cells) in
    let le = f.0.0 in
    omega (arith, n, le)

layer_found : (w before : ℕ) (cells : List ℕ) → 1 ≤ w → LayerFits w before cells → AreNumbers w cells × (rows_in w cells ≤ 65536 - before)
layer_found w before cells wide fits =
    let rows = layer_rows w cells in
    let n = length-listed (rows_in w cells) (row_at w cells) in
    let le = fits.0.0 in
    let size : length cells ≡ rows_in w cells * w = ap length (sym fits.1) ∙ (joined_length w rows fits.0.1 ∙ ap (λ (k : ℕ). k * w) n) in
    ((size, subst AreSmall fits.1 (small_joined w rows fits.0.1)), omega (arith, n, le))

layer_again : (w before : ℕ) (cells : List ℕ) → 1 ≤ w → AreNumbers w cells → rows_in w cells ≤ 65536 - before → LayerFits w before cells
layer_again w before cells wide fits le =
    let n = length-listed (rows_in w cells) (row_at w cells) in
    ((omega (arith, n, le), rows_fit w cells wide fits), joined_of_rows w cells fits.0)

layers_found : (w before : ℕ) (layers : List (List ℕ)) → 1 ≤ w → before ≤ 65536 → LayersFit w before layers → AllFit (AreNumbers w) layers × (before + fill (rows_in w) layers ≤ 65536)
layers_found w before [] wide le fits = (tt, omega arith)
layers_found w before (cells ∷ layers) wide le fits =
    let one = layer_found w before cells wide fits.0 in
    let few = one.1 in
    let others = layers_found w (before + rows_in w cells) layers wide (omega (arith, few, le)) fits.1 in
    let more = others.1 in
    ((one.0, others.0), omega (arith, more))

layers_again : (w before : ℕ) (layers : List (List ℕ)) → 1 ≤ w → AllFit (AreNumbers w) layers → before + fill (rows_in w) layers ≤ 65536 → LayersFit w before layers
layers_again w before [] wide fits le = tt
layers_again w before (cells ∷ layers) wide fits le =
    (layer_again w before cells wide fits.0 (omega (arith, le)), layers_again w (before + rows_in w cells) layers wide fits.1 (omega (arith, le)))

-- ---- the text

abbrev pub parts_of : Layers → ((ℕ × ℕ) × List (List ℕ)) × Unit {0}
parts_of l = (((l.width, length l.layers), l.layers), tt)

abbrev pub PartsFit : ((ℕ × ℕ) × List (List ℕ)) × Unit {0} → Type 0
PartsFit x = (HeadFits x.0.0 × ((length x.0.1 ≡ x.0.0.1) × LayersFit x.0.0.0 0 x.0.1)) × (x.1 ≡ tt)

strip_law : IsPart strip_part (λ l. strip_lines l) (λ l. PartsFit (parts_of l) × (strip_layers (parts_of l) ≡ l))
strip_law = seen_part strip_layers parts_of back (both_part (next_part_if (line_part head_line) (λ s fits. layers_law s.0 s.1 fits.0.0)) (line_part end_line))
  where
    back : (x : ((ℕ × ℕ) × List (List ℕ)) × Unit {0}) → PartsFit x → parts_of (strip_layers x) ≡ x
    back x fits = ap (λ (h : ℕ). (((x.0.0.0, h), x.0.1), tt)) fits.0.1.0

pub strip_found : (bytes : List ℕ) (l : Layers) → whole_text strip_part (lines bytes) ≡ Ok l → IsStripText l bytes
strip_found bytes l e =
    let t : IsWhole (whole_text strip_part) (λ x. strip_lines x) (λ x. PartsFit (parts_of x) × (strip_layers (parts_of x) ≡ x)) = text_whole strip_law in
    let f = t.found bytes l e in
    let fits = f.1.0.0 in
    let turn = layers_found l.width 0 l.layers fits.0.0.0 (omega arith) fits.1.1 in
    let few = turn.1 in
    (f.0, record { wide = fits.0.0; high = fits.0.1; rows = turn.0; few = omega (arith, few) })

pub strip_again : (l : Layers) → HasText l → whole_text strip_part (lines (bytes_of (strip_lines l))) ≡ Ok l
strip_again l h =
    let t : IsWhole (whole_text strip_part) (λ x. strip_lines x) (λ x. PartsFit (parts_of x) × (strip_layers (parts_of x) ≡ x)) = text_whole strip_law in
    let few = h.few in
    t.again l ((((h.wide, h.high), (refl, layers_again l.width 0 l.layers h.wide.0 h.rows (omega (arith, few)))), refl), refl)

-- the rows that were read of a layer are as many as its count says
pub rows_read : (w count : ℕ) (p : ℕ × List Line) (rows : List (List ℕ)) (q : ℕ × List Line) → 1 ≤ w → cells_rows w count p ≡ Ok (rows, q) → rows_in w (concat rows) ≡ count
rows_read w count p rows q wide e =
    let f = ((rows_law w count wide).found p rows q e).1 in
    joined_rows w rows wide f.1 ∙ f.0
