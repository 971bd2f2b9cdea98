-- The row that is due is laid, word by word, of the row of level `low` alone.
use Rattle.std.proofs.Common.{arith, ◌≡◌, ◌≤◌, ◌+◌, ◌*◌, ◌++◌, ℕ, zero, suc, Bool, List, [], ◌∷◌, length, take, drop, refl, sym, ◌∙◌, ap, cond, subst}
use Rattle.std.specs.List.{flat_map}
use Rattle.std.proofs.lemmas.List.{drop-drop, length-take, take_all}
use Rattle.wt_expand.specs.Levels.{Level}
use Rattle.wt_expand.specs.Rows.{Digit, AreDigits, row_number, all_rows, IsRowAt}
use Rattle.wt_expand.specs.Blocks.{digit_of, digits}
use Rattle.wt_expand.specs.Words.{word, words, row_at, row_by_words}
use Rattle.wt_expand.specs.Splits.{thin, split_from, AreSplit}
use Rattle.wt_expand.proofs.Short.{at_row}
use Rattle.wt_expand.proofs.Places.{from_bottom}
use Rattle.wt_expand.proofs.Worded.{worded}
use Rattle.wt_expand.proofs.Splits.{same_bit, number_thin, wide_level}

-- words are told by bits alone
words_thin : (renaming : List ℕ) (low i : ℕ) (levels : List Level) (ss : List Digit) (t : ℕ) → words renaming levels (split_from low i ss) t ≡ words renaming levels ss t
words_thin renaming low i [] ss t = refl
words_thin renaming low i (level ∷ levels) [] t = refl
words_thin renaming low i (level ∷ levels) (s ∷ ss) t =
    ap (λ (b : Bool). flat_map (word renaming level b) (words renaming levels (split_from low (i + 1) ss) t)) (same_bit low i s)
    ∙ ap (flat_map (word renaming level s.is_upper)) (words_thin renaming low (i + 1) levels ss t)

flat_same : (f g : ℕ → List ℕ) (xs : List ℕ) → ((t : ℕ) → f t ≡ g t) → flat_map f xs ≡ flat_map g xs
flat_same f g [] same = refl
flat_same f g (x ∷ xs) same = ap (λ (ys : List ℕ). ys ++ flat_map f xs) (same x) ∙ ap (λ (ys : List ℕ). g x ++ ys) (flat_same f g xs same)

-- the row of a level that is kept wide
row_wide : (low k i : ℕ) (ss : List Digit) → low ≤ i + k → row_at k (split_from low i ss) ≡ row_at k ss
row_wide low zero i [] le = refl
row_wide low (suc k) i [] le = refl
row_wide low zero i (s ∷ ss) le = ap (λ (b : Bool). (cond b (thin s) s).row) (wide_level low i (omega arith))
row_wide low (suc k) i (s ∷ ss) le = row_wide low k (i + 1) ss (omega arith)

-- the row by words is the row of the number
pub due_row : (low w : ℕ) → 1 ≤ w → (renaming : List ℕ) (levels : List Level) (ss : List Digit) → AreSplit low w renaming levels ss → low ≤ length levels
    → IsRowAt w (all_rows renaming levels) (row_by_words w renaming levels low ss) (row_number renaming levels ss)
due_row low w some renaming levels ss f le = go f.whole f.fits f.split
  where
    go : (ws : List Digit) → AreDigits w renaming levels ws → ss ≡ split_from low 0 ws → IsRowAt w (all_rows renaming levels) (row_by_words w renaming levels low ss) (row_number renaming levels ss)
    go [] g split = absurd (no_rows levels g)
      where
        no_rows : (levels : List Level) → AreDigits w renaming levels [] → ⊥
        no_rows [] f = f
        no_rows (level ∷ levels) f = f
    go (u ∷ us) g split =
        let ws = u ∷ us in
        let ks = take low levels in
        let number : row_number renaming levels ss ≡ row_number renaming levels ws = ap (row_number renaming levels) split ∙ number_thin low w some renaming 0 levels ws in
        let row : row_by_words w renaming levels low ss ≡ u.row =
        ap (row_by_words w renaming levels low) split
        ∙ (ap (λ (row : List ℕ). take w (flat_map (words renaming ks (split_from low 0 ws)) row)) (row_wide low low 0 ws (omega arith))
        ∙ (ap (take w) (flat_same (words renaming ks (split_from low 0 ws)) (words renaming ks ws) (row_at low ws) (words_thin renaming low 0 ks ws))
        ∙ sym (worded w some renaming low levels u us g le))) in
        let at = at_row w some renaming levels u us g in
        subst (λ (y : ℕ). IsRowAt w (all_rows renaming levels) (row_by_words w renaming levels low ss) y) (sym number) (subst (λ (r : List ℕ). IsRowAt w (all_rows renaming levels) r (row_number renaming levels ws)) (sym row) at)

-- the row of level k, as it lies in a space
pub row_placed : (b k : ℕ) (levels : List Level) (space : List ℕ) → k ≤ length levels → row_at k (digits b levels space) ≡ (digit_of (drop (k * b) space)).row
row_placed b zero [] space le = let z : 0 ≡ 0 * b = omega arith in ap (λ (n : ℕ). (digit_of (drop n space)).row) z
row_placed b zero (l ∷ ls) space le = let z : 0 ≡ 0 * b = omega arith in ap (λ (n : ℕ). (digit_of (drop n space)).row) z
row_placed b (suc k) [] space le = absurd (omega (arith, le))
row_placed b (suc k) (l ∷ ls) space le =
    let e : b + k * b ≡ suc k * b = omega arith in
    row_placed b k ls (drop b space) (omega (arith, le)) ∙ ap (λ (xs : List ℕ). (digit_of xs).row) (drop-drop (k * b) b space ∙ ap (λ (n : ℕ). drop n space) e)

-- a row that has room for no more than the row that is due is that row
row_full : (w n : ℕ) (row xs : List ℕ) → take n row ≡ take w xs → length row ≡ w → length (take w xs) ≡ w → row ≡ take w xs
row_full w n row xs laid long full =
    let size : length (take n row) ≡ w = ap length laid ∙ full in
    let le : length row ≤ n = omega (arith, size, long, length-take n row) in
    sym (take_all n row le) ∙ laid

-- the row as the code lays it
pub due_laid : (w n b low : ℕ) (renaming : List ℕ) (levels : List Level) (space row : List ℕ) → low ≤ length levels → length row ≡ w
    → length (row_by_words w renaming levels low (digits b (drop 0 levels) (drop (0 * b) space))) ≡ w
    → take n row ≡ take w (flat_map (words renaming (take low levels) (digits b (drop 0 levels) (drop (0 * b) space))) (digit_of (drop (low * b) space)).row)
    → row ≡ row_by_words w renaming levels low (digits b (drop 0 levels) (drop (0 * b) space))
due_laid w n b low renaming levels space row le long full laid =
    let ds = digits b (drop 0 levels) (drop (0 * b) space) in
    let here : (digit_of (drop (low * b) space)).row ≡ row_at low ds = sym (ap (row_at low) (from_bottom b levels space) ∙ row_placed b low levels space le) in
    row_full w n row (flat_map (words renaming (take low levels) ds) (row_at low ds)) (laid ∙ ap (λ (above : List ℕ). take w (flat_map (words renaming (take low levels) ds) above)) here) long full
