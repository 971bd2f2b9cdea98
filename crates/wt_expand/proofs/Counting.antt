-- One row up or down, level by level.
use Rattle.std.proofs.Common.{arith, ◌≡◌, ◌≤◌, ◌<◌, ◌+◌, ℕ, Bool, true, false, List, [], ◌∷◌, length, take, get_or, refl, ◌∙◌, ap}
use Rattle.std.specs.List.{flat_map}
use Rattle.wt_expand.specs.Levels.{Level, rows_below}
use Rattle.wt_expand.specs.Rows.{all_rows, rows_under, Digit, bit, row_number, AreDigits}
use Rattle.wt_expand.specs.LaidRows.{has_two, laid, last_laid, AreLower, AreLast}
use Rattle.wt_expand.proofs.Cut.{count_below}
use Rattle.wt_expand.proofs.Short.{count_whole, at_row, under_next}

-- the row of tile 0 itself
pub begun_top : (w : ℕ) (renaming : List ℕ) (upper : Bool) → AreDigits w renaming [] (record { row = 0 ∷ []; is_upper = upper } ∷ [])
begun_top w renaming upper = refl

-- rows that aren't the upper ones have number 0
pub at_bottom : (renaming : List ℕ) (levels : List Level) (ss : List Digit) → AreLower levels ss → row_number renaming levels ss ≡ 0
at_bottom renaming [] ss low = refl
at_bottom renaming (level ∷ levels) [] low = refl
at_bottom renaming (level ∷ levels) (s ∷ ss) low =
    ap (λ (y : ℕ). rows_under renaming level levels y + bit s.is_upper) (at_bottom renaming levels ss low.1) ∙ ap (λ (b : Bool). 0 + bit b) low.0

module _ (w : ℕ) (renaming : List ℕ) (level : Level) (levels : List Level) (t : Digit) (ss : List Digit) where
  -- a row that is laid below the lowest digit one
  pub laid_fits : (b : Bool) → AreDigits w renaming levels (t ∷ ss) → bit b < length (rows_below renaming level t.row) → AreDigits w renaming (level ∷ levels) (laid w renaming level t.row b ∷ t ∷ ss)
  laid_fits b f inside = (record { inside = inside; row = refl }, f)

  -- the lower row
  pub lower_fits : AreDigits w renaming levels (t ∷ ss) → AreDigits w renaming (level ∷ levels) (laid w renaming level t.row false ∷ t ∷ ss)
  lower_fits f = let c = count_below renaming level t.row in laid_fits false f (omega arith)

  -- the upper row, where there is one
  pub upper_fits : AreDigits w renaming levels (t ∷ ss) → has_two renaming level t.row ≡ true → AreDigits w renaming (level ∷ levels) (laid w renaming level t.row true ∷ t ∷ ss)
  upper_fits f two = let c = count_below renaming level t.row ∙ ap (λ (b : Bool). bit b + 1) two in laid_fits true f (omega arith)

  -- the last row
  pub last_fits : AreDigits w renaming levels (t ∷ ss) → AreDigits w renaming (level ∷ levels) (last_laid w renaming level t.row ∷ t ∷ ss)
  last_fits f = let c = count_below renaming level t.row in laid_fits (has_two renaming level t.row) f (omega arith)

  -- a row that is the upper one stands below a row that stands for two
  pub upper_of_two : (s : Digit) → AreDigits w renaming (level ∷ levels) (s ∷ t ∷ ss) → s.is_upper ≡ true → has_two renaming level t.row ≡ true
  upper_of_two s f up = go (has_two renaming level t.row) refl
    where
      go : (b : Bool) → has_two renaming level t.row ≡ b → has_two renaming level t.row ≡ true
      go true e = e
      go false e =
          let c = count_below renaming level t.row ∙ ap (λ (b : Bool). bit b + 1) e in
          let i = f.0.inside in
          let u : bit s.is_upper ≡ 1 = ap bit up in
          absurd (omega arith)

  -- Of two rows below one the upper gives way to the lower: the number is one less.
  pub lowered : (s : Digit) → AreDigits w renaming (level ∷ levels) (s ∷ t ∷ ss) → s.is_upper ≡ true
      → AreDigits w renaming (level ∷ levels) (laid w renaming level t.row false ∷ t ∷ ss)
      × (row_number renaming (level ∷ levels) (laid w renaming level t.row false ∷ t ∷ ss) + 1 ≡ row_number renaming (level ∷ levels) (s ∷ t ∷ ss))
  lowered s f up = (lower_fits f.1, let u : bit s.is_upper ≡ 1 = ap bit up in omega arith)

  -- The lower gives way to the upper: the number is one more.
  pub raised : (s : Digit) → AreDigits w renaming (level ∷ levels) (s ∷ t ∷ ss) → s.is_upper ≡ false → has_two renaming level t.row ≡ true
      → AreDigits w renaming (level ∷ levels) (laid w renaming level t.row true ∷ t ∷ ss)
      × (row_number renaming (level ∷ levels) (laid w renaming level t.row true ∷ t ∷ ss) ≡ row_number renaming (level ∷ levels) (s ∷ t ∷ ss) + 1)
  raised s f low two = (upper_fits f.1 two, let u : bit s.is_upper ≡ 0 = ap bit low in omega arith)

  -- Where the rows above went one row down and the old row was a lower one, the last row below the new one above is one row down.
  pub carried_down : 1 ≤ w → (s : Digit) (old : List Digit) → AreDigits w renaming levels (t ∷ ss) → row_number renaming levels (t ∷ ss) + 1 ≡ row_number renaming levels old → s.is_upper ≡ false
      → AreDigits w renaming (level ∷ levels) (last_laid w renaming level t.row ∷ t ∷ ss)
      × (row_number renaming (level ∷ levels) (last_laid w renaming level t.row ∷ t ∷ ss) + 1 ≡ row_number renaming (level ∷ levels) (s ∷ old))
  carried_down some s old f down low =
      let y = row_number renaming levels (t ∷ ss) in
      let n = under_next w some renaming level levels t.row y (at_row w some renaming levels t ss f) in
      let m : rows_under renaming level levels (y + 1) ≡ rows_under renaming level levels (row_number renaming levels old) = ap (rows_under renaming level levels) down in
      let u : bit s.is_upper ≡ 0 = ap bit low in
      (last_fits f, omega (arith, n, m, u))

  -- Where the rows above went one row up and the old row was the last one, the lower row below the new one above is one row up.
  pub carried_up : 1 ≤ w → (s o : Digit) (old : List Digit) → AreDigits w renaming levels (o ∷ old) → AreDigits w renaming levels (t ∷ ss) → row_number renaming levels (t ∷ ss) ≡ row_number renaming levels (o ∷ old) + 1
      → s.is_upper ≡ has_two renaming level o.row
      → AreDigits w renaming (level ∷ levels) (laid w renaming level t.row false ∷ t ∷ ss)
      × (row_number renaming (level ∷ levels) (laid w renaming level t.row false ∷ t ∷ ss) ≡ row_number renaming (level ∷ levels) (s ∷ o ∷ old) + 1)
  carried_up some s o old before f up last =
      let y = row_number renaming levels (o ∷ old) in
      let n = under_next w some renaming level levels o.row y (at_row w some renaming levels o old before) in
      let m : rows_under renaming level levels (row_number renaming levels (t ∷ ss)) ≡ rows_under renaming level levels (y + 1) = ap (rows_under renaming level levels) up in
      let u : bit s.is_upper ≡ bit (has_two renaming level o.row) = ap bit last in
      (lower_fits f, omega (arith, n, m, u))

-- Rows with the same flags, kept another number of cells, have the same numbers.
pub widened : (v w : ℕ) → 1 ≤ v → 1 ≤ w → (renaming : List ℕ) (level : Level) (levels : List Level) (s t u : Digit) (ss us : List Digit)
    → AreDigits v renaming (level ∷ levels) (s ∷ t ∷ ss) → AreDigits w renaming levels (u ∷ us) → row_number renaming levels (u ∷ us) ≡ row_number renaming levels (t ∷ ss)
    → AreDigits w renaming (level ∷ levels) (laid w renaming level u.row s.is_upper ∷ u ∷ us)
    × (row_number renaming (level ∷ levels) (laid w renaming level u.row s.is_upper ∷ u ∷ us) ≡ row_number renaming (level ∷ levels) (s ∷ t ∷ ss))
widened v w v_some w_some renaming level levels s t u ss us f g same =
    let rows = all_rows renaming levels in
    let narrow = count_whole v v_some renaming level rows t.row (row_number renaming levels (t ∷ ss)) (at_row v v_some renaming levels t ss f.1) in
    let wide = count_whole w w_some renaming level rows u.row (row_number renaming levels (u ∷ us)) (at_row w w_some renaming levels u us g) in
    let one : length (rows_below renaming level (get_or rows (row_number renaming levels (u ∷ us)) [])) ≡ length (rows_below renaming level (get_or rows (row_number renaming levels (t ∷ ss)) [])) =
    ap (λ (y : ℕ). length (rows_below renaming level (get_or rows y []))) same in
    let a = count_below renaming level t.row in
    let b = count_below renaming level u.row in
    let i = f.0.inside in (
      laid_fits w renaming level levels u us s.is_upper g (omega (arith, narrow, wide, one, a, b, i)),
      ap (λ (y : ℕ). rows_under renaming level levels y + bit s.is_upper) same,
    )

all_under : (renaming : List ℕ) (level : Level) (levels : List Level) → rows_under renaming level levels (length (all_rows renaming levels)) ≡ length (all_rows renaming (level ∷ levels))
all_under renaming level levels = ap (λ (rows : List (List ℕ)). length (flat_map (rows_below renaming level) rows)) (take_whole (all_rows renaming levels))
  where
    take_whole : (xs : List (List ℕ)) → take (length xs) xs ≡ xs
    take_whole [] = refl
    take_whole (x ∷ xs) = ap (λ (ys : List (List ℕ)). x ∷ ys) (take_whole xs)

-- Rows that are all the last ones below the rows above stand at the top.
pub at_top : (w : ℕ) → 1 ≤ w → (renaming : List ℕ) (levels : List Level) (s : Digit) (ss : List Digit) → AreDigits w renaming levels (s ∷ ss) → AreLast renaming levels (s ∷ ss)
    → row_number renaming levels (s ∷ ss) + 1 ≡ length (all_rows renaming levels)
at_top w some renaming [] s ss f last = refl
at_top w some renaming (level ∷ levels) s [] f last = absurd f
at_top w some renaming (level ∷ levels) s (t ∷ ss) f last =
    let y = row_number renaming levels (t ∷ ss) in
    let n = under_next w some renaming level levels t.row y (at_row w some renaming levels t ss f.1) in
    let u : bit s.is_upper ≡ bit (has_two renaming level t.row) = ap bit last.0 in
    let m : rows_under renaming level levels (y + 1) ≡ length (all_rows renaming (level ∷ levels)) = ap (rows_under renaming level levels) (at_top w some renaming levels t ss f.1 last.1) ∙ all_under renaming level levels in
    omega (arith, n, m, u)
