-- A counter that keeps one cell of each of its lowest rows goes on as one that keeps w cells of each.
use Rattle.std.proofs.Common.{arith, ◌≡◌, ◌≤◌, ◌<◌, ◌+◌, ◌*◌, ℕ, zero, suc, Bool, true, false, nat_lt, List, [], ◌∷◌, length, take, drop, get_or, slice_get, Some, None, refl, sym, ◌∙◌, ap, cond, subst}
use Rattle.std.proofs.lemmas.Bool.Decides.{nat_tests}
use Rattle.std.proofs.lemmas.List.{take-take}
use Rattle.wt_expand.specs.declared.advance.Direction.{Direction}
use Rattle.wt_expand.specs.declared.advance.Direction.TheVariants.{Up, Down}
use Rattle.wt_expand.specs.Levels.{Level, rows_below}
use Rattle.wt_expand.specs.Rows.{Digit, bit, AreDigits, row_number, rows_under, all_rows}
use Rattle.wt_expand.specs.LaidRows.{has_two, laid}
use Rattle.wt_expand.specs.Advances.{flips, flipped, follows, flip_from, laid_over, laid_by, laid_under, IsAdvanced, IsLastRow}
use Rattle.wt_expand.specs.Blocks.{digits}
use Rattle.wt_expand.specs.Splits.{thin, cells_kept, thin_below, split_from, split_under, AreSplit}
use Rattle.wt_expand.proofs.Cut.{cut_two, cut_below}
use Rattle.wt_expand.proofs.Places.{some_at, rest_of, front_of, from_level}
use Rattle.wt_expand.proofs.Advanced.{flip_found, flip_inside, none_found, no_next, next, begun}

-- what is kept of a row tells whether it stands for two
pub two_thin : (low i : ℕ) (renaming : List ℕ) (level : Level) (t : Digit) → has_two renaming level (thin_below low i t).row ≡ has_two renaming level t.row
two_thin low i renaming level t = by (nat_lt i low)
  where
    by : (b : Bool) → has_two renaming level (cond b (thin t) t).row ≡ has_two renaming level t.row
    by true = cut_two renaming level 1 t.row (omega arith)
    by false = refl

pub same_bit : (low i : ℕ) (s : Digit) → (thin_below low i s).is_upper ≡ s.is_upper
same_bit low i s = by (nat_lt i low)
  where
    by : (b : Bool) → (cond b (thin s) s).is_upper ≡ s.is_upper
    by true = refl
    by false = refl

module _ (low w : ℕ) (some : 1 ≤ w) (renaming : List ℕ) where
  -- the first cell of a row is laid of the first cell of the row above
  first_laid : (level : Level) (t : Digit) (upper b : Bool) → laid 1 renaming level (cond b (thin t) t).row upper ≡ thin (laid w renaming level t.row upper)
  first_laid level t upper b = ap (λ (row : List ℕ). record { row = row; is_upper = upper }) (cut b ∙ sym (take-take 1 w (get_or (rows_below renaming level t.row) (bit upper) []) some))
    where
      cut : (b : Bool) → take 1 (get_or (rows_below renaming level (cond b (thin t) t).row) (bit upper) []) ≡ take 1 (get_or (rows_below renaming level t.row) (bit upper) [])
      cut true = cut_below renaming level 1 (bit upper) t.row (omega arith)
      cut false = refl

  -- what is kept of a row that is laid is laid of what is kept of the row above
  pub laid_thin : (i : ℕ) (level : Level) (t : Digit) (upper : Bool)
      → laid (cells_kept low w i) renaming level (thin_below low (i + 1) t).row upper ≡ thin_below low i (laid w renaming level t.row upper)
  laid_thin i level t upper = by (nat_lt i low) (nat_lt (i + 1) low) above
    where
      above : nat_lt i low ≡ false → nat_lt (i + 1) low ≡ false
      above e = grind (arith, nat_tests, e)

      by : (b c : Bool) → (b ≡ false → c ≡ false) → laid (cond b 1 w) renaming level (cond c (thin t) t).row upper ≡ cond b (thin (laid w renaming level t.row upper)) (laid w renaming level t.row upper)
      by true c e = first_laid level t upper c
      by false true e = let f = e refl in absurd cc
      by false false e = refl

  pub over_thin : (i : ℕ) (level : Level) (upper : Bool) (ss : List Digit)
      → laid_over (cells_kept low w i) renaming level upper (split_from low (i + 1) ss) ≡ split_from low i (laid_over w renaming level upper ss)
  over_thin i level upper [] = refl
  over_thin i level upper (t ∷ ss) = ap (λ (s : Digit). s ∷ split_from low (i + 1) (t ∷ ss)) (laid_thin i level t upper)

  same_follows : (direction : Direction) (i : ℕ) (level : Level) (t : Digit) → follows direction renaming level (thin_below low i t).row ≡ follows direction renaming level t.row
  same_follows Up i level t = refl
  same_follows Down i level t = two_thin low i renaming level t

  by_thin : (direction : Direction) (i : ℕ) (level : Level) (ss : List Digit)
      → laid_by direction (cells_kept low w i) renaming level (split_from low (i + 1) ss) ≡ split_from low i (laid_by direction w renaming level ss)
  by_thin direction i level [] = refl
  by_thin direction i level (t ∷ ss) =
      ap (λ (upper : Bool). laid (cells_kept low w i) renaming level (thin_below low (i + 1) t).row upper ∷ split_from low (i + 1) (t ∷ ss)) (same_follows direction (i + 1) level t)
      ∙ ap (λ (s : Digit). s ∷ split_from low (i + 1) (t ∷ ss)) (laid_thin i level t (follows direction renaming level t.row))

  pub under_thin : (direction : Direction) (i j m : ℕ) (levels : List Level) (ss : List Digit) → j ≤ length levels → m ≡ i + j
      → split_under direction low w renaming i (take j levels) (split_from low m ss) ≡ split_from low i (laid_under direction w renaming (take j levels) ss)
  under_thin direction i zero m levels ss le e = ap (λ (n : ℕ). split_from low n ss) (e ∙ omega arith)
  under_thin direction i (suc j) m [] ss le e = absurd (omega arith)
  under_thin direction i (suc j) m (level ∷ levels) ss le e =
      ap (laid_by direction (cells_kept low w i) renaming level) (under_thin direction (i + 1) j m levels ss (omega arith) (omega arith))
      ∙ by_thin direction i level (laid_under direction w renaming (take j levels) ss)

  same_flip : (direction : Direction) (i : ℕ) (level : Level) (s t : Digit) → flips direction renaming level (thin_below low i s) (thin_below low (i + 1) t) ≡ flips direction renaming level s t
  same_flip Up i level s t = ap (λ (b : Bool). cond b false (has_two renaming level (thin_below low (i + 1) t).row)) (same_bit low i s) ∙ ap (cond s.is_upper false) (two_thin low (i + 1) renaming level t)
  same_flip Down i level s t = same_bit low i s

  -- the level that flips is told by what is kept
  pub flip_thin : (direction : Direction) (i : ℕ) (levels : List Level) (ss : List Digit) → flip_from direction renaming i levels (split_from low i ss) ≡ flip_from direction renaming i levels ss
  flip_thin direction i [] ss = refl
  flip_thin direction i (level ∷ levels) [] = refl
  flip_thin direction i (level ∷ levels) (s ∷ []) = refl
  flip_thin direction i (level ∷ levels) (s ∷ t ∷ ss) =
      ap (λ (b : Bool). cond b (Some i) (flip_from direction renaming (i + 1) levels (split_from low (i + 1) (t ∷ ss)))) (same_flip direction i level s t)
      ∙ ap (cond (flips direction renaming level s t) (Some i)) (flip_thin direction (i + 1) levels (t ∷ ss))

  -- bits alone tell the number
  pub number_thin : (i : ℕ) (levels : List Level) (ss : List Digit) → row_number renaming levels (split_from low i ss) ≡ row_number renaming levels ss
  number_thin i [] ss = refl
  number_thin i (level ∷ levels) [] = refl
  number_thin i (level ∷ levels) (s ∷ ss) =
      ap (λ (y : ℕ). rows_under renaming level levels y + bit (thin_below low i s).is_upper) (number_thin (i + 1) levels ss)
      ∙ ap (λ (b : Bool). rows_under renaming level levels (row_number renaming levels ss) + bit b) (same_bit low i s)

pub drop_thin : (low k i : ℕ) (ss : List Digit) → drop k (split_from low i ss) ≡ split_from low (i + k) (drop k ss)
drop_thin low zero i ss = let e : i ≡ i + 0 = omega arith in ap (λ (n : ℕ). split_from low n ss) e
drop_thin low (suc k) i [] = refl
drop_thin low (suc k) i (s ∷ ss) = let e : i + 1 + k ≡ i + suc k = omega arith in drop_thin low k (i + 1) ss ∙ ap (λ (n : ℕ). split_from low n (drop k ss)) e

-- from level `low` on rows are kept whole
pub wide_level : (low i : ℕ) → low ≤ i → nat_lt i low ≡ false
wide_level low i le = grind (arith, nat_tests, le)

pub none_thin : (low i : ℕ) (ss : List Digit) → low ≤ i → split_from low i ss ≡ ss
none_thin low i [] le = refl
none_thin low i (s ∷ ss) le =
    ap (λ (b : Bool). cond b (thin s) s ∷ split_from low (i + 1) ss) (wide_level low i le)
    ∙ ap (λ (ts : List Digit). s ∷ ts) (none_thin low (i + 1) ss (omega arith))

pub plain_split : (w : ℕ) (renaming : List ℕ) (levels : List Level) (ss : List Digit) → AreDigits w renaming levels ss → AreSplit 0 w renaming levels ss
plain_split w renaming levels ss f = record { whole = ss; fits = f; split = sym (none_thin 0 0 ss (omega arith)) }

pub plain_digits : (w : ℕ) (renaming : List ℕ) (levels : List Level) (ss : List Digit) → AreSplit 0 w renaming levels ss → AreDigits w renaming levels ss
plain_digits w renaming levels ss f = subst (λ (ts : List Digit). AreDigits w renaming levels ts) (sym (f.split ∙ none_thin 0 0 f.whole (omega arith))) f.fits

-- one row on, w cells of each row from level `low` on
pub record IsSplitNext (direction : Direction) (low w : ℕ) (renaming : List ℕ) (levels : List Level) (old new : List Digit) : Type 0 where
  pub fits : AreSplit low w renaming levels new
  pub advanced : IsAdvanced direction (row_number renaming levels old) (row_number renaming levels new)

module _ (low w : ℕ) (some : 1 ≤ w) (renaming : List ℕ) where
  -- the step that the code makes: one block is laid anew, and then all below it
  pub split_stepped : (direction : Direction) (b j : ℕ) (levels : List Level) (old mid : List ℕ) (flag : Bool) (ss ns : List Digit) → ss ≡ digits b levels old
      → AreSplit low w renaming levels ss → flip_from direction renaming 0 levels ss ≡ Some j → flag ≡ flipped direction
      → ((level : Level) → slice_get levels j ≡ Some level
      → digits b (drop j levels) (drop (j * b) mid) ≡ laid_over (cells_kept low w j) renaming level flag (digits b (drop (j + 1) levels) (drop ((j + 1) * b) old)))
      → ns ≡ split_under direction low w renaming 0 (take j levels) (digits b (drop j levels) (drop (j * b) mid))
      → IsSplitNext direction low w renaming levels ss ns
  split_stepped direction b j levels old mid flag ss ns all f found flagged laid under =
      let ws = f.whole in
      let turn = flip_found direction renaming j levels ws (sym (flip_thin low w some renaming direction 0 levels ws) ∙ (ap (flip_from direction renaming 0 levels) (sym f.split) ∙ found)) in
      let lt : j < length levels = flip_inside direction renaming j levels ws turn in
      let l = some_at levels j lt in
      let n : j + 1 ≡ suc j = omega arith in
      let z : 0 + (j + 1) ≡ j + 1 = omega arith in
      let r = next w some renaming direction j levels ws l.0 f.fits turn l.1 in
      let more = laid_over w renaming l.0 (flipped direction) (drop (suc j) ws) in
      let above : digits b (drop (j + 1) levels) (drop ((j + 1) * b) old) ≡ split_from low (j + 1) (drop (suc j) ws) =
      from_level b (j + 1) levels old (omega (arith, lt))
      ∙ (ap (drop (j + 1)) (sym all ∙ f.split)
      ∙ (drop_thin low (j + 1) 0 ws ∙ (ap (λ (k : ℕ). split_from low k (drop (j + 1) ws)) z ∙ ap (λ (k : ℕ). split_from low (j + 1) (drop k ws)) n))) in
      let here : digits b (drop j levels) (drop (j * b) mid) ≡ split_from low j more =
      laid l.0 l.1 ∙ (ap (λ (u : Bool). laid_over (cells_kept low w j) renaming l.0 u (digits b (drop (j + 1) levels) (drop ((j + 1) * b) old))) flagged
      ∙ (ap (laid_over (cells_kept low w j) renaming l.0 (flipped direction)) above ∙ over_thin low w some renaming j l.0 (flipped direction) (drop (suc j) ws))) in
      let now = laid_under direction w renaming (take j levels) more in
      let whole : ns ≡ split_from low 0 now =
      under ∙ (ap (split_under direction low w renaming 0 (take j levels)) here ∙ under_thin low w some renaming direction 0 j j levels more (omega (arith, lt)) (omega arith)) in
      let before : row_number renaming levels ss ≡ row_number renaming levels ws = ap (row_number renaming levels) f.split ∙ number_thin low w some renaming 0 levels ws in
      let after : row_number renaming levels ns ≡ row_number renaming levels now = ap (row_number renaming levels) whole ∙ number_thin low w some renaming 0 levels now in
      record {
        fits = record { whole = now; fits = r.fits; split = whole };
        advanced = subst (λ (y : ℕ). IsAdvanced direction (row_number renaming levels ss) y) (sym after) (subst (λ (y : ℕ). IsAdvanced direction y (row_number renaming levels now)) (sym before) r.advanced);
      }

  -- where no row turns, there is no row more on this way
  pub split_no_next : (direction : Direction) (levels : List Level) (ss : List Digit) → AreSplit low w renaming levels ss → flip_from direction renaming 0 levels ss ≡ None
      → IsLastRow direction (length (all_rows renaming levels)) (row_number renaming levels ss)
  split_no_next direction levels ss f none =
      let ws = f.whole in
      let stays = none_found direction renaming 0 levels ws (sym (flip_thin low w some renaming direction 0 levels ws) ∙ (ap (flip_from direction renaming 0 levels) (sym f.split) ∙ none)) in
      let before : row_number renaming levels ss ≡ row_number renaming levels ws = ap (row_number renaming levels) f.split ∙ number_thin low w some renaming 0 levels ws in
      subst (λ (y : ℕ). IsLastRow direction (length (all_rows renaming levels)) y) (sym before) (no_next w some renaming direction levels ws f.fits stays)

-- the bottom row, as the code lays it
pub split_begun : (w : ℕ) → 1 ≤ w → (renaming : List ℕ) (n : ℕ) (levels : List Level) (ns ts : List Digit) → n ≡ length levels → ts ≡ (record { row = 0 ∷ []; is_upper = false } ∷ [])
    → ns ≡ split_under Up 0 w renaming 0 (take n levels) ts → AreSplit 0 w renaming levels ns × (row_number renaming levels ns ≡ 0)
split_begun w some renaming n levels ns ts e top under =
    let plain : split_under Up 0 w renaming 0 (take n levels) ts ≡ laid_under Up w renaming (take n levels) ts =
    ap (split_under Up 0 w renaming 0 (take n levels)) (sym (none_thin 0 n ts (omega arith)))
    ∙ (under_thin 0 w some renaming Up 0 n n levels ts (omega (arith, e)) (omega arith) ∙ none_thin 0 0 (laid_under Up w renaming (take n levels) ts) (omega arith)) in
    let r = begun w some renaming n levels ns ts e top (under ∙ plain) in
    (plain_split w renaming levels ns r.0, r.1)

-- one level more is laid
pub split_more : (direction : Direction) (low w b : ℕ) (renaming : List ℕ) (levels : List Level) (j i k : ℕ) (cur new : List ℕ) (top : List Digit) → k + 1 ≡ i → i ≤ j → j ≤ length levels
    → ((level : Level) → slice_get levels k ≡ Some level
    → digits b (drop k levels) (drop (k * b) new) ≡ laid_by direction (cells_kept low w k) renaming level (digits b (drop (k + 1) levels) (drop ((k + 1) * b) cur)))
    → digits b (drop i levels) (drop (i * b) cur) ≡ split_under direction low w renaming i (drop i (take j levels)) top
    → digits b (drop k levels) (drop (k * b) new) ≡ split_under direction low w renaming k (drop k (take j levels)) top
split_more direction low w b renaming levels j i k cur new top e le inside step laid =
    let l = some_at levels k (omega (arith, e, le, inside)) in
    let lt : k < j = omega (arith, e, le) in
    let cut = rest_of (take j levels) k l.0 (front_of levels j k l.0 lt l.1) in
    let below : digits b (drop (k + 1) levels) (drop ((k + 1) * b) cur) ≡ split_under direction low w renaming (k + 1) (drop (k + 1) (take j levels)) top =
    ap (λ (n : ℕ). digits b (drop n levels) (drop (n * b) cur)) e ∙ (laid ∙ ap (λ (n : ℕ). split_under direction low w renaming n (drop n (take j levels)) top) (sym e)) in
    step l.0 l.1 ∙ (ap (laid_by direction (cells_kept low w k) renaming l.0) below ∙ ap (λ (ls : List Level). split_under direction low w renaming k ls top) (sym cut))
