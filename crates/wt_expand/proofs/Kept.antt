-- Rows that are kept w cells above rows that are still kept one cell.
use Rattle.std.proofs.Common.{arith, ◌≡◌, ◌≤◌, ◌<◌, ◌+◌, ◌*◌, ℕ, zero, suc, Bool, true, nat_eq, nat_lt, List, [], ◌∷◌, length, take, drop, get_or, refl, sym, ◌∙◌, ap, cond, subst}
use Rattle.std.proofs.Math.Nat.{mul-le-mul_right}
use Rattle.std.proofs.lemmas.Bool.Decides.{nat_tests}
use Rattle.std.proofs.lemmas.List.{take-take, drop-take, length-drop, length-take, get_or-take}
use Rattle.wt_expand.specs.Levels.{Level}
use Rattle.wt_expand.specs.Rows.{Digit, AreDigits, row_number, all_rows}
use Rattle.wt_expand.specs.LaidRows.{laid}
use Rattle.wt_expand.specs.Blocks.{digit_of, digits}
use Rattle.wt_expand.specs.Splits.{thin, thin_below, split_from, AreSplit}
use Rattle.wt_expand.proofs.Short.{at_row}
use Rattle.wt_expand.proofs.Counting.{widened}
use Rattle.wt_expand.proofs.Places.{from_level, from_bottom}
use Rattle.wt_expand.proofs.Widened.{IsWide, take_lower, fits_drop}
use Rattle.wt_expand.proofs.Worded.{few_cells}
use Rattle.wt_expand.proofs.Splits.{none_thin, number_thin}

-- digits with w cells of each row, of which these are what is kept from level i on
record IsSplitOf (low w i : ℕ) (renaming : List ℕ) (levels : List Level) (old new : List Digit) : Type 0 where
  whole : List Digit
  fits : AreDigits w renaming levels whole
  number : row_number renaming levels whole ≡ row_number renaming levels old
  split : new ≡ split_from low i whole

-- the same row, kept one cell and kept w cells
first_cell : (w : ℕ) → 1 ≤ w → (renaming : List ℕ) (levels : List Level) (s u : Digit) (ss us : List Digit) → AreDigits 1 renaming levels (s ∷ ss) → AreDigits w renaming levels (u ∷ us)
    → row_number renaming levels (u ∷ us) ≡ row_number renaming levels (s ∷ ss) → s.row ≡ take 1 u.row
first_cell w some renaming levels s u ss us f g same =
    let a = at_row 1 (omega arith) renaming levels s ss f in
    let b = at_row w some renaming levels u us g in
    a.kept ∙ (sym (ap (λ (y : ℕ). take 1 (get_or (all_rows renaming levels) y [])) same)
    ∙ sym (ap (take 1) b.kept ∙ take-take 1 w (get_or (all_rows renaming levels) (row_number renaming levels (u ∷ us)) []) some))

narrow_level : (low i : ℕ) → i < low → nat_lt i low ≡ true
narrow_level low i lt = grind (arith, nat_tests, lt)

split_of : (w : ℕ) → 1 ≤ w → (renaming : List ℕ) (low i k : ℕ) → low ≡ i + k → (levels : List Level) (old new : List Digit) → k ≤ length levels → AreDigits 1 renaming levels old
    → AreDigits w renaming (drop k levels) (drop k new) → row_number renaming (drop k levels) (drop k new) ≡ row_number renaming (drop k levels) (drop k old) → take k new ≡ take k old
    → IsSplitOf low w i renaming levels old new
split_of w some renaming low i zero e levels old new le f wide same below = record { whole = new; fits = wide; number = same; split = sym (none_thin low i new (omega (arith, e))) }
split_of w some renaming low i (suc k) e [] old new le f wide same below = absurd (omega arith)
split_of w some renaming low i (suc k) e (l ∷ ls) [] new le f wide same below = absurd f
split_of w some renaming low i (suc k) e (l ∷ ls) (s ∷ []) new le f wide same below = absurd f
split_of w some renaming low i (suc k) e (l ∷ ls) (s ∷ t ∷ os) [] le f wide same below = absurd cc
split_of w some renaming low i (suc k) e (l ∷ ls) (s ∷ t ∷ os) (n ∷ ns) le f wide same below =
    let r = split_of w some renaming low (i + 1) k (omega (arith, e)) ls (t ∷ os) ns (omega (arith, le)) f.1 wide same (cc) in
    go r.whole r.fits r.number r.split
  where
    go : (ws : List Digit) → AreDigits w renaming ls ws → row_number renaming ls ws ≡ row_number renaming ls (t ∷ os) → ns ≡ split_from low (i + 1) ws
        → IsSplitOf low w i renaming (l ∷ ls) (s ∷ t ∷ os) (n ∷ ns)
    go [] g number split = absurd (no_rows ls g)
      where
        no_rows : (levels : List Level) → AreDigits w renaming levels [] → ⊥
        no_rows [] f = f
        no_rows (level ∷ levels) f = f
    go (u ∷ us) g number split =
        let r = widened 1 w (omega arith) some renaming l ls s t u os us f g number in
        let low_row = laid w renaming l u.row s.is_upper in
        let cell : s.row ≡ take 1 low_row.row = first_cell w some renaming (l ∷ ls) s low_row (t ∷ os) (u ∷ us) f r.0 r.1 in
        let narrow : nat_lt i low ≡ true = narrow_level low i (omega (arith, e)) in
        let here : s ≡ thin_below low i low_row =
        ap (λ (row : List ℕ). record { row = row; is_upper = s.is_upper }) cell ∙ ap (λ (b : Bool). cond b (thin low_row) low_row) (sym narrow) in
        let first : n ≡ s = cc in
        record {
          whole = low_row ∷ u ∷ us;
          fits = r.0;
          number = r.1;
          split = ap (λ (d : Digit). d ∷ ns) (first ∙ here) ∙ ap (λ (ds : List Digit). thin_below low i low_row ∷ ds) split;
        }

-- a block whose row is one cell at most is told by its first numbers
same_digit : (b : ℕ) (xs ys : List ℕ) → 3 ≤ b → 4 ≤ length xs → take b xs ≡ take b ys → length (digit_of xs).row ≤ 1 → digit_of xs ≡ digit_of ys
same_digit b xs ys le long same short =
    let number : (k : ℕ) → k < b → get_or xs k 0 ≡ get_or ys k 0 = λ k lt. sym (get_or-take b xs k 0 lt) ∙ (ap (λ (zs : List ℕ). get_or zs k 0) same ∙ get_or-take b ys k 0 lt) in
    let c = get_or xs 1 0 in
    let few : c ≤ 1 = omega (arith, short, long, length-take c (drop 2 xs), length-drop 2 xs) in
    let three : take 3 xs ≡ take 3 ys = take_lower 3 b xs ys le same in
    let one : take 1 (drop 2 xs) ≡ take 1 (drop 2 ys) = sym (drop-take 2 1 xs) ∙ (ap (drop 2) three ∙ drop-take 2 1 ys) in
    ap (λ (row : List ℕ). record { row = row; is_upper = nat_eq (get_or xs 0 0) 1 }) (take_lower c 1 (drop 2 xs) (drop 2 ys) few one ∙ ap (λ (k : ℕ). take k (drop 2 ys)) (number 1 (omega (arith, le))))
    ∙ ap (λ (bit : ℕ). record { row = (digit_of ys).row; is_upper = nat_eq bit 1 }) (number 0 (omega (arith, le)))

-- blocks whose rows are one cell at most hold the same digits where their numbers are the same
digits_below : (renaming : List ℕ) (b k : ℕ) (levels : List Level) (xs ys : List ℕ) → 3 ≤ b → k ≤ length levels → (length levels + 1) * b ≤ length xs → AreDigits 1 renaming levels (digits b levels xs)
    → take (k * b) xs ≡ take (k * b) ys → take k (digits b levels xs) ≡ take k (digits b levels ys)
digits_below renaming b zero levels xs ys wide le room f same = refl
digits_below renaming b (suc k) [] xs ys wide le room f same = absurd (omega arith)
digits_below renaming b (suc k) (l ∷ ls) xs ys wide le room f same =
    let n : suc k * b ≡ b + k * b = omega arith in
    let m : (length (l ∷ ls) + 1) * b ≡ b + (length ls + 1) * b = omega arith in
    let two : 1 * b ≤ (length ls + 1) * b = mul-le-mul_right b (omega arith) in
    let front : take b xs ≡ take b ys = take_lower b (suc k * b) xs ys (omega (arith, n)) same in
    let both : take (b + k * b) xs ≡ take (b + k * b) ys = subst (λ (j : ℕ). take j xs ≡ take j ys) n same in
    let behind : take (k * b) (drop b xs) ≡ take (k * b) (drop b ys) = sym (drop-take b (k * b) xs) ∙ (ap (drop b) both ∙ drop-take b (k * b) ys) in
    let above : AreDigits 1 renaming ls (digits b ls (drop b xs)) = fits_drop 1 renaming 1 (l ∷ ls) (digit_of xs ∷ digits b ls (drop b xs)) f (omega arith) in
    let here : digit_of xs ≡ digit_of ys = same_digit b xs ys wide (omega (arith, m, two, room, wide)) front (few_cells 1 (omega arith) renaming (l ∷ ls) (digit_of xs) (digits b ls (drop b xs)) f) in
    let rest = digits_below renaming b k ls (drop b xs) (drop b ys) wide (omega (arith, le)) (omega (arith, m, room, length-drop b xs)) above behind in
    ap (λ (d : Digit). d ∷ take k (digits b ls (drop b xs))) here ∙ ap (λ (ds : List Digit). digit_of ys ∷ ds) rest

-- rows from level `low` on are laid anew, w cells of each, and those below stay
wide_above : (low w : ℕ) → 1 ≤ w → (renaming : List ℕ) (b i : ℕ) (levels : List Level) (old new : List ℕ) → i ≡ low → 3 ≤ b → low ≤ length levels → (length levels + 1) * b ≤ length old
    → AreDigits 1 renaming levels (digits b levels old) → IsWide w renaming b levels i old new → take (i * b) new ≡ take (i * b) old
    → AreSplit low w renaming levels (digits b levels new) × (row_number renaming levels (digits b levels new) ≡ row_number renaming levels (digits b levels old))
wide_above low w some renaming b i levels old new e wide le room f is below =
    let inside : i ≤ length levels = omega (arith, e, le) in
    let now = from_level b i levels new inside in
    let before = from_level b i levels old inside in
    let ls = drop i levels in
    let r = split_of w some renaming low 0 i (omega (arith, e)) levels (digits b levels old) (digits b levels new) inside f
    (subst (λ (ss : List Digit). AreDigits w renaming ls ss) now is.fits)
    (sym (ap (row_number renaming ls) now) ∙ (is.same ∙ ap (row_number renaming ls) before))
    (sym (digits_below renaming b i levels old new wide inside room f (sym below))) in (
      record { whole = r.whole; fits = r.fits; split = r.split },
      ap (row_number renaming levels) r.split ∙ (number_thin low w some renaming 0 levels r.whole ∙ r.number),
    )

-- the same of the digits as the code names them
pub kept_wide : (low w : ℕ) → 1 ≤ w → (renaming : List ℕ) (b i : ℕ) (levels : List Level) (old new : List ℕ) → i ≡ low → 3 ≤ b → low ≤ length levels → (length levels + 1) * b ≤ length old
    → AreDigits 1 renaming levels (digits b (drop 0 levels) (drop (0 * b) old)) → IsWide w renaming b levels i old new → take (i * b) new ≡ take (i * b) old
    → AreSplit low w renaming levels (digits b (drop 0 levels) (drop (0 * b) new))
    × (row_number renaming levels (digits b (drop 0 levels) (drop (0 * b) new)) ≡ row_number renaming levels (digits b (drop 0 levels) (drop (0 * b) old)))
kept_wide low w some renaming b i levels old new e wide le room f is below =
    let before = from_bottom b levels old in
    let now = from_bottom b levels new in
    let r = wide_above low w some renaming b i levels old new e wide le room (subst (λ (ss : List Digit). AreDigits 1 renaming levels ss) before f) is below in (
      subst (λ (ss : List Digit). AreSplit low w renaming levels ss) (sym now) r.0,
      ap (row_number renaming levels) now ∙ (r.1 ∙ sym (ap (row_number renaming levels) before)),
    )
