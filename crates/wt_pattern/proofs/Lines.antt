-- The first place where two lines differ, found piece by piece.
use Rattle.std.proofs.Common.{arith, ◌≡◌, ℕ, suc, ◌+◌, ◌<◌, List, [], ◌∷◌, length, get_or, Some, Bool, true, false, not, nat_eq, refl, ap, ◌∙◌}
use Rattle.std.specs.Option.{option_map}
use Rattle.wt_lane.specs.Differs.{first_place_apart}
use Rattle.wt_grid.specs.First.{first_from}
use Rattle.wt_pattern.specs.Rows.{flagged}

-- lines that stand j places further on
pub later : (j i : ℕ) (xs ys : List ℕ) → first_place_apart (j + i) xs ys ≡ option_map (λ k. j + k) (first_place_apart i xs ys)
later j i [] ys = refl
later j i (x ∷ xs) [] = refl
later j i (x ∷ xs) (y ∷ ys) = by (nat_eq x y) refl (later j (i + 1) xs ys)
  where
    by : (b : Bool) → nat_eq x y ≡ b → first_place_apart (j + (i + 1)) xs ys ≡ option_map (λ k. j + k) (first_place_apart (i + 1) xs ys)
        → first_place_apart (j + i) (x ∷ xs) (y ∷ ys) ≡ option_map (λ k. j + k) (first_place_apart i (x ∷ xs) (y ∷ ys))
    by true p rest = let s : j + i + 1 ≡ j + (i + 1) = omega arith in rw p (ap (λ k. first_place_apart k xs ys) s ∙ rest)
    by false p rest = rw p refl

-- by a test of places
pub by_places : (xs ys : List ℕ) (f : ℕ → Bool) (i : ℕ) → length xs ≡ length ys
    → ((k : ℕ) → k < length xs → f (i + k) ≡ not (nat_eq (get_or xs k 0) (get_or ys k 0))) → first_place_apart i xs ys ≡ first_from (flagged f) i (length xs)
by_places [] ys f i l h = refl
by_places (x ∷ xs) [] f i l h = absurd (omega arith)
by_places (x ∷ xs) (y ∷ ys) f i l h =
    let zeroth : i + 0 ≡ i = omega arith in
    let here : f i ≡ not (nat_eq x y) = rw zeroth at (h 0 (omega arith)) in
    let rest = by_places xs ys f (i + 1) (omega arith) (λ k lt. let s : i + 1 + k ≡ i + suc k = omega arith in rw s (h (suc k) (omega arith))) in
    by (nat_eq x y) refl here rest
  where
    by : (b : Bool) → nat_eq x y ≡ b → f i ≡ not (nat_eq x y) → first_place_apart (i + 1) xs ys ≡ first_from (flagged f) (i + 1) (length xs)
        → first_place_apart i (x ∷ xs) (y ∷ ys) ≡ first_from (flagged f) i (suc (length xs))
    by true p here rest = let q : f i ≡ false = rw p at here in rw (p, q) rest
    by false p here rest = let q : f i ≡ true = rw p at here in rw (p, q) refl

-- a place is inside
pub within : (i : ℕ) (xs ys : List ℕ) (k : ℕ) → first_place_apart i xs ys ≡ Some k → k < i + length xs
within i [] ys k e = absurd (cc)
within i (x ∷ xs) [] k e = absurd (cc)
within i (x ∷ xs) (y ∷ ys) k e = by (nat_eq x y) refl (λ h. within (i + 1) xs ys k h)
  where
    by : (b : Bool) → nat_eq x y ≡ b → (first_place_apart (i + 1) xs ys ≡ Some k → k < i + 1 + length xs) → k < i + suc (length xs)
    by true p rest = let r = rest (rw p at e) in omega arith
    by false p rest = let h : Some i ≡ Some k = rw p at e in let s : i ≡ k = cc in omega arith
