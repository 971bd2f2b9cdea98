-- How often tiles stand among the first cells of a list, and what is told of it.
use Rattle.std.proofs.Common.{arith, ◌≡◌, ◌≤◌, ◌<◌, ◌+◌, ◌++◌, ℕ, zero, suc, List, [], ◌∷◌, length, take, get_or, Bool, true, false, append_assoc, refl, sym, ap, ◌∙◌}
use Rattle.std.specs.Prelude.{nat_eq, if◌then◌else◌, codes}
use Rattle.std.specs.Fmt.{decimal}
use Rattle.wt_grid.specs.Grid.{Grid, listed}
use Rattle.wt_check.specs.Powers.{unit, units}
use Rattle.wt_session.specs.Census.{counts_text}
use Rattle.wt_program.specs.Samples.{period_count, tile_counts, tests_text}

pub units_more : (u : ℕ) (xs : List ℕ) (i : ℕ) → i < length xs → units u (take (i + 1) xs) ≡ units u (take i xs) + unit u (get_or xs i 0)
units_more u [] i lt = absurd (omega arith)
units_more u (x ∷ xs) zero lt = omega arith
units_more u (x ∷ xs) (suc i) lt =
    let e : suc i + 1 ≡ suc (i + 1) = omega arith in
    let r = units_more u xs i (omega arith) in
    rw e (omega (arith, r))

unit_few : (u x : ℕ) → unit u x ≤ 1
unit_few u x = by (nat_eq x u)
  where
    by : (b : Bool) → (if b then 1 else 0) ≤ 1
    by true = omega arith
    by false = omega arith

pub units_front : (u i : ℕ) (xs : List ℕ) → units u (take i xs) ≤ i
units_front u zero xs = omega arith
units_front u (suc i) [] = omega arith
units_front u (suc i) (x ∷ xs) = let a = unit_few u x in let r = units_front u i xs in omega (arith, a, r)

pub units_none : (u : ℕ) (xs : List ℕ) → units u (take 0 xs) ≡ 0
units_none u [] = refl
units_none u (x ∷ xs) = refl

first_listed : (n : ℕ) (xs : List ℕ) (f : ℕ → ℕ) → n ≤ length xs → ((u : ℕ) → u < n → get_or xs u 0 ≡ f u) → take n xs ≡ listed n f
first_listed zero xs f le h = refl
first_listed (suc n) [] f le h = absurd (omega arith)
first_listed (suc n) (x ∷ xs) f le h =
    let a : x ≡ f 0 = h 0 (omega arith) in
    let r = first_listed n xs (λ u. f (suc u)) (omega arith) (λ u lt. h (suc u) (omega arith)) in
    ap (λ (y : ℕ). y ∷ take n xs) a ∙ ap (λ (ys : List ℕ). f 0 ∷ ys) r

-- the line of the first of the counts, one for each tile
pub counts_told : (cells counts old new : List ℕ) (n : ℕ) → length counts ≡ 256 → n ≤ 256 → ((u : ℕ) → u < 256 → get_or counts u 0 ≡ units u cells)
    → new ≡ old ++ counts_text (take n counts) → new ≡ old ++ counts_text (tile_counts n cells)
counts_told cells counts old new n whole few each e =
    e ∙ ap (λ (ns : List ℕ). old ++ counts_text ns) (first_listed n counts (λ u. units u cells) (omega (arith, whole, few)) (λ u lt. each u (omega (arith, lt, few))))

-- the line of the tests, piece by piece
pub tests_told : (p : Grid) (old one two new : List ℕ) (n : ℕ) → n ≡ period_count p → one ≡ old ++ codes "valid\nperiods " → two ≡ one ++ decimal n → new ≡ two ++ codes " of 24\n"
    → new ≡ old ++ tests_text p
unfolding tests_text
tests_told p old one two new n same a b c =
    c ∙ (ap (λ (xs : List ℕ). xs ++ codes " of 24\n") (b ∙ ap (λ (ys : List ℕ). ys ++ decimal n) a)
    ∙ (append_assoc (old ++ codes "valid\nperiods ") (decimal n) (codes " of 24\n")
    ∙ (append_assoc old (codes "valid\nperiods ") (decimal n ++ codes " of 24\n")
    ∙ ap (λ (k : ℕ). old ++ (codes "valid\nperiods " ++ (decimal k ++ codes " of 24\n"))) same)))
