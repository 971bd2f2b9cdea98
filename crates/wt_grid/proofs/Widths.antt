-- The length of the last row is the sum of the widths of the tiles of the first.
use Rattle.std.proofs.Common.{arith, ◌≡◌, ℕ, ◌+◌, ◌*◌, ◌≤◌, Bool, true, false, List, [], ◌∷◌, ◌++◌, map, length, refl, ◌∙◌}
use Rattle.std.specs.List.{flat_map}
use Rattle.wt_grid.specs.Widths.{Stage, next_row, last_row, width, total}

sum_append : (f : ℕ → ℕ) (xs ys : List ℕ) → total f (xs ++ ys) ≡ total f xs + total f ys
sum_append f [] ys = omega arith
sum_append f (x ∷ xs) ys = omega (arith, sum_append f xs ys)

sum_flat : (f : ℕ → ℕ) (g : ℕ → List ℕ) (xs : List ℕ) → total f (flat_map g xs) ≡ total (λ x. total f (g x)) xs
sum_flat f g [] = refl
sum_flat f g (x ∷ xs) = omega (arith, sum_append f (g x) (flat_map g xs), sum_flat f g xs)

sum_map : (f g : ℕ → ℕ) (xs : List ℕ) → total f (map g xs) ≡ total (λ x. f (g x)) xs
sum_map f g [] = refl
sum_map f g (x ∷ xs) = omega (arith, sum_map f g xs)

sum_ones : (xs : List ℕ) → length xs ≡ total (λ x. 1) xs
sum_ones [] = refl
sum_ones (x ∷ xs) = omega (arith, sum_ones xs)

one_stage : (s : Stage) (ss : List Stage) (row : List ℕ) (b : Bool) → s.is_along ≡ b → total (width ss) (next_row s row) ≡ total (width (s ∷ ss)) row
one_stage s ss row true e = rw e (sum_flat (width ss) s.pieces row)
one_stage s ss row false e = rw e (sum_map (width ss) s.first row)

pub length_last : (ss : List Stage) (row : List ℕ) → length (last_row ss row) ≡ total (width ss) row
length_last [] row = sum_ones row
length_last (s ∷ ss) row = length_last ss (next_row s row) ∙ one_stage s ss row s.is_along refl

sum_twice : (f : ℕ → ℕ) (xs : List ℕ) → ((x : ℕ) → 2 ≤ f x) → 2 * length xs ≤ total f xs
sum_twice f [] h = omega arith
sum_twice f (x ∷ xs) h = omega (arith, h x, sum_twice f xs h)

-- where each tile becomes at least two wide, a row becomes at least twice as long
pub doubles : (ss : List Stage) (row : List ℕ) → ((t : ℕ) → 2 ≤ width ss t) → 2 * length row ≤ length (last_row ss row)
doubles ss row h = omega (arith, length_last ss row, sum_twice (width ss) row h)
