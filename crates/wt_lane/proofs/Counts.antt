-- Numbers of a row that are one value, counted piece by piece.
use Rattle.std.proofs.Common.{arith, ◌≡◌, ℕ, ◌+◌, ◌-◌, ◌^◌, ◌%◌, ◌≤◌, List, Bool, map, take, drop, length, length-take, replicate, nat_eq, cond, ap, ◌∙◌, take-add}
use Rattle.std.specs.Prelude.{count_by, count_ones}
use Rattle.std.proofs.lemmas.List.Sums.{sum_by-append, count_by-le-length}
use Rattle.std.proofs.lemmas.Simd.{bitmask_splat, ones-mask_l}
use lib.Lanes.{mask_l, zip2, chunk, top}
use mir.Syntax.{w16}

pub eight_more : (p : ℕ → Bool) (at : ℕ) (row : List ℕ) → count_by p (take (at + 8) row) ≡ count_by p (take at row) + count_by p (chunk at 8 row)
eight_more p at row = ap (count_by p) (take-add at 8 row) ∙ sum_by-append (λ x. cond (p x) 1 0) (take at row) (chunk at 8 row)

pub few : (p : ℕ → Bool) (at : ℕ) (row : List ℕ) → at + 8 ≤ length row → count_by p (take at row) + count_by p (chunk at 8 row) ≤ length row
few p at row le = omega (arith, count_by-le-length p (take at row), count_by-le-length p (chunk at 8 row), length-take at row, length-take 8 (drop at row))

pub lanes_counted : (value : ℕ) (xs : List ℕ) → length xs ≡ 8
    → count_ones (mask_l (map (top 15) (zip2 (λ (a b : ℕ). cond (nat_eq a b) (2 ^ 16 - 1) 0) xs (replicate 8 value))) % 2 ^ 64) ≡ count_by (λ x. nat_eq x value) xs
lanes_counted value xs long = ap count_ones (bitmask_splat w16 nat_eq xs 8 value long (omega arith)) ∙ ones-mask_l (λ x. nat_eq x value) xs
