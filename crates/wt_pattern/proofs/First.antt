-- Numbers without an answer, before or behind those that may have one.
use Rattle.std.proofs.Common.{arith, ◌≡◌, ℕ, zero, suc, ◌+◌, ◌-◌, ◌≤◌, ◌<◌, Option, None, Some, Bool, true, false, if◌then◌else◌, refl, ap}
use Rattle.wt_grid.proofs.First.{all_none}
use Rattle.std.specs.Option.{option_map}
use Rattle.wt_grid.specs.First.{or_else, first_from}
use Rattle.wt_pattern.specs.Rows.{flagged}

-- the first k of n numbers have no answer
pub none_ahead : {A : Type 0} (f : ℕ → Option A) (i n k : ℕ) → k ≤ n → ((j : ℕ) → i ≤ j → j < i + k → f j ≡ None) → first_from f i n ≡ first_from f (i + k) (n - k)
none_ahead f i n zero le h =
    let a : i + 0 ≡ i = omega arith in
    let b : n - 0 ≡ n = omega arith in
    rw (a, b) refl
none_ahead f i zero (suc k) le h = absurd (omega arith)
none_ahead f i (suc n) (suc k) le h =
    let here : f i ≡ None = h i (omega arith) (omega arith) in
    let rest : first_from f (i + 1) n ≡ first_from f (i + 1 + k) (n - k) = none_ahead f (i + 1) n k (omega arith) (λ j low high. h j (omega arith) (omega arith)) in
    let a : i + suc k ≡ i + 1 + k = omega arith in
    let b : suc n - suc k ≡ n - k = omega arith in
    rw (a, b, here) rest

-- all but the first m of n numbers have no answer
pub none_behind : {A : Type 0} (f : ℕ → Option A) (i m n : ℕ) → m ≤ n → ((j : ℕ) → i + m ≤ j → j < i + n → f j ≡ None) → first_from f i n ≡ first_from f i m
none_behind f i zero n le h = all_none f i n (λ k low high. h k (omega arith) high)
none_behind f i (suc m) zero le h = absurd (omega arith)
none_behind f i (suc m) (suc n) le h = ap (or_else (f i)) (none_behind f (i + 1) m n (omega arith) (λ j low high. h j (omega arith) (omega arith)))

-- answers made from the numbers that pass
pub mapped : {A : Type 0} (f : ℕ → Option A) (passes : ℕ → Bool) (make : ℕ → A) (i n : ℕ)
    → ((k : ℕ) → i ≤ k → k < i + n → f k ≡ (if passes k then Some (make k) else None)) → first_from f i n ≡ option_map make (first_from (flagged passes) i n)
mapped f passes make i zero h = refl
mapped f passes make i (suc n) h = by (passes i) refl (mapped f passes make (i + 1) n (λ k low high. h k (omega arith) (omega arith)))
  where
    by : (b : Bool) → passes i ≡ b → first_from f (i + 1) n ≡ option_map make (first_from (flagged passes) (i + 1) n) → first_from f i (suc n) ≡ option_map make (first_from (flagged passes) i (suc n))
    by true p rest = let here : f i ≡ Some (make i) = rw p at (h i (omega arith) (omega arith)) in rw (here, p) refl
    by false p rest = let here : f i ≡ None = rw p at (h i (omega arith) (omega arith)) in rw (here, p) rest
