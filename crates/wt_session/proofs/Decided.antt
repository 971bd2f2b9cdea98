-- What can be decided of numbers below a bound, and the least of them.
use Rattle.std.proofs.Common.{arith, ◌≡◌, ◌⊎◌, ℕ, zero, suc, ◌+◌, ◌<◌, inl, inr, sym, subst}
use Rattle.std.proofs.lemmas.Bool.{cases_lt}

-- it holds, or it doesn't
abbrev pub Dec : Type 0 → Type 0
Dec P = P ⊎ (P → ⊥)

-- the last of n + 1 numbers, or one before it
last_or : (k n : ℕ) → k < suc n → (k < n) ⊎ (k ≡ n)
last_or k n lt = elim (cases_lt k n) [ inl l ↦ inl l | inr ge ↦ inr (omega (arith, lt, ge)) ]

-- it holds of all numbers below n
pub all_below : (P : ℕ → Type 0) → ((k : ℕ) → Dec (P k)) → (n : ℕ) → Dec ((k : ℕ) → k < n → P k)
all_below P decide zero = inl (λ k lt. absurd (omega (arith, lt)))
all_below P decide (suc n) = by (all_below P decide n) (decide n)
  where
    by : Dec ((k : ℕ) → k < n → P k) → Dec (P n) → Dec ((k : ℕ) → k < suc n → P k)
    by (inl all) (inl here) = inl (λ k lt. elim (last_or k n lt) [ inl l ↦ all k l | inr e ↦ subst P (sym e) here ])
    by (inl all) (inr not) = inr (λ h. not (h n (omega arith)))
    by (inr not) here = inr (λ h. not (λ k lt. h k (omega (arith, lt))))

-- the least number below n of which it holds
pub record IsLeast (P : ℕ → Type 0) (n k : ℕ) : Type 0 where
  pub below : k < n
  pub holds : P k
  pub first : (j : ℕ) → j < k → P j → ⊥

-- it holds of no number below n, or there is a least one
pub least_below : (P : ℕ → Type 0) → ((k : ℕ) → Dec (P k)) → (n : ℕ) → ((k : ℕ) → k < n → P k → ⊥) ⊎ ((k : ℕ) × IsLeast P n k)
least_below P decide zero = inl (λ k lt h. absurd (omega (arith, lt)))
least_below P decide (suc n) = by (least_below P decide n) (decide n)
  where
    by : ((k : ℕ) → k < n → P k → ⊥) ⊎ ((k : ℕ) × IsLeast P n k) → Dec (P n) → ((k : ℕ) → k < suc n → P k → ⊥) ⊎ ((k : ℕ) × IsLeast P (suc n) k)
    by (inr found) here = let lt = found.1.below in inr (found.0, record { below = omega (arith, lt); holds = found.1.holds; first = found.1.first })
    by (inl none) (inl here) = inr (n, record { below = omega arith; holds = here; first = none })
    by (inl none) (inr not) = inl (λ k lt h. elim (last_or k n lt) [ inl l ↦ none k l h | inr e ↦ not (subst P e h) ])

-- one holds of some number below n, or of none
pub some_below : (P : ℕ → Type 0) → ((k : ℕ) → Dec (P k)) → (n : ℕ) → Dec ((k : ℕ) × (k < n) × P k)
some_below P decide n = elim (least_below P decide n) [
  | inl none ↦ inr (λ h. none h.0 h.1 h.2)
  | inr found ↦ inl (found.0, found.1.below, found.1.holds)
]
