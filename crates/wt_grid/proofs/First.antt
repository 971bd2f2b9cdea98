-- What the first answer of several says.
use Rattle.std.proofs.Common.{arith, ◌≡◌, ◌⊎◌, ℕ, zero, suc, ◌+◌, ◌-◌, ◌≤◌, ◌<◌, Option, None, Some, is_some, if◌then◌else◌, refl, ap, ◌∙◌, inl, inr}
use Rattle.std.specs.Option.{option_map}
use Rattle.std.proofs.lemmas.Bool.{cases_lt}
use Rattle.wt_grid.specs.First.{or_else, first_from, count_from}

-- one more number
pub first_more : {A : Type 0} (f : ℕ → Option A) (i n : ℕ) → i < n → first_from f i (n - i) ≡ or_else (f i) (first_from f (i + 1) (n - (i + 1)))
first_more f i n lt = let one : n - i ≡ suc (n - (i + 1)) = omega arith in ap (first_from f i) one

pub neither : {A : Type 0} (a b : Option A) → or_else a b ≡ None → (a ≡ None) × (b ≡ None)
neither None b e = (refl, e)
neither (Some x) b e = absurd cc

-- where there is none, each has none
pub none_from : {A : Type 0} (f : ℕ → Option A) (i n k : ℕ) → first_from f i n ≡ None → i ≤ k → k < i + n → f k ≡ None
none_from f i zero k e low high = absurd (omega arith)
none_from f i (suc n) k e low high =
    let both = neither (f i) (first_from f (i + 1) n) e in
    elim (cases_lt i k) [
      | inl lt ↦ none_from f (i + 1) n k both.1 (omega arith) (omega arith)
      | inr le ↦ let same : k ≡ i = omega arith in rw same both.0
    ]

-- what is found stands at one of the numbers, and none stands before it
pub first_found : {A : Type 0} (f : ℕ → Option A) (i n : ℕ) (a : A) → first_from f i n ≡ Some a
    → (k : ℕ) × (k < i + n) × (f k ≡ Some a) × ((j : ℕ) → i ≤ j → j < k → f j ≡ None)
first_found f i zero a e = absurd cc
first_found {A} f i (suc n) a e = at_first (f i) refl (λ r. first_found f (i + 1) n a r)
  where
    at_first : (x : Option A) → f i ≡ x → (first_from f (i + 1) n ≡ Some a → (k : ℕ) × (k < i + 1 + n) × (f k ≡ Some a) × ((j : ℕ) → i + 1 ≤ j → j < k → f j ≡ None))
        → (k : ℕ) × (k < i + suc n) × (f k ≡ Some a) × ((j : ℕ) → i ≤ j → j < k → f j ≡ None)
    at_first None h r =
        let s = r (rw h at e) in
        (s.0, omega (arith, s.1), s.2, λ j lo hi. elim (cases_lt i j) [ inl lt ↦ s.3 j (omega arith) hi | inr le ↦ let same : j ≡ i = omega arith in rw same h ])
    at_first (Some x) h r = (i, omega arith, h ∙ (rw h at e), λ j lo hi. absurd (omega arith))

-- one more number counted
pub count_more : {A : Type 0} (f : ℕ → Option A) (i n : ℕ) → i < n → count_from f i (n - i) ≡ (if is_some (f i) then 1 else 0) + count_from f (i + 1) (n - (i + 1))
count_more f i n lt = let one : n - i ≡ suc (n - (i + 1)) = omega arith in ap (count_from f i) one

module _ {A : Type 0} (f : ℕ → Option A) where
  pub count_none : (i n k : ℕ) → count_from f i n ≡ 0 → i ≤ k → k < i + n → f k ≡ None
  count_none i zero k e low high = absurd (omega arith)
  count_none i (suc n) k e low high = at_first (f i) refl (cases_lt i k) (λ h lt. count_none (i + 1) n k h (omega arith) (omega arith))
    where
      at_first : (a : Option A) → f i ≡ a → (i < k) ⊎ (k ≤ i) → (count_from f (i + 1) n ≡ 0 → i < k → f k ≡ None) → f k ≡ None
      at_first None h (inl lt) r = r (let g = rw h at e in omega arith) lt
      at_first None h (inr le) r = let same : k ≡ i = omega arith in rw same h
      at_first (Some a) h d r = absurd (let g = rw h at e in omega arith)

  pub count_some : (i n : ℕ) → 0 < count_from f i n → (k : ℕ) × (k < i + n) × (a : A) × (f k ≡ Some a)
  count_some i zero lt = absurd (omega arith)
  count_some i (suc n) lt = at_first (f i) refl (λ h. count_some (i + 1) n h)
    where
      at_first : (a : Option A) → f i ≡ a → (0 < count_from f (i + 1) n → (k : ℕ) × (k < i + 1 + n) × (a : A) × (f k ≡ Some a)) → (k : ℕ) × (k < i + suc n) × (a : A) × (f k ≡ Some a)
      at_first None h r = let q = r (let g = rw h at lt in omega arith) in (q.0, omega arith, q.2, q.3)
      at_first (Some a) h r = (i, omega arith, a, h)

-- where no number has one, there is none
pub all_none : {A : Type 0} (f : ℕ → Option A) (i n : ℕ) → ((k : ℕ) → i ≤ k → k < i + n → f k ≡ None) → first_from f i n ≡ None
all_none f i zero h = refl
all_none f i (suc n) h =
    let here : f i ≡ None = h i (omega arith) (omega arith) in
    let rest : first_from f (i + 1) n ≡ None = all_none f (i + 1) n (λ k le lt. h k (omega arith) (omega arith)) in
    rw (here, rest) refl

-- what is mapped to no answer was none
pub none_under : {A B : Type 0} (f : A → B) (a : Option A) → option_map f a ≡ None → a ≡ None
none_under f None e = refl
none_under f (Some x) e = absurd cc
