-- Colours that stand for colours, equal exactly where those are, are given by a map.
use Rattle.std.proofs.Common.{arith, ◌≡◌, ◌<◌, ℕ, Option, None, Some, unwrap_or, Bool, true, false, nat_eq, if◌then◌else◌, refl, sym, ◌∙◌}
use Rattle.std.proofs.lemmas.Bool.Decides.{nat_tests}
use Rattle.wt_grid.specs.First.{first_from}
use Rattle.wt_grid.proofs.First.{none_from, first_found}

-- The colours p i and q i stand on tile i, and p' i and q' i for them on its partner.

abbrev pub stands_at : (ℕ → ℕ) → (ℕ → ℕ) → (ℕ → ℕ) → (ℕ → ℕ) → ℕ → ℕ → Option ℕ
stands_at p q p' q' c i = if nat_eq (p i) c then Some (p' i) else if nat_eq (q i) c then Some (q' i) else None

-- the colour that stands for c
abbrev pub stands : ℕ → (ℕ → ℕ) → (ℕ → ℕ) → (ℕ → ℕ) → (ℕ → ℕ) → ℕ → ℕ
stands n p q p' q' c = unwrap_or (first_from (stands_at p q p' q' c) 0 n) 0

module _ (n : ℕ) (p q p' q' : ℕ → ℕ) where
  -- what it is worth at a colour that has one partner
  found : (c d : ℕ) → ((k : ℕ) → k < n → p k ≡ c → p' k ≡ d) → ((k : ℕ) → k < n → q k ≡ c → q' k ≡ d)
      → (i : ℕ) → i < n → (stands_at p q p' q' c i ≡ None → ⊥) → stands n p q p' q' c ≡ d
  found c d hp hq i lt some = go (first_from (stands_at p q p' q' c) 0 n) refl
    where
      at_place : (k x : ℕ) → k < n → (b e : Bool) → nat_eq (p k) c ≡ b → nat_eq (q k) c ≡ e
          → (if b then Some (p' k) else if e then Some (q' k) else None) ≡ Some x → x ≡ d
      at_place k x l true e s t h = let same : p k ≡ c = grind (arith, nat_tests, s) in let is : p' k ≡ x = cc h in sym is ∙ hp k l same
      at_place k x l false true s t h = let same : q k ≡ c = grind (arith, nat_tests, t) in let is : q' k ≡ x = cc h in sym is ∙ hq k l same
      at_place k x l false false s t h = absurd (cc h)

      go : (a : Option ℕ) → first_from (stands_at p q p' q' c) 0 n ≡ a → stands n p q p' q' c ≡ d
      go None h = absurd (some (none_from (stands_at p q p' q' c) 0 n i h (omega arith) (omega arith)))
      go (Some x) h =
          let s = first_found (stands_at p q p' q' c) 0 n x h in
          let is : x ≡ d = at_place s.0 x (omega (arith, s.1)) (nat_eq (p s.0) c) (nat_eq (q s.0) c) refl refl s.2 in
          rw h is

  module _ (pp : (i j : ℕ) → i < n → j < n → p i ≡ p j → p' i ≡ p' j)
      (pq : (i j : ℕ) → i < n → j < n → p i ≡ q j → p' i ≡ q' j)
      (qq : (i j : ℕ) → i < n → j < n → q i ≡ q j → q' i ≡ q' j) where
    pub first_is : (i : ℕ) → i < n → stands n p q p' q' (p i) ≡ p' i
    first_is i lt = found (p i) (p' i) (λ k l e. pp k i l lt e) (λ k l e. sym (pq i k lt l (sym e))) i lt some
      where
        some : stands_at p q p' q' (p i) i ≡ None → ⊥
        some h = let same : nat_eq (p i) (p i) ≡ true = grind (arith, nat_tests) in cc (rw same at h)

    pub second_is : (i : ℕ) → i < n → stands n p q p' q' (q i) ≡ q' i
    second_is i lt = found (q i) (q' i) (λ k l e. pq k i l lt e) (λ k l e. qq k i l lt e) i lt some
      where
        by : (b : Bool) → (if b then Some (p' i) else if nat_eq (q i) (q i) then Some (q' i) else None) ≡ None → ⊥
        by true h = cc h
        by false h = let same : nat_eq (q i) (q i) ≡ true = grind (arith, nat_tests) in cc (rw same at h)

        some : stands_at p q p' q' (q i) i ≡ None → ⊥
        some h = by (nat_eq (p i) (q i)) h
