-- A path through n tiles that ever meets a mark meets one within n steps.
use Rattle.std.proofs.Common.{arith, ◌≡◌, ◌<◌, ◌≤◌, ◌+◌, ◌-◌, ◌⊎◌, ℕ, zero, suc, List, length, get_or, Bool, true, false, ◌||◌, refl, sym, ◌∙◌, ap, inl, inr}
use Rattle.std.proofs.lemmas.Bool.{cases_lt, or_right}
use Rattle.wt_grid.specs.Grid.{listed}
use Rattle.wt_grid.proofs.Bridge.{length-listed, get_or-listed}
use Rattle.wt_bijection.proofs.Onto.{few_apart}

clash : {b : Bool} → b ≡ true → b ≡ false → ⊥
clash e f = cc

-- the tile that i steps lead to
abbrev pub path : (ℕ → ℕ) → ℕ → ℕ → ℕ
path g zero t = t
path g (suc i) t = path g i (g t)

path_on : (g : ℕ → ℕ) (i j t : ℕ) → path g (i + j) t ≡ path g j (path g i t)
path_on g zero j t = let e : 0 + j ≡ j = omega arith in rw e refl
path_on g (suc i) j t = let e : suc i + j ≡ suc (i + j) = omega arith in rw e (path_on g i j (g t))

path_below : (g : ℕ → ℕ) (n : ℕ) → ((t : ℕ) → t < n → g t < n) → (i t : ℕ) → t < n → path g i t < n
path_below g n below zero t lt = lt
path_below g n below (suc i) t lt = path_below g n below i (g t) (below t lt)

module _ (c : ℕ → Bool) (g : ℕ → ℕ) (t : ℕ) where
  record First (j : ℕ) : Type 0 where
    marked : c (path g j t) ≡ true
    before : (k : ℕ) → k < j → c (path g k t) ≡ false

  search_from : (m k : ℕ) → ((l : ℕ) → l < k → c (path g l t) ≡ false) → c (path g (k + m) t) ≡ true → (j : ℕ) × First j
  search_from zero k before e = let same : k + 0 ≡ k = omega arith in (k, record { marked = rw same at e; before = before })
  search_from (suc m) k before e = at_here (c (path g k t)) refl (λ none. search_from m (k + 1) none next)
    where
      next : c (path g (k + 1 + m) t) ≡ true
      next = let same : k + suc m ≡ k + 1 + m = omega arith in rw same at e

      passed : c (path g k t) ≡ false → (l : ℕ) → l < k + 1 → c (path g l t) ≡ false
      passed f l lt = elim (cases_lt l k) [
        | inl less ↦ before l less
        | inr more ↦ let same : l ≡ k = omega arith in rw same f
      ]

      at_here : (b : Bool) → c (path g k t) ≡ b → (((l : ℕ) → l < k + 1 → c (path g l t) ≡ false) → (j : ℕ) × First j) → (j : ℕ) × First j
      at_here true h r = (k, record { marked = h; before = before })
      at_here false h r = r (passed h)

  -- before the first mark no tile comes twice
  apart : (j : ℕ) → First j → (a b : ℕ) → a ≤ j → b ≤ j → a < b → path g a t ≡ path g b t → ⊥
  apart j f a b la lb lt same =
      let there : path g (a + (j - b)) t ≡ path g j t =
      path_on g a (j - b) t ∙ (ap (path g (j - b)) same ∙ (sym (path_on g b (j - b) t) ∙ (let e : b + (j - b) ≡ j = omega arith in rw e refl))) in
      clash (ap c there ∙ f.marked) (f.before (a + (j - b)) (omega arith))

  first_is_early : (n : ℕ) → ((u : ℕ) → u < n → g u < n) → t < n → (j : ℕ) → First j → j < n
  first_is_early n below lt j f =
      let xs = listed (suc j) (λ k. path g k t) in
      let size = length-listed (suc j) (λ k. path g k t) in
      let few = few_apart n xs
      (λ k l. rw (get_or-listed (suc j) k (λ i. path g i t) 0 (omega arith)) (path_below g n below k t lt))
      (λ a b la lb e. equal a b (omega arith) (omega arith)
      (sym (get_or-listed (suc j) a (λ i. path g i t) 0 (omega arith)) ∙ (e ∙ get_or-listed (suc j) b (λ i. path g i t) 0 (omega arith)))) in
      omega arith
    where
      equal : (a b : ℕ) → a ≤ j → b ≤ j → path g a t ≡ path g b t → a ≡ b
      equal a b la lb e = elim (cases_lt a b) [
        | inl less ↦ absurd (apart j f a b la lb less e)
        | inr more ↦ elim (cases_lt b a) [
          | inl less ↦ absurd (apart j f b a lb la less (sym e))
          | inr least ↦ omega arith
        ]
      ]

  pub early : (n : ℕ) → ((u : ℕ) → u < n → g u < n) → t < n → (i : ℕ) → c (path g i t) ≡ true → (j : ℕ) × (j < n) × (c (path g j t) ≡ true)
  early n below lt i e =
      let f = search_from i 0 (λ l less. absurd (omega arith)) (let same : 0 + i ≡ i = omega arith in rw same e) in
      (f.0, first_is_early n below lt f.0 f.1, f.1.marked)

-- What w says of a tile after n steps: that a mark was met.
module _ (c : ℕ → Bool) (g : ℕ → ℕ) (w : ℕ → ℕ → Bool) (start : (t : ℕ) → w 0 t ≡ false) (more : (e t : ℕ) → w (suc e) t ≡ (c t || w e (g t))) where
  met : (e t : ℕ) → w e t ≡ true → (i : ℕ) × (i < e) × (c (path g i t) ≡ true)
  met zero t h = absurd (clash h (start t))
  met (suc e) t h = at_first (c t) refl (λ r. met e (g t) r)
    where
      at_first : (b : Bool) → c t ≡ b → (w e (g t) ≡ true → (i : ℕ) × (i < e) × (c (path g i (g t)) ≡ true)) → (i : ℕ) × (i < suc e) × (c (path g i t) ≡ true)
      at_first true s r = (0, omega arith, s)
      at_first false s r =
          let later : w e (g t) ≡ true = let m = more e t in let k = rw s at m in sym k ∙ h in
          let q = r later in (suc q.0, omega (arith, q.1), q.2)

  meets : (e t i : ℕ) → i < e → c (path g i t) ≡ true → w e t ≡ true
  meets zero t i lt h = absurd (omega arith)
  meets (suc e) t zero lt h = more e t ∙ (rw h refl)
  meets (suc e) t (suc i) lt h = more e t ∙ or_right (c t) (w e (g t)) (meets e (g t) i (omega arith) h)

  -- what ever holds of a tile among n holds after n steps, and after all later ones
  pub ever : (n : ℕ) → ((u : ℕ) → u < n → g u < n) → (e m t : ℕ) → n ≤ m → t < n → w e t ≡ true → w m t ≡ true
  ever n below e m t le lt h =
      let i = met e t h in
      let j = early c g t n below lt i.0 i.2 in
      meets m t j.0 (omega (arith, j.1)) j.2
