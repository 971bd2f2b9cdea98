-- Elements that pass a test, and pairs that have windows of all radii up to one.
use Rattle.std.proofs.Common.{arith, ◌≡◌, ◌⊎◌, ℕ, zero, suc, ◌≤◌, Bool, true, false, List, [], ◌∷◌, refl, sym, ◌∙◌, inl, inr}
use Rattle.std.specs.Prelude.{filter}
use Rattle.std.specs.List.{list_any}
use Rattle.std.proofs.lemmas.Bool.{cases_lt, or_cases, or_left, or_right}
use Rattle.wt_grid.specs.declared.axis.Axis.{Axis}
use Rattle.wt_grid.specs.Pairs.{is_this_pair}
use Rattle.wt_tile.specs.declared.tile.Tile.{Tile}
use Rattle.wt_window.specs.Surrounded.{surroundable}
use Rattle.wt_marker.proofs.Listed.{Each, Sorted, each_imp}
use Rattle.wt_marker.proofs.Pairs.{is_pair_same}
use Rattle.wt_search.specs.Light.{has_window, left_after}

module _ {A : Type 0} where
  -- an element that is kept passes
  pub each_filter : (P : A → Type 0) (p : A → Bool) (xs : List A) → Each P xs → Each (λ x. P x × (p x ≡ true)) (filter p xs)
  each_filter P p [] h = tt
  each_filter P p (x ∷ xs) h = go (p x) refl (each_filter P p xs h.1)
    where
      go : (b : Bool) → p x ≡ b → Each (λ y. P y × (p y ≡ true)) (filter p xs) → Each (λ y. P y × (p y ≡ true)) (filter p (x ∷ xs))
      go true e r = rw e ((h.0, e), r)
      go false e r = rw e r

  pub each_kept : (P : A → Type 0) (p : A → Bool) (xs : List A) → Each P xs → Each P (filter p xs)
  each_kept P p xs h = each_imp (λ x. P x × (p x ≡ true)) P (filter p xs) (λ x k. k.0) (each_filter P p xs h)

  pub sorted_filter : (before : A → A → Bool) (p : A → Bool) (xs : List A) → Sorted before xs → Sorted before (filter p xs)
  sorted_filter before p [] s = tt
  sorted_filter before p (x ∷ xs) s = go (p x) refl (sorted_filter before p xs s.1)
    where
      go : (b : Bool) → p x ≡ b → Sorted before (filter p xs) → Sorted before (filter p (x ∷ xs))
      go true e r = rw e (each_kept (λ y. before x y ≡ true) p xs s.0, r)
      go false e r = rw e r

  -- what passes whenever it is hit is still found
  pub has_filter : (hit p : A → Bool) → ((x : A) → hit x ≡ true → p x ≡ true) → (xs : List A) → list_any hit xs ≡ true → list_any hit (filter p xs) ≡ true
  has_filter hit p h [] e = absurd cc
  has_filter hit p h (x ∷ xs) e = go (p x) refl (or_cases (hit x) (list_any hit xs) e) (has_filter hit p h xs)
    where
      go : (b : Bool) → p x ≡ b → (hit x ≡ true) ⊎ (list_any hit xs ≡ true) → (list_any hit xs ≡ true → list_any hit (filter p xs) ≡ true) → list_any hit (filter p (x ∷ xs)) ≡ true
      go true t (inl a) r = rw t (or_left (hit x) (list_any hit (filter p xs)) a)
      go true t (inr a) r = rw t (or_right (hit x) (list_any hit (filter p xs)) (r a))
      go false t (inl a) r = absurd (let y : true ≡ false = sym (h x a) ∙ t in cc)
      go false t (inr a) r = rw t (r a)

-- a pair that is left has windows of all radii
pub each_left : (ts : List Tile) (axis : Axis) (P : ℕ × ℕ → Type 0) (qs : List (ℕ × ℕ)) (r : ℕ) → Each P qs
    → Each (λ q. P q × ((k : ℕ) → 1 ≤ k → k ≤ r → has_window ts axis k q ≡ true)) (left_after ts axis qs r)
each_left ts axis P qs zero h = each_imp P (λ q. P q × ((k : ℕ) → 1 ≤ k → k ≤ 0 → has_window ts axis k q ≡ true)) qs (λ q p. (p, λ k lo hi. absurd (omega arith))) h
each_left ts axis P qs (suc r) h =
    each_imp (λ q. (P q × ((k : ℕ) → 1 ≤ k → k ≤ r → has_window ts axis k q ≡ true)) × (has_window ts axis (suc r) q ≡ true))
    (λ q. P q × ((k : ℕ) → 1 ≤ k → k ≤ suc r → has_window ts axis k q ≡ true)) (left_after ts axis qs (suc r))
    (λ q p. (
      p.0.0,
      λ k lo hi. elim (cases_lt r k) [
        | inl lt ↦ let same : k ≡ suc r = omega arith in rw same p.1
        | inr le ↦ p.0.1 k lo le
      ],
    ))
    (each_filter (λ q. P q × ((k : ℕ) → 1 ≤ k → k ≤ r → has_window ts axis k q ≡ true)) (has_window ts axis (suc r)) (left_after ts axis qs r) (each_left ts axis P qs r h))

pub sorted_left : (ts : List Tile) (axis : Axis) (before : ℕ × ℕ → ℕ × ℕ → Bool) (qs : List (ℕ × ℕ)) (r : ℕ) → Sorted before qs → Sorted before (left_after ts axis qs r)
sorted_left ts axis before qs zero s = s
sorted_left ts axis before qs (suc r) s = sorted_filter before (has_window ts axis (suc r)) (left_after ts axis qs r) (sorted_left ts axis before qs r s)

-- and a pair that has them all is left
pub has_left_after : (ts : List Tile) (axis : Axis) (a b : ℕ) (qs : List (ℕ × ℕ)) (r : ℕ) → list_any (is_this_pair a b) qs ≡ true
    → ((k : ℕ) → 1 ≤ k → k ≤ r → surroundable ts axis k a b ≡ true) → list_any (is_this_pair a b) (left_after ts axis qs r) ≡ true
has_left_after ts axis a b qs zero e w = e
has_left_after ts axis a b qs (suc r) e w =
    has_filter (is_this_pair a b) (has_window ts axis (suc r)) (λ q h. let s = is_pair_same a b q h in rw (s.0, s.1) (w (suc r) (omega arith) (omega arith)))
    (left_after ts axis qs r) (has_left_after ts axis a b qs r e (λ k lo hi. w k lo (omega arith)))
