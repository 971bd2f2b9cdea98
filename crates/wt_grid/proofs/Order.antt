-- Look-ups in lists in strict order.
use Rattle.std.proofs.Common.{arith, ℕ, ◌≡◌, ◌≤◌, ◌<◌, ◌-◌, List, [], ◌∷◌, ◌++◌, length, take, drop, get_or, slice_index, Bool, true, false, Some, None, ◌&&◌, refl, sym, ◌∙◌, ap, subst, inl, inr, is_some}
use Rattle.std.proofs.lemmas.Bool.{and_parts, cases_order}
use Rattle.std.specs.List.{list_any, find}
use Rattle.std.proofs.lemmas.List.{take_all, get_or-take}
use Rattle.wt_grid.specs.Order.{leads, in_order, IsBefore, AllAbove, IsSplit, agree}

pub has_found : {A : Type 0} (p : A → Bool) (xs : List A) → list_any p xs ≡ is_some (find p xs)
has_found p [] = refl
has_found p (x ∷ xs) = at_first (p x) refl (has_found p xs)
  where
    at_first : (b : Bool) → p x ≡ b → list_any p xs ≡ is_some (find p xs) → list_any p (x ∷ xs) ≡ is_some (find p (x ∷ xs))
    at_first true e r = rw e refl
    at_first false e r = rw e r

module _ {A : Type 0} (low hit : A → Bool) where
  pub above_none : (xs : List A) → AllAbove low hit xs → find hit xs ≡ None
  above_none [] h = refl
  above_none (x ∷ xs) h = rw h.1 (above_none xs h.2)

  above_front : (f : List A) (x : A) (xs : List A) → AllAbove low hit (f ++ x ∷ xs) → (low x ≡ false) × (hit x ≡ false) × AllAbove low hit f
  above_front [] x xs h = (h.0, h.1, tt)
  above_front (y ∷ f) x xs h = let r = above_front f x xs h.2 in (r.0, r.1, (h.0, h.1, r.2))

  not_both : (b : Bool) → b ≡ true → b ≡ false → ⊥
  not_both b e f = cc

  -- where the middle element comes before the key, only those behind it count
  pub goes_up : (f : List A) (x : A) (xs : List A) → IsSplit low hit (f ++ x ∷ xs) → low x ≡ true → (find hit (f ++ x ∷ xs) ≡ find hit xs) × IsSplit low hit xs
  goes_up [] x xs s e = elim s [
    | inl l ↦ (rw l.1 refl, l.2)
    | inr r ↦ absurd (not_both (low x) e r.0)
  ]
  goes_up (y ∷ f) x xs s e = elim s [
    | inl l ↦ let r = goes_up f x xs l.2 e in (rw l.1 r.0, r.1)
    | inr r ↦ absurd (not_both (low x) e (above_front f x xs r.1).0)
  ]

  -- where it comes behind the key, only those before it count
  pub goes_down : (f : List A) (x : A) (xs : List A) → IsSplit low hit (f ++ x ∷ xs) → low x ≡ false → hit x ≡ false → (find hit (f ++ x ∷ xs) ≡ find hit f) × IsSplit low hit f
  goes_down [] x xs s e g = elim s [
    | inl l ↦ absurd (not_both (low x) l.0 e)
    | inr r ↦ (rw g (above_none xs r.1), tt)
  ]
  goes_down (y ∷ f) x xs s e g = elim s [
    | inl l ↦ let r = goes_down f x xs l.2 e g in (rw l.1 r.0, inl (l.0, l.1, r.1))
    | inr r ↦ let a = above_front f x xs r.1 in (at_first (hit y) refl (above_none (f ++ x ∷ xs) r.1) (above_none f a.2), inr (r.0, a.2))
  ]
    where
      at_first : (b : Bool) → hit y ≡ b → find hit (f ++ x ∷ xs) ≡ None → find hit f ≡ None → find hit (y ∷ f ++ x ∷ xs) ≡ find hit (y ∷ f)
      at_first true h m n = rw h refl
      at_first false h m n = rw h (m ∙ sym n)

  -- the element that has the key is found
  pub finds : (f : List A) (x : A) (xs : List A) → IsSplit low hit (f ++ x ∷ xs) → hit x ≡ true → find hit (f ++ x ∷ xs) ≡ Some x
  finds [] x xs s e = rw e refl
  finds (y ∷ f) x xs s e = elim s [
    | inl l ↦ rw l.1 (finds f x xs l.2 e)
    | inr r ↦ absurd (not_both (hit x) e (above_front f x xs r.1).1)
  ]

  -- A list in order is split at each key.
  module _ (fits : A → Bool) (before : A → A → Bool)
      (onward : (x y : A) → before x y ≡ true → low y ≡ true → low x ≡ true)
      (up_to : (x y : A) → before x y ≡ true → hit y ≡ true → low x ≡ true)
      (apart : (x : A) → low x ≡ true → hit x ≡ false) where
    rest : (x : A) (xs : List A) → in_order fits before (x ∷ xs) ≡ true → in_order fits before xs ≡ true
    rest x xs e = (and_parts (fits x && leads before x xs) (in_order fits before xs) e).1

    next : (x y : A) (xs : List A) → in_order fits before (x ∷ y ∷ xs) ≡ true → before x y ≡ true
    next x y xs e = (and_parts (fits x) (before x y) (and_parts (fits x && before x y) (in_order fits before (y ∷ xs)) e).0).1

    no_more : (x y : A) (b : Bool) → low y ≡ b → before x y ≡ true → low x ≡ false → low y ≡ false
    no_more x y false h g e = h
    no_more x y true h g e = absurd (not_both (low x) (onward x y g h) e)

    no_hit : (x y : A) (b : Bool) → hit y ≡ b → before x y ≡ true → low x ≡ false → hit y ≡ false
    no_hit x y false h g e = h
    no_hit x y true h g e = absurd (not_both (low x) (up_to x y g h) e)

    all_above : (x : A) (xs : List A) → in_order fits before (x ∷ xs) ≡ true → low x ≡ false → AllAbove low hit xs
    all_above x [] o e = tt
    all_above x (y ∷ xs) o e =
        let g = next x y xs o in
        let l = no_more x y (low y) refl g e in
        (l, no_hit x y (hit y) refl g e, all_above y xs (rest x (y ∷ xs) o) l)

    pub split : (xs : List A) → in_order fits before xs ≡ true → IsSplit low hit xs
    split [] o = tt
    split (x ∷ xs) o = at_first (low x) refl (split xs (rest x xs o)) (all_above x xs o)
      where
        at_first : (b : Bool) → low x ≡ b → IsSplit low hit xs → (low x ≡ false → AllAbove low hit xs) → IsSplit low hit (x ∷ xs)
        at_first true e s a = inl (e, apart x e, s)
        at_first false e s a = inr (e, a e)

pub has_same : {A : Type 0} (p : A → Bool) (xs ys : List A) → find p xs ≡ find p ys → list_any p xs ≡ list_any p ys
has_same p xs ys e = has_found p xs ∙ (ap is_some e ∙ sym (has_found p ys))

module _ {A : Type 0} (low hit : A → Bool) where
  others : (x : A) (xs : List A) → take (length (x ∷ xs) - 1) (drop 1 (x ∷ xs)) ≡ xs
  others x xs = let n : length (x ∷ xs) - 1 ≡ length xs = omega arith in rw n (take_all (length xs) xs (omega arith))

  -- the same for a list cut in two, as code sees the second part
  pub up : (xs front back : List A) (d : A) → front ++ back ≡ xs → 1 ≤ length back → IsSplit low hit xs → low (get_or back 0 d) ≡ true
      → (find hit (take (length back - 1) (drop 1 back)) ≡ find hit xs) × (list_any hit (take (length back - 1) (drop 1 back)) ≡ list_any hit xs) × IsSplit low hit (take (length back - 1) (drop 1 back))
  up xs front [] d e some s h = absurd (omega arith)
  up xs front (x ∷ as') d e some s h =
      let r = goes_up low hit front x as' (let P : List A → Type 0 = λ ys. IsSplit low hit ys in subst P (sym e) s) h in
      let same = sym r.0 ∙ ap (find hit) e in
      rw (others x as') (same, has_same hit as' xs same, r.1)

  pub down : (xs front back : List A) (d : A) → front ++ back ≡ xs → 1 ≤ length back → IsSplit low hit xs → low (get_or back 0 d) ≡ false → hit (get_or back 0 d) ≡ false
      → (find hit front ≡ find hit xs) × (list_any hit front ≡ list_any hit xs) × IsSplit low hit front
  down xs front [] d e some s h g = absurd (omega arith)
  down xs front (x ∷ as') d e some s h g =
      let r = goes_down low hit front x as' (let P : List A → Type 0 = λ ys. IsSplit low hit ys in subst P (sym e) s) h g in
      let same = sym r.0 ∙ ap (find hit) e in
      (same, has_same hit front xs same, r.1)

  pub here : (xs front back : List A) (d : A) → front ++ back ≡ xs → 1 ≤ length back → IsSplit low hit xs → hit (get_or back 0 d) ≡ true
      → find hit xs ≡ Some (get_or back 0 d)
  here xs front [] d e some s h = absurd (omega arith)
  here xs front (x ∷ as') d e some s h =
      let r = finds low hit front x as' (let P : List A → Type 0 = λ ys. IsSplit low hit ys in subst P (sym e) s) h in
      ap (find hit) (sym e) ∙ r

-- Truth values that agree are equal, and equal ones agree.

pub agreed : (a b : Bool) → agree a b ≡ true → a ≡ b
agreed true b e = sym e
agreed false true e = absurd (cc e)
agreed false false e = refl

pub agrees : (a b : Bool) → a ≡ b → agree a b ≡ true
agrees true b e = sym e
agrees false true e = absurd (cc e)
agrees false false e = refl

-- Lists of numbers in order: of two lists one at most comes before the other.

same_below : (k j : ℕ) (f g : List ℕ) → take k f ≡ take k g → j < k → slice_index f j ≡ slice_index g j
same_below k j f g e lt = sym (get_or-take k f j 0 lt) ∙ (ap (λ l. slice_index l j) e ∙ get_or-take k g j 0 lt)

pub one_before : (f g : List ℕ) → IsBefore f g → IsBefore g f → ⊥
one_before f g p q = let lower = p.2 in let higher = q.2 in elim (cases_order p.0 q.0) [
  | inl e ↦ let at : slice_index g q.0 < slice_index f q.0 = higher in let here : slice_index f q.0 < slice_index g q.0 = rw e at lower in omega arith
  | inr (inl lt) ↦ let same = same_below q.0 p.0 g f q.1 lt in omega arith
  | inr (inr gt) ↦ let same = same_below p.0 q.0 f g p.1 gt in omega arith
]
