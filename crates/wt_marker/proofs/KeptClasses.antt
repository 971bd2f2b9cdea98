-- The classes that are listed are the kept ones, by their least tiles.
use Rattle.std.proofs.Common.{arith, ◌≡◌, ◌↔◌, ℕ, zero, suc, ◌+◌, ◌<◌, ◌≤◌, Bool, true, false, ◌&&◌, not, nat_eq, nat_lt, List, [], ◌∷◌, ◌++◌, slice_get, Contains, Some, refl, sym, subst, ◌∙◌, inl, inr}
use Rattle.std.proofs.lemmas.Bool.{cases_lt, and_parts, or_cases, or_left, or_right, not-true, false_from_ne_true}
use Rattle.std.proofs.lemmas.Bool.Decides.{nat_tests}
use Rattle.std.proofs.lemmas.List.Elements.{Contains-append_left, Contains-append_right}
use Rattle.std.proofs.lemmas.Option.{slice_get_within, get_or_from_slice_get}
use Rattle.wt_grid.specs.Order.{in_order, leads, is_below, agree, comes_before}
use Rattle.wt_marker.specs.Gather.{gather, only_if, any_from}
use Rattle.wt_marker.specs.Classes.{is_in, AreJoined, IsKeptClass, BeginsBelow, label, labels_of, has_label, meets_at, meets_row, meets, is_kept, member_at, class_of, class_at, kept_classes}
use Rattle.wt_marker.proofs.Truth.{not_both}
use Rattle.wt_marker.proofs.Listed.{Each, each_gather, each_only, each_at, has_each, has_gather, has_only, sorted_gather, sorted_only, ordered, any_true, any_found}
use Rattle.wt_marker.proofs.Plans.{in_below}
use Rattle.wt_marker.proofs.Joined.{labelled, labels_join}

own : (a : ℕ) → nat_eq a a ≡ true
own a = grind (arith, nat_tests)

same_number : (a b : ℕ) → nat_eq a b ≡ true → a ≡ b
same_number a b e = grind (arith, nat_tests, e)

is_number : (a b : ℕ) → a ≡ b → nat_eq a b ≡ true
is_number a b e = grind (arith, nat_tests, e)

other_number : (a b : ℕ) → (a ≡ b → ⊥) → nat_eq a b ≡ false
other_number a b h = false_from_ne_true (nat_eq a b) (λ e. h (same_number a b e))

-- Ascending lists with the same members are one list.

rises : (n x : ℕ) (xs : List ℕ) → in_order (is_below n) comes_before (x ∷ xs) ≡ true → (y : ℕ) → is_in xs y ≡ true → x < y
rises n x [] e y m = absurd cc
rises n x (z ∷ zs) e y m =
    let g = and_parts (nat_lt x n && nat_lt x z) (in_order (is_below n) comes_before (z ∷ zs)) e in
    let h = and_parts (nat_lt x n) (nat_lt x z) g.0 in
    let lt : x < z = grind (arith, nat_tests, h.1) in
    elim (or_cases (nat_eq y z) (is_in zs y) m) [
      | inl t ↦ let same = same_number y z t in omega (arith, same, lt)
      | inr t ↦ let k = rises n z zs g.1 y t in omega arith
    ]

tail_in : (n x y : ℕ) (xs ys : List ℕ) → x ≡ y → in_order (is_below n) comes_before (x ∷ xs) ≡ true → ((a : ℕ) → is_in (x ∷ xs) a ≡ true → is_in (y ∷ ys) a ≡ true) → (a : ℕ) → is_in xs a ≡ true → is_in ys a ≡ true
tail_in n x y xs ys s e h a m = elim (or_cases (nat_eq a y) (is_in ys a) (h a (or_right (nat_eq a x) (is_in xs a) m))) [
  | inl t ↦ absurd (let lt = rises n x xs e a m in let k = same_number a y t in omega (arith, lt, k, s))
  | inr t ↦ t
]

pub ascending_same : (n : ℕ) (xs ys : List ℕ) → in_order (is_below n) comes_before xs ≡ true → in_order (is_below n) comes_before ys ≡ true
    → ((a : ℕ) → is_in xs a ≡ true → is_in ys a ≡ true) → ((a : ℕ) → is_in ys a ≡ true → is_in xs a ≡ true) → xs ≡ ys
ascending_same n [] [] e g h k = refl
ascending_same n [] (y ∷ ys) e g h k = absurd (let m : false ≡ true = k y (or_left (nat_eq y y) (is_in ys y) (own y)) in cc)
ascending_same n (x ∷ xs) [] e g h k = absurd (let m : false ≡ true = h x (or_left (nat_eq x x) (is_in xs x) (own x)) in cc)
ascending_same n (x ∷ xs) (y ∷ ys) e g h k =
    let s : x ≡ y = elim (or_cases (nat_eq x y) (is_in ys x) (h x (or_left (nat_eq x x) (is_in xs x) (own x)))) [
      | inl t ↦ same_number x y t
      | inr t ↦ elim (or_cases (nat_eq y x) (is_in xs y) (k y (or_left (nat_eq y y) (is_in ys y) (own y)))) [
        | inl u ↦ sym (same_number y x u)
        | inr u ↦ absurd (let a = rises n y ys g x t in let b = rises n x xs e y u in omega (arith, a, b))
      ]
    ] in
    let p = (and_parts (nat_lt x n && leads comes_before x xs) (in_order (is_below n) comes_before xs) e).1 in
    let q = (and_parts (nat_lt y n && leads comes_before y ys) (in_order (is_below n) comes_before ys) g).1 in
    let rest = ascending_same n xs ys p q (tail_in n x y xs ys s e h) (tail_in n y x ys xs (sym s) g k) in
    λ i. s i ∷ rest i

-- Elements of gathered lists.

pub contains_gather : {A : Type 0} (f : ℕ → List A) (i n k : ℕ) (x : A) → i ≤ k → k < i + n → Contains (f k) x → Contains (gather f i n) x
contains_gather f i zero k x lo hi h = absurd (omega arith)
contains_gather f i (suc n) k x lo hi h = elim (cases_lt i k) [
  | inl lt ↦ Contains-append_right (f i) (gather f (i + 1) n) x (contains_gather f (i + 1) n k x (omega arith) (omega arith) h)
  | inr le ↦ Contains-append_left (f i) (gather f (i + 1) n) x (let s : k ≡ i = omega arith in subst (λ (j : ℕ). Contains (f j) x) s h)
]

contains_only : {A : Type 0} (b : Bool) (x : A) → b ≡ true → Contains (only_if b x) x
contains_only true x e = (0, omega arith, refl)
contains_only false x e = absurd (cc e)

each_contains : {A : Type 0} (P : A → Type 0) (xs : List A) (x : A) → Each P xs → Contains xs x → P x
each_contains P xs x h c = subst P c.2 (each_at P xs c.0 x h c.1)

-- each element stands in the relation to all behind it
abbrev pub SortedBy : {A : Type 0} → (A → A → Type 0) → List A → Type 0
SortedBy R [] = Unit {0}
SortedBy R (x ∷ xs) = Each (R x) xs × SortedBy R xs

pub sorted_at : {A : Type 0} (R : A → A → Type 0) (xs : List A) (i j : ℕ) (x y : A) → SortedBy R xs → slice_get xs i ≡ Some x → slice_get xs j ≡ Some y → i < j → R x y
sorted_at R [] i j x y s p q lt = absurd (let k = slice_get_within [] i x p in omega arith)
sorted_at R (z ∷ xs) zero zero x y s p q lt = absurd (omega arith)
sorted_at R (z ∷ xs) zero (suc j) x y s p q lt =
    let e : z ≡ x = cc in
    let k = slice_get_within xs j y q in
    subst (λ w. R w y) e (subst (R z) (get_or_from_slice_get xs j y y q) (each_at (R z) xs j y s.0 k))
sorted_at R (z ∷ xs) (suc i) zero x y s p q lt = absurd (omega arith)
sorted_at R (z ∷ xs) (suc i) (suc j) x y s p q lt = sorted_at R xs i j x y s.1 p q (omega arith)

module _ (n : ℕ) (f g : ℕ → ℕ → Bool) where
  abbrev labels : List ℕ
  labels = labels_of f n

  member : (t a : ℕ) → a < n → label labels a ≡ t → is_in (class_of labels n t) a ≡ true
  member t a la s = has_gather (nat_eq a) (member_at labels t) 0 n a (omega arith) (omega arith) (has_only (nat_eq a) (has_label labels t a) a (is_number (label labels a) t s) (own a))

  each_member : (t : ℕ) → Each (λ x. (x < n) × (label labels x ≡ t)) (class_of labels n t)
  each_member t = each_gather (λ x. (x < n) × (label labels x ≡ t)) (member_at labels t) 0 n (λ a lo hi.
      each_only (λ x. (x < n) × (label labels x ≡ t)) (has_label labels t a) a (λ e. (omega arith, same_number (label labels a) t e)))

  inside : (t a : ℕ) → is_in (class_of labels n t) a ≡ true → (a < n) × (label labels a ≡ t)
  inside t a m =
      let r = has_each (λ x. (x < n) × (label labels x ≡ t)) (nat_eq a) (class_of labels n t) (each_member t) m in
      subst (λ (k : ℕ). (k < n) × (label labels k ≡ t)) (sym (same_number a r.0 r.2)) r.1

  class_ascends : (t : ℕ) → in_order (is_below n) comes_before (class_of labels n t) ≡ true
  class_ascends t = ordered (is_below n) comes_before (class_of labels n t)
      (each_gather (λ x. is_below n x ≡ true) (member_at labels t) 0 n (λ a lo hi. each_only (λ x. is_below n x ≡ true) (has_label labels t a) a (λ e. grind (arith, nat_tests, hi))))
      (sorted_gather comes_before (member_at labels t) 0 n (λ a. sorted_only comes_before (has_label labels t a) a)
      (λ k l lt. each_only (λ x. Each (λ y. comes_before x y ≡ true) (member_at labels t l)) (has_label labels t k) k
      (λ e. each_only (λ y. comes_before k y ≡ true) (has_label labels t l) l (λ u. grind (arith, nat_tests, lt)))))

  -- what is met
  met : (t : ℕ) (inner : Bool) → meets g labels n t inner ≡ true → (a : ℕ) × (b : ℕ) × (a < n) × (b < n) × (label labels b ≡ t) × (agree (has_label labels t a) inner ≡ true) × (g a b ≡ true)
  met t inner e =
      let r = any_found (meets_row g labels n t inner) 0 n e in
      let s = and_parts (has_label labels t r.0) (any_from (meets_at g labels t inner r.0) 0 n) r.3 in
      let u = any_found (meets_at g labels t inner r.0) 0 n s.1 in
      let w = and_parts (agree (has_label labels t u.0) inner) (g u.0 r.0) u.3 in
      let hi = r.2 in let hj = u.2 in
      (u.0, r.0, omega arith, omega arith, same_number (label labels r.0) t s.0, w.0, w.1)

  meeting : (t : ℕ) (inner : Bool) (a b : ℕ) → a < n → b < n → label labels b ≡ t → agree (has_label labels t a) inner ≡ true → g a b ≡ true → meets g labels n t inner ≡ true
  meeting t inner a b la lb s e d = any_true (meets_row g labels n t inner) 0 n b (omega arith) (omega arith)
      (rw (is_number (label labels b) t s) (any_true (meets_at g labels t inner b) 0 n a (omega arith) (omega arith) (rw (e, d) refl)))

  joined_in : (t u a : ℕ) → is_in (class_of labels n t) u ≡ true → a < n → (is_in (class_of labels n t) a ≡ true) ↔ AreJoined n f u a
  joined_in t u a m la =
      let p = inside t u m in
      (λ k. (labels_join n f u a p.0 la).0 (p.1 ∙ sym (inside t a k).1), λ j. member t a la (sym ((labels_join n f u a p.0 la).1 j) ∙ p.1))

  kept_is : (t : ℕ) → t < n → is_kept g labels n t ≡ true → IsKeptClass n f g (class_of labels n t)
  kept_is t lt e =
      let p = and_parts (has_label labels t t && not (meets g labels n t true)) (meets g labels n t false) e in
      let q = and_parts (has_label labels t t) (not (meets g labels n t true)) p.0 in
      let w = met t false p.1 in
      record {
        ascending = class_ascends t;
        whole = λ u a m la. joined_in t u a m la;
        apart = λ a b ma mb. false_from_ne_true (g a b) (λ d.
            let x = inside t a ma in
            let y = inside t b mb in
            not_both (meets g labels n t true) (meeting t true a b x.0 y.0 y.1 (rw (is_number (label labels a) t x.1) refl) d) (not-true (meets g labels n t true) q.1));
        entered = (w.0, w.1, w.2, false_from_ne_true (is_in (class_of labels n t) w.0) (λ m. outside (has_label labels t w.0) w.5 (is_number (label labels w.0) t (inside t w.0 m).1)), member t w.1 w.3 w.4, w.6);
      }
    where
      outside : (b : Bool) → agree b false ≡ true → b ≡ true → ⊥
      outside true e h = cc
      outside false e h = cc

  pub all_kept : Each (IsKeptClass n f g) (kept_classes n f g)
  all_kept = each_gather (IsKeptClass n f g) (class_at g labels n) 0 n (λ t lo hi. each_only (IsKeptClass n f g) (is_kept g labels n t) (class_of labels n t) (λ e. kept_is t (omega arith) e))

  pub listed_kept : (c : List ℕ) → IsKeptClass n f g c → Contains (kept_classes n f g) c
  listed_kept c h =
      let w = h.entered in
      let a = w.0 in
      let b = w.1 in
      let lb = in_below n c h.ascending b w.4 in
      let t = label labels b in
      let low = (labelled n f).low b lb in
      let lt : t < n = omega arith in
      let to : (x : ℕ) → is_in c x ≡ true → is_in (class_of labels n t) x ≡ true = λ x m. (let lx = in_below n c h.ascending x m in
      member t x lx (sym ((labels_join n f b x lb lx).1 ((h.whole b x w.4 lx).0 m)))) in
      let from : (x : ℕ) → is_in (class_of labels n t) x ≡ true → is_in c x ≡ true = λ x m. (let p = inside t x m in
      (h.whole b x w.4 p.0).1 ((labels_join n f b x lb p.0).0 (sym p.1))) in
      let same = ascending_same n c (class_of labels n t) h.ascending (class_ascends t) to from in
      let leads_class : has_label labels t t ≡ true = is_number (label labels t) t ((labelled n f).own b lb) in
      let none : meets g labels n t true ≡ false = false_from_ne_true (meets g labels n t true) (λ e. (let v = met t true e in
      not_both (g v.0 v.1) v.6 (h.apart v.0 v.1 (from v.0 (member t v.0 v.2 (same_number (label labels v.0) t (inner (has_label labels t v.0) v.5)))) (from v.1 (member t v.1 v.3 v.4))))) in
      let away : has_label labels t a ≡ false = false_from_ne_true (has_label labels t a) (λ e. not_both (is_in c a) (from a (member t a w.2 (same_number (label labels a) t e))) w.3) in
      let some : meets g labels n t false ≡ true = meeting t false a b w.2 lb refl (rw away refl) w.5 in
      let kept : is_kept g labels n t ≡ true = rw (leads_class, none, some) refl in
      subst (λ (d : List ℕ). Contains (kept_classes n f g) d) (sym same)
      (contains_gather (class_at g labels n) 0 n t (class_of labels n t) (omega arith) (omega arith) (contains_only (is_kept g labels n t) (class_of labels n t) kept))
    where
      inner : (x : Bool) → agree x true ≡ true → x ≡ true
      inner true e = refl
      inner false e = absurd (cc e)

  pub kept_exactly : (c : List ℕ) → Contains (kept_classes n f g) c ↔ IsKeptClass n f g c
  kept_exactly c = (λ h. each_contains (IsKeptClass n f g) (kept_classes n f g) c all_kept h, listed_kept c)

  sorted_from : (i k : ℕ) → i + k ≤ n → SortedBy BeginsBelow (gather (class_at g labels n) i k)
  sorted_from i zero le = tt
  sorted_from i (suc k) le = go (is_kept g labels n i) refl (sorted_from (i + 1) k (omega arith))
    where
      go : (b : Bool) → is_kept g labels n i ≡ b → SortedBy BeginsBelow (gather (class_at g labels n) (i + 1) k) → SortedBy BeginsBelow (only_if b (class_of labels n i) ++ gather (class_at g labels n) (i + 1) k)
      go false e s = s
      go true e s =
          let p = and_parts (has_label labels i i && not (meets g labels n i true)) (meets g labels n i false) e in
          let q = and_parts (has_label labels i i) (not (meets g labels n i true)) p.0 in
          let mine = member i i (omega arith) (same_number (label labels i) i q.0) in (
            each_gather (BeginsBelow (class_of labels n i)) (class_at g labels n) (i + 1) k (λ l lo hi.
                each_only (BeginsBelow (class_of labels n i)) (is_kept g labels n l) (class_of labels n l) (λ u. (
                  i,
                  mine,
                  λ b m.
                      (let r = inside l b m in let low = (labelled n f).low b r.0 in let same = r.1 in omega (arith, low, same, lo)),
                ))),
            s,
          )

  pub by_least : (i j : ℕ) (c d : List ℕ) → slice_get (kept_classes n f g) i ≡ Some c → slice_get (kept_classes n f g) j ≡ Some d → i < j → BeginsBelow c d
  by_least i j c d p q lt = sorted_at BeginsBelow (kept_classes n f g) i j c d (sorted_from 0 n (omega arith)) p q lt
