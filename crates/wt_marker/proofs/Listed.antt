-- Lists that are put together: what each element is, in which order they stand, and what is found in them.
use Rattle.std.proofs.Common.{arith, ◌≡◌, ℕ, zero, suc, ◌+◌, ◌<◌, ◌≤◌, Bool, true, false, List, [], ◌∷◌, ◌++◌, length, map, take, get_or, None, Some, refl, sym, inl, inr, slice_get, subst}
use Rattle.std.proofs.lemmas.Option.{slice_get_within, get_or_from_slice_get}
use Rattle.std.specs.List.{list_any, list_all, find}
use Rattle.std.proofs.lemmas.Bool.{cases_lt, or_cases, or_left, or_right}
use Rattle.wt_grid.specs.Order.{in_order}
use Rattle.wt_marker.specs.Gather.{gather, only_if, any_from}

-- each element has the property
abbrev pub Each : {A : Type 0} → (A → Type 0) → List A → Type 0
Each P [] = Unit {0}
Each P (x ∷ xs) = P x × Each P xs

-- each element comes before all behind it
abbrev pub Sorted : {A : Type 0} → (A → A → Bool) → List A → Type 0
Sorted before [] = Unit {0}
Sorted before (x ∷ xs) = Each (λ y. before x y ≡ true) xs × Sorted before xs

module _ {A : Type 0} where
  pub each_append : (P : A → Type 0) (xs ys : List A) → Each P xs → Each P ys → Each P (xs ++ ys)
  each_append P [] ys h k = k
  each_append P (x ∷ xs) ys h k = (h.0, each_append P xs ys h.1 k)

  pub each_imp : (P Q : A → Type 0) (xs : List A) → ((x : A) → P x → Q x) → Each P xs → Each Q xs
  each_imp P Q [] f h = tt
  each_imp P Q (x ∷ xs) f h = (f x h.0, each_imp P Q xs f h.1)

  pub each_of : (P : A → Type 0) (xs : List A) → ((x : A) → P x) → Each P xs
  each_of P [] f = tt
  each_of P (x ∷ xs) f = (f x, each_of P xs f)

  pub each_gather : (P : A → Type 0) (f : ℕ → List A) (i n : ℕ) → ((k : ℕ) → i ≤ k → k < i + n → Each P (f k)) → Each P (gather f i n)
  each_gather P f i zero h = tt
  each_gather P f i (suc n) h = each_append P (f i) (gather f (i + 1) n) (h i (omega arith) (omega arith)) (each_gather P f (i + 1) n (λ k lo hi. h k (omega arith) (omega arith)))

  pub each_only : (P : A → Type 0) (b : Bool) (x : A) → (b ≡ true → P x) → Each P (only_if b x)
  each_only P true x h = (h refl, tt)
  each_only P false x h = tt

  pub each_at : (P : A → Type 0) (xs : List A) (i : ℕ) (d : A) → Each P xs → i < length xs → P (get_or xs i d)
  each_at P [] i d h lt = absurd (omega arith)
  each_at P (x ∷ xs) zero d h lt = h.0
  each_at P (x ∷ xs) (suc i) d h lt = each_at P xs i d h.1 (omega arith)

  pub each_get : (P : A → Type 0) (xs : List A) (i : ℕ) (x : A) → Each P xs → slice_get xs i ≡ Some x → P x
  each_get P xs i x h e = subst P (get_or_from_slice_get xs i x x e) (each_at P xs i x h (slice_get_within xs i x e))

  each_all : (P : ℕ → A → Type 0) (C : ℕ → Type 0) (xs : List A) → ((l : ℕ) → C l → Each (P l) xs) → Each (λ x. (l : ℕ) → C l → P l x) xs
  each_all P C [] h = tt
  each_all P C (x ∷ xs) h = (λ l c. (h l c).0, each_all P C xs (λ l c. (h l c).1))

  pub all_of_each : (p : A → Bool) (xs : List A) → Each (λ x. p x ≡ true) xs → list_all p xs ≡ true
  all_of_each p [] h = refl
  all_of_each p (x ∷ xs) h = rw (h.0, all_of_each p xs h.1) refl

  -- what is found

  pub has_each : (P : A → Type 0) (q : A → Bool) (xs : List A) → Each P xs → list_any q xs ≡ true → (x : A) × P x × (q x ≡ true)
  has_each P q [] h e = absurd cc
  has_each P q (x ∷ xs) h e = elim (or_cases (q x) (list_any q xs) e) [
    | inl t ↦ (x, h.0, t)
    | inr t ↦ has_each P q xs h.1 t
  ]

  pub find_each : (P : A → Type 0) (q : A → Bool) (xs : List A) (x : A) → Each P xs → find q xs ≡ Some x → P x × (q x ≡ true)
  find_each P q [] x h e = absurd cc
  find_each P q (y ∷ ys) x h e = go (q y) refl
      (λ k. find_each P q ys x h.1 k)
    where
      go : (b : Bool) → q y ≡ b → (find q ys ≡ Some x → P x × (q x ≡ true)) → P x × (q x ≡ true)
      go true t r = let s : Some y ≡ Some x = rw t at e in let same : y ≡ x = cc in rw (sym same) (h.0, t)
      go false t r = r (rw t at e)

  pub find_none : (q : A → Bool) (xs : List A) → Each (λ x. q x ≡ false) xs → find q xs ≡ None
  find_none q [] h = refl
  find_none q (x ∷ xs) h = rw h.0 (find_none q xs h.1)

  pub has_left : (q : A → Bool) (xs ys : List A) → list_any q xs ≡ true → list_any q (xs ++ ys) ≡ true
  has_left q [] ys e = absurd cc
  has_left q (x ∷ xs) ys e = elim (or_cases (q x) (list_any q xs) e) [
    | inl t ↦ or_left (q x) (list_any q (xs ++ ys)) t
    | inr t ↦ or_right (q x) (list_any q (xs ++ ys)) (has_left q xs ys t)
  ]

  pub has_right : (q : A → Bool) (xs ys : List A) → list_any q ys ≡ true → list_any q (xs ++ ys) ≡ true
  has_right q [] ys e = e
  has_right q (x ∷ xs) ys e = or_right (q x) (list_any q (xs ++ ys)) (has_right q xs ys e)

  pub has_only : (q : A → Bool) (b : Bool) (x : A) → b ≡ true → q x ≡ true → list_any q (only_if b x) ≡ true
  has_only q b x e t = rw (e, t) refl

  pub has_gather : (q : A → Bool) (f : ℕ → List A) (i n k : ℕ) → i ≤ k → k < i + n → list_any q (f k) ≡ true → list_any q (gather f i n) ≡ true
  has_gather q f i zero k lo hi e = absurd (omega arith)
  has_gather q f i (suc n) k lo hi e = elim (cases_lt i k) [
    | inl lt ↦ has_right q (f i) (gather f (i + 1) n) (has_gather q f (i + 1) n k (omega arith) (omega arith) e)
    | inr le ↦ has_left q (f i) (gather f (i + 1) n) (let same : i ≡ k = omega arith in rw same e)
  ]

  -- order

  pub sorted_append : (before : A → A → Bool) (xs ys : List A) → Sorted before xs → Sorted before ys → Each (λ x. Each (λ y. before x y ≡ true) ys) xs → Sorted before (xs ++ ys)
  sorted_append before [] ys s t h = t
  sorted_append before (x ∷ xs) ys s t h = (each_append (λ y. before x y ≡ true) xs ys s.0 h.0, sorted_append before xs ys s.1 t h.1)

  pub sorted_gather : (before : A → A → Bool) (f : ℕ → List A) (i n : ℕ) → ((k : ℕ) → Sorted before (f k))
      → ((k l : ℕ) → k < l → Each (λ x. Each (λ y. before x y ≡ true) (f l)) (f k)) → Sorted before (gather f i n)
  sorted_gather before f i zero s h = tt
  sorted_gather before f i (suc n) s h = sorted_append before (f i) (gather f (i + 1) n) (s i) (sorted_gather before f (i + 1) n s h)
      (each_imp (λ x. (l : ℕ) → i < l → Each (λ y. before x y ≡ true) (f l)) (λ x. Each (λ y. before x y ≡ true) (gather f (i + 1) n)) (f i)
      (λ x g. each_gather (λ y. before x y ≡ true) f (i + 1) n (λ k lo hi. g k (omega arith)))
      (each_all (λ l x. Each (λ y. before x y ≡ true) (f l)) (λ l. i < l) (f i) (λ l lt. h i l lt)))

  pub sorted_only : (before : A → A → Bool) (b : Bool) (x : A) → Sorted before (only_if b x)
  sorted_only before true x = (tt, tt)
  sorted_only before false x = tt

  pub ordered : (fits : A → Bool) (before : A → A → Bool) (xs : List A) → Each (λ x. fits x ≡ true) xs → Sorted before xs → in_order fits before xs ≡ true
  ordered fits before [] h s = refl
  ordered fits before (x ∷ []) h s = rw h.0 refl
  ordered fits before (x ∷ y ∷ ys) h s = rw (h.0, s.0.0, ordered fits before (y ∷ ys) h.1 s.1) refl

  -- an element comes once
  pub once : (before same : A → A → Bool) → ((x y : A) → before x y ≡ true → same y x ≡ false) → (xs : List A) (i : ℕ) (d : A) → Sorted before xs → i < length xs
      → list_any (same (get_or xs i d)) (take i xs) ≡ false
  once before same apart [] i d s lt = absurd (omega arith)
  once before same apart (x ∷ xs) zero d s lt = refl
  once before same apart (x ∷ xs) (suc i) d s lt =
      rw (apart x (get_or xs i d) (each_at (λ y. before x y ≡ true) xs i d s.0 (omega arith)), once before same apart xs i d s.1 (omega arith)) refl

pub each_map : {A B : Type 0} (P : B → Type 0) (f : A → B) (xs : List A) → Each (λ x. P (f x)) xs → Each P (map f xs)
each_map P f [] h = tt
each_map P f (x ∷ xs) h = (h.0, each_map P f xs h.1)

pub sorted_map : {A B : Type 0} (before : A → A → Bool) (after : B → B → Bool) (f : A → B) → ((x y : A) → before x y ≡ true → after (f x) (f y) ≡ true)
    → (xs : List A) → Sorted before xs → Sorted after (map f xs)
sorted_map before after f h [] s = tt
sorted_map before after f h (x ∷ xs) s = (each_map (λ z. after (f x) z ≡ true) f xs (each_imp (λ y. before x y ≡ true) (λ y. after (f x) (f y) ≡ true) xs (h x) s.0), sorted_map before after f h xs s.1)

pub has_map : {A B : Type 0} (p : A → Bool) (q : B → Bool) (f : A → B) → ((x : A) → p x ≡ true → q (f x) ≡ true) → (xs : List A) → list_any p xs ≡ true → list_any q (map f xs) ≡ true
has_map p q f h [] e = absurd cc
has_map p q f h (x ∷ xs) e = elim (or_cases (p x) (list_any p xs) e) [
  | inl t ↦ or_left (q (f x)) (list_any q (map f xs)) (h x t)
  | inr t ↦ or_right (q (f x)) (list_any q (map f xs)) (has_map p q f h xs t)
]

-- tests of numbers

pub any_true : (p : ℕ → Bool) (i n k : ℕ) → i ≤ k → k < i + n → p k ≡ true → any_from p i n ≡ true
any_true p i zero k lo hi e = absurd (omega arith)
any_true p i (suc n) k lo hi e = elim (cases_lt i k) [
  | inl lt ↦ or_right (p i) (any_from p (i + 1) n) (any_true p (i + 1) n k (omega arith) (omega arith) e)
  | inr le ↦ or_left (p i) (any_from p (i + 1) n) (let same : i ≡ k = omega arith in rw same e)
]

pub any_found : (p : ℕ → Bool) (i n : ℕ) → any_from p i n ≡ true → (k : ℕ) × (i ≤ k) × (k < i + n) × (p k ≡ true)
any_found p i zero e = absurd cc
any_found p i (suc n) e = elim (or_cases (p i) (any_from p (i + 1) n) e) [
  | inl t ↦ (i, omega arith, omega arith, t)
  | inr t ↦ let r = any_found p (i + 1) n t in let lo = r.1 in let hi = r.2 in (r.0, omega arith, omega arith, r.3)
]
