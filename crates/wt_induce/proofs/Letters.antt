-- The letter of an induced partition at a point, by the labels of the regions that hold the point and of those that hold it moved.
use Rattle.std.proofs.Common.{arith, ◌≡◌, ℕ, List, [], ◌∷◌, ◌++◌, map, Bool, true, false, nat_eq, cond, Some, slice_get, refl, sym, ap, ◌∙◌, inl, inr}
use Rattle.wt_grid.specs.declared.image.Image.TheVariants.{One as Single, Two as Double}
use Rattle.wt_grid.specs.declared.image.Image.{Image}
use Rattle.std.specs.List.{flat_map, list_all}
use Rattle.std.proofs.lemmas.Bool.Decides.{nat_tests}
use Rattle.wt_torus.specs.declared.letter.Letter.TheVariants.{One as Only, Doubled}
use Rattle.wt_torus.specs.Letters.{only_label, those}
use Rattle.wt_induce.proofs.Numbers.{Each, each_more, flag}

-- ---- those that pass

pub those_append : {A B : Type 0} (f : A → B) (p : A → Bool) (xs ys : List A) → those f p (xs ++ ys) ≡ those f p xs ++ those f p ys
those_append f p [] ys = refl
those_append f p (x ∷ xs) ys = elim (flag (p x)) [
  | inl e ↦ rw e (ap (λ (r : List _). f x ∷ r) (those_append f p xs ys))
  | inr e ↦ rw e (those_append f p xs ys)
]

pub those_map : {A B C : Type 0} (f : B → C) (p : B → Bool) (g : A → B) (xs : List A) → those f p (map g xs) ≡ those (λ x. f (g x)) (λ x. p (g x)) xs
those_map f p g [] = refl
those_map f p g (x ∷ xs) = elim (flag (p (g x))) [
  | inl e ↦ rw e (ap (λ (r : List _). f (g x) ∷ r) (those_map f p g xs))
  | inr e ↦ rw e (those_map f p g xs)
]

pub those_none : {A B : Type 0} (f : A → B) (p : A → Bool) (xs : List A) → ((x : A) → p x ≡ false) → those f p xs ≡ []
those_none f p [] h = refl
those_none f p (x ∷ xs) h = rw (h x) (those_none f p xs h)

pub those_same : {A B : Type 0} (f : A → B) (p q : A → Bool) (xs : List A) → ((x : A) → p x ≡ q x) → those f p xs ≡ those f q xs
those_same f p q [] h = refl
those_same f p q (x ∷ xs) h = elim (flag (q x)) [
  | inl e ↦ rw (h x ∙ e, e) (ap (λ (r : List _). f x ∷ r) (those_same f p q xs h))
  | inr e ↦ rw (h x ∙ e, e) (those_same f p q xs h)
]

pub those_out : {A B C : Type 0} (h : B → C) (f : A → B) (p : A → Bool) (xs : List A) → those (λ x. h (f x)) p xs ≡ map h (those f p xs)
those_out h f p [] = refl
those_out h f p (x ∷ xs) = elim (flag (p x)) [
  | inl e ↦ rw e (ap (λ (r : List _). h (f x) ∷ r) (those_out h f p xs))
  | inr e ↦ rw e (those_out h f p xs)
]

-- of elements that are kept and changed, where what passes at last was kept
pub those_those : {A B C : Type 0} (f : B → C) (p : B → Bool) (g : A → B) (q : A → Bool) (f' : A → C) (p' : A → Bool) (xs : List A)
    → ((x : A) → f (g x) ≡ f' x) → ((x : A) → p (g x) ≡ p' x) → ((x : A) → p' x ≡ true → q x ≡ true) → those f p (those g q xs) ≡ those f' p' xs
those_those f p g q f' p' [] e h k = refl
those_those f p g q f' p' (x ∷ xs) e h k = elim (flag (p' x)) [
  | inl t ↦ rw (k x t, t) (rw (h x ∙ t, e x) (ap (λ (r : List _). f' x ∷ r) (those_those f p g q f' p' xs e h k)))
  | inr t ↦ elim (flag (q x)) [
    | inl s ↦ rw (s, t) (rw (h x ∙ t) (those_those f p g q f' p' xs e h k))
    | inr s ↦ rw (s, t) (those_those f p g q f' p' xs e h k)
  ]
]

pub each_those : {A B : Type 0} (P : B → Type 0) (f : A → B) (p : A → Bool) (xs : List A) → Each P (map f xs) → Each P (those f p xs)
each_those P f p [] h = tt
each_those P f p (x ∷ xs) h = elim (flag (p x)) [
  | inl e ↦ rw e (h.0, each_those P f p xs h.1)
  | inr e ↦ rw e (each_those P f p xs h.1)
]

-- ---- exactly one label

-- the element is there, and no other
abbrev pub IsOnly : {A : Type 0} → A → List A → Type 0
IsOnly a [] = ⊥
IsOnly a (x ∷ xs) = (x ≡ a) × Each (λ b. b ≡ a) xs

all_equal : (a : ℕ) (xs : List ℕ) → list_all (nat_eq a) xs ≡ true → Each (λ b. b ≡ a) xs
all_equal a [] e = tt
all_equal a (x ∷ xs) e = elim (flag (nat_eq a x)) [
  | inl t ↦ (let s : x ≡ a = grind (arith, nat_tests) in s, all_equal a xs (rw t at e))
  | inr t ↦ absurd (let c : false ≡ true = rw t at e in cc)
]

equal_all : (a : ℕ) (xs : List ℕ) → Each (λ b. b ≡ a) xs → list_all (nat_eq a) xs ≡ true
equal_all a [] e = refl
equal_all a (x ∷ xs) e = let t : nat_eq a x ≡ true = (let s : x ≡ a = e.0 in grind (arith, nat_tests)) in rw t (equal_all a xs e.1)

one_of : (a l : ℕ) (b : Bool) → cond b (Only a) Doubled ≡ Only l → (b ≡ true) × (a ≡ l)
one_of a l true e = (refl, cc)
one_of a l false e = absurd cc

pub only_is : (xs : List ℕ) (l : ℕ) → only_label xs ≡ Only l → IsOnly l xs
only_is [] l e = absurd cc
only_is (x ∷ xs) l e =
    let h = one_of x l (list_all (nat_eq x) xs) e in
    (h.1, each_more (λ b. b ≡ x) (λ b. b ≡ l) xs (λ b s. s ∙ h.1) (all_equal x xs h.0))

pub is_only : (xs : List ℕ) (l : ℕ) → IsOnly l xs → only_label xs ≡ Only l
is_only [] l h = absurd h
is_only (x ∷ xs) l h = rw (equal_all x xs (each_more (λ b. b ≡ l) (λ b. b ≡ x) xs (λ b s. s ∙ sym h.0) h.1)) (ap Only h.0)

-- ---- numbers of images

module _ (images : List Image) (number : Image → ℕ) where
  abbrev pub IsKnown : Image → Type 0
  IsKnown x = slice_get images (number x) ≡ Some x

  same_number : (x : Image) (l : ℕ) (xs : List Image) → slice_get images l ≡ Some x → Each IsKnown xs → Each (λ b. b ≡ l) (map number xs) → Each (λ y. y ≡ x) xs
  same_number x l [] s k e = tt
  same_number x l (y ∷ ys) s k e = (
    let h : Some y ≡ Some x = sym k.0 ∙ (ap (slice_get images) e.0 ∙ s) in cc,
    same_number x l ys s k.1 e.1,
  )

  -- one number is that of one image
  pub only_image : (xs : List Image) (l : ℕ) → Each IsKnown xs → only_label (map number xs) ≡ Only l → (x : Image) × (slice_get images l ≡ Some x) × IsOnly x xs
  only_image [] l k e = absurd cc
  only_image (x ∷ xs) l k e =
      let h = only_is (number x ∷ map number xs) l e in
      let s : slice_get images l ≡ Some x = ap (slice_get images) (sym h.0) ∙ k.0 in
      (x, s, (refl, same_number x l xs s k.1 h.1))

  numbers : (x : Image) (xs : List Image) → Each (λ y. y ≡ x) xs → Each (λ b. b ≡ number x) (map number xs)
  numbers x [] e = tt
  numbers x (y ∷ ys) e = (ap number e.0, numbers x ys e.1)

  pub image_only : (xs : List Image) (x : Image) → IsOnly x xs → only_label (map number xs) ≡ Only (number x)
  image_only [] x h = absurd h
  image_only (y ∷ ys) x h = is_only (number y ∷ map number ys) (number x) (ap number h.0, numbers x ys h.1)

-- ---- single images, and pairs

abbrev pub singles : List ℕ → List Image
singles as' = map Single as'

abbrev pub pairs : List ℕ → List ℕ → List Image
pairs as' bs = flat_map (λ a. map (Double a) bs) as'

each_one : (a : ℕ) (xs : List ℕ) → Each (λ y. y ≡ Single a) (singles xs) → Each (λ b. b ≡ a) xs
each_one a [] e = tt
each_one a (x ∷ xs) e = (let h = e.0 in cc, each_one a xs e.1)

one_each : (a : ℕ) (xs : List ℕ) → Each (λ b. b ≡ a) xs → Each (λ y. y ≡ Single a) (singles xs)
one_each a [] e = tt
one_each a (x ∷ xs) e = (ap Single e.0, one_each a xs e.1)

pub only_single : (y : Image) (xs : List ℕ) → IsOnly y (singles xs) → (a : ℕ) × (y ≡ Single a) × (only_label xs ≡ Only a)
only_single y [] h = absurd h
only_single y (x ∷ xs) h = (x, sym h.0, is_only (x ∷ xs) x (refl, each_one x xs (rw (sym h.0) at h.1)))

pub single_only : (a : ℕ) (xs : List ℕ) → only_label xs ≡ Only a → IsOnly (Single a) (singles xs)
single_only a [] e = absurd cc
single_only a (x ∷ xs) e = let h = only_is (x ∷ xs) a e in (ap Single h.0, one_each a xs h.1)

each_append : {A : Type 0} (P : A → Type 0) (xs ys : List A) → Each P xs → Each P ys → Each P (xs ++ ys)
each_append P [] ys h k = k
each_append P (x ∷ xs) ys h k = (h.0, each_append P xs ys h.1 k)

append_each : {A : Type 0} (P : A → Type 0) (xs ys : List A) → Each P (xs ++ ys) → Each P xs × Each P ys
append_each P [] ys h = (tt, h)
append_each P (x ∷ xs) ys h = let r = append_each P xs ys h.1 in ((h.0, r.0), r.1)

each_second : (a c b : ℕ) (bs : List ℕ) → Each (λ y. y ≡ Double a b) (map (Double c) bs) → Each (λ d. d ≡ b) bs
each_second a c b [] e = tt
each_second a c b (x ∷ xs) e = (let h = e.0 in cc, each_second a c b xs e.1)

second_each : (a c b : ℕ) (bs : List ℕ) → c ≡ a → Each (λ d. d ≡ b) bs → Each (λ y. y ≡ Double a b) (map (Double c) bs)
second_each a c b [] s e = tt
second_each a c b (x ∷ xs) s e = (let h = e.0 in cc, second_each a c b xs s e.1)

each_first : (a b d : ℕ) (as' bs : List ℕ) → Each (λ y. y ≡ Double a b) (flat_map (λ c. map (Double c) (d ∷ bs)) as') → Each (λ c. c ≡ a) as'
each_first a b d [] bs e = tt
each_first a b d (x ∷ xs) bs e = (let h = e.0 in cc, each_first a b d xs bs (append_each (λ y. y ≡ Double a b) (map (Double x) bs) (flat_map (λ c. map (Double c) (d ∷ bs)) xs) e.1).1)

first_each : (a b : ℕ) (as' bs : List ℕ) → Each (λ c. c ≡ a) as' → Each (λ d. d ≡ b) bs → Each (λ y. y ≡ Double a b) (flat_map (λ c. map (Double c) bs) as')
first_each a b [] bs e f = tt
first_each a b (x ∷ xs) bs e f = each_append (λ y. y ≡ Double a b) (map (Double x) bs) (flat_map (λ c. map (Double c) bs) xs) (second_each a x b bs e.0 f) (first_each a b xs bs e.1 f)

no_seconds : (as' : List ℕ) → pairs as' [] ≡ []
no_seconds [] = refl
no_seconds (a ∷ as') = no_seconds as'

pub only_pair : (y : Image) (as' bs : List ℕ) → IsOnly y (pairs as' bs) → (a b : ℕ) × (y ≡ Double a b) × (only_label as' ≡ Only a) × (only_label bs ≡ Only b)
only_pair y [] bs h = absurd h
only_pair y (x ∷ xs) [] h = absurd (let e = no_seconds (x ∷ xs) in let c : IsOnly y [] = rw e at h in c)
only_pair y (x ∷ xs) (z ∷ zs) h =
    let all : Each (λ u. u ≡ Double x z) (map (Double x) zs ++ flat_map (λ c. map (Double c) (z ∷ zs)) xs) = rw (sym h.0) at h.1 in
    let parts = append_each (λ u. u ≡ Double x z) (map (Double x) zs) (flat_map (λ c. map (Double c) (z ∷ zs)) xs) all in
    (x, z, sym h.0, is_only (x ∷ xs) x (refl, each_first x z z xs zs parts.1), is_only (z ∷ zs) z (refl, each_second x x z zs parts.0))

pub pair_only : (a b : ℕ) (as' bs : List ℕ) → only_label as' ≡ Only a → only_label bs ≡ Only b → IsOnly (Double a b) (pairs as' bs)
pair_only a b [] bs e f = absurd cc
pair_only a b (x ∷ xs) [] e f = absurd cc
pair_only a b (x ∷ xs) (z ∷ zs) e f =
    let h = only_is (x ∷ xs) a e in
    let k = only_is (z ∷ zs) b f in
    let p : x ≡ a = h.0 in
    let q : z ≡ b = k.0 in
    (cc, each_append (λ y. y ≡ Double a b) (map (Double x) zs) (flat_map (λ c. map (Double c) (z ∷ zs)) xs) (second_each a x b zs p k.1) (first_each a b xs (z ∷ zs) h.1 (q, k.1)))
