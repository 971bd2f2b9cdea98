-- The labels that joining gives: two tiles have one label exactly where dominoes join them, and it is the
-- least of them.
use Rattle.std.proofs.Common.{arith, ◌≡◌, ◌⊎◌, ◌↔◌, ℕ, zero, suc, ◌+◌, ◌<◌, ◌≤◌, max, min, Bool, true, false, nat_eq, List, [], ◌∷◌, length, refl, sym, ap, subst, ◌∙◌, inl, inr}
use Rattle.std.specs.List.{range_with_len}
use Rattle.std.proofs.lemmas.Bool.{cases_lt, or_cases, or_left, or_right}
use Rattle.std.proofs.lemmas.Bool.Decides.{nat_tests}
use Rattle.std.proofs.lemmas.List.FromFn.{length-range_with_len, get_or-range_with_len}
use Rattle.wt_marker.specs.Gather.{fold_from}
use Rattle.wt_marker.specs.Classes.{touches, IsWalk, AreJoined, label, instead, join, join_at, join_row, labels_of}
use Rattle.wt_marker.proofs.Joins.{map_at, length_mapped}

-- Joining.

module _ (n : ℕ) (f : ℕ → ℕ → Bool) where
  walks : (a b c : ℕ) (v w : List ℕ) → IsWalk n f a v b → IsWalk n f b w c → AreJoined n f a c
  walks a b c [] w h k = (w, subst (λ (x : ℕ). IsWalk n f x w c) (sym h) k)
  walks a b c (d ∷ v) w h k = let r = walks d b c v w h.2 k in (d ∷ r.0, (h.0, h.1, r.1))

  pub joined_trans : (a b c : ℕ) → AreJoined n f a b → AreJoined n f b c → AreJoined n f a c
  joined_trans a b c h k = walks a b c h.0 k.0 h.1 k.1

  pub joined_self : (a : ℕ) → AreJoined n f a a
  joined_self a = ([], refl)

  turned : (a b : ℕ) → touches f a b ≡ true → touches f b a ≡ true
  turned a b e = elim (or_cases (f a b) (f b a) e) [
    | inl t ↦ or_right (f b a) (f a b) t
    | inr t ↦ or_left (f b a) (f a b) t
  ]

  joined_one : (a b : ℕ) → b < n → touches f a b ≡ true → AreJoined n f a b
  joined_one a b lt e = (b ∷ [], (lt, e, refl))

  back : (a b : ℕ) (w : List ℕ) → a < n → IsWalk n f a w b → AreJoined n f b a
  back a b [] la h = subst (λ (x : ℕ). AreJoined n f x a) h (joined_self a)
  back a b (c ∷ w) la h = joined_trans b c a (back c b w h.0 h.2) (joined_one c a la (turned a c h.1))

  pub joined_sym : (a b : ℕ) → a < n → AreJoined n f a b → AreJoined n f b a
  joined_sym a b la h = back a b h.0 la h.1

-- Labels.

pub record IsLabelling (n : ℕ) (f : ℕ → ℕ → Bool) (labels : List ℕ) : Type 0 where
  pub size : length labels ≡ n
  pub low : (a : ℕ) → a < n → label labels a ≤ a
  pub own : (a : ℕ) → a < n → label labels (label labels a) ≡ label labels a
  pub joined : (a : ℕ) → a < n → AreJoined n f (label labels a) a

-- the dominoes before b of row a have their tiles in one class
abbrev pub AreCovered : ℕ → (ℕ → ℕ → Bool) → List ℕ → ℕ → ℕ → Type 0
AreCovered n f labels a b = (c d : ℕ) → c < n → d < n → f c d ≡ true → (c < a) ⊎ ((c ≡ a) × (d < b)) → label labels c ≡ label labels d

new_label : (old new l : ℕ) → l ≡ old → instead old new l ≡ new
new_label old new l e = let t : nat_eq l old ≡ true = grind (arith, nat_tests, e) in rw t refl

old_label : (old new l : ℕ) → (l ≡ old → ⊥) → instead old new l ≡ l
old_label old new l h = go (nat_eq l old) refl
  where
    go : (b : Bool) → nat_eq l old ≡ b → instead old new l ≡ l
    go true t = absurd (h (grind (arith, nat_tests, t)))
    go false t = rw t refl

same_or_not : (a b : ℕ) → (a ≡ b) ⊎ (a ≡ b → ⊥)
same_or_not a b = elim (cases_lt a b) [
  | inl lt ↦ inr (λ e. omega (arith, e, lt))
  | inr le ↦ elim (cases_lt b a) [
    | inl lt ↦ inr (λ e. omega (arith, e, lt))
    | inr ge ↦ inl (omega arith)
  ]
]

low_first : (x y : ℕ) → instead (max x y) (min x y) x ≡ min x y
low_first x y = elim (cases_lt x y) [
  | inl lt ↦ let e = old_label (max x y) (min x y) x (λ e. omega (arith, e, lt)) in e ∙ omega arith
  | inr le ↦ new_label (max x y) (min x y) x (omega arith)
]

low_second : (x y : ℕ) → instead (max x y) (min x y) y ≡ min x y
low_second x y = elim (cases_lt y x) [
  | inl lt ↦ let e = old_label (max x y) (min x y) y (λ e. omega (arith, e, lt)) in e ∙ omega arith
  | inr le ↦ new_label (max x y) (min x y) y (omega arith)
]

-- what holds of both numbers holds of the lesser and of the greater
of_both : (P : ℕ → Type 0) (x y : ℕ) → P x → P y → P (min x y) × P (max x y)
of_both P x y p q = elim (cases_lt x y) [
  | inl lt ↦ let e : x ≡ min x y = omega arith in let g : y ≡ max x y = omega arith in (subst P e p, subst P g q)
  | inr le ↦ let e : y ≡ min x y = omega arith in let g : x ≡ max x y = omega arith in (subst P e q, subst P g p)
]

module _ (n : ℕ) (f : ℕ → ℕ → Bool) (labels : List ℕ) (h : IsLabelling n f labels) (a b : ℕ) (la : a < n) (lb : b < n) (e : f a b ≡ true) where
  abbrev x : ℕ
  x = label labels a

  abbrev y : ℕ
  y = label labels b

  abbrev relabelled : ℕ → ℕ
  relabelled = instead (max x y) (min x y)

  pub join_label : (c : ℕ) → c < n → label (join labels a b) c ≡ relabelled (label labels c)
  join_label c lc = map_at relabelled labels c 0 0 (omega (arith, h.size, lc))

  -- a label that is new or old
  relabels : (P : ℕ → Type 0) (l : ℕ) → (l ≡ max x y → P (min x y)) → ((l ≡ max x y → ⊥) → P l) → P (relabelled l)
  relabels P l new old = elim (same_or_not l (max x y)) [
    | inl s ↦ subst P (sym (new_label (max x y) (min x y) l s)) (new s)
    | inr o ↦ subst P (sym (old_label (max x y) (min x y) l o)) (old o)
  ]

  small : (c : ℕ) → c < n → label labels c < n
  small c lc = let le = h.low c lc in omega arith

  lesser : (min x y < n) × (label labels (min x y) ≡ min x y)
  lesser = ((of_both (λ k. k < n) x y (small a la) (small b lb)).0, (of_both (λ k. label labels k ≡ k) x y (h.own a la) (h.own b lb)).0)

  -- the two labels are joined
  linked : AreJoined n f (min x y) (max x y)
  linked =
      let ab : AreJoined n f a b = (b ∷ [], (lb, or_left (f a b) (f b a) e, refl)) in
      let xa = h.joined a la in
      let yb = h.joined b lb in
      let by = joined_sym n f y b (small b lb) yb in
      let xy = joined_trans n f x a y xa (joined_trans n f a b y ab by) in
      let yx = joined_sym n f x y (small a la) xy in
      elim (cases_lt x y) [
        | inl lt ↦ let p : x ≡ min x y = omega arith in let q : y ≡ max x y = omega arith in subst (λ (k : ℕ). AreJoined n f k (max x y)) p (subst (λ (k : ℕ). AreJoined n f x k) q xy)
        | inr le ↦ let p : y ≡ min x y = omega arith in let q : x ≡ max x y = omega arith in subst (λ (k : ℕ). AreJoined n f k (max x y)) p (subst (λ (k : ℕ). AreJoined n f y k) q yx)
      ]

  pub join_labelling : IsLabelling n f (join labels a b)
  join_labelling = record {
    size = length_mapped relabelled labels ∙ h.size;
    low = λ c lc. subst (λ (k : ℕ). k ≤ c) (sym (join_label c lc)) (relabels (λ k. k ≤ c) (label labels c) (λ s. let le = h.low c lc in omega (arith, s, le)) (λ o. h.low c lc));
    own = λ c lc. subst (λ (k : ℕ). label (join labels a b) k ≡ k) (sym (join_label c lc))
        (relabels (λ k. label (join labels a b) k ≡ k) (label labels c)
        (λ s. join_label (min x y) lesser.0 ∙ relabels (λ k. k ≡ min x y) (label labels (min x y)) (λ t. refl) (λ o. lesser.1))
        (λ o. join_label (label labels c) (small c lc) ∙ (ap relabelled (h.own c lc) ∙ old_label (max x y) (min x y) (label labels c) o)));
    joined = λ c lc. subst (λ (k : ℕ). AreJoined n f k c) (sym (join_label c lc))
        (relabels (λ k. AreJoined n f k c) (label labels c)
        (λ s. joined_trans n f (min x y) (max x y) c linked (subst (λ (k : ℕ). AreJoined n f k c) s (h.joined c lc)))
        (λ o. h.joined c lc));
  }

  -- tiles in one class stay so
  pub join_keeps : (c d : ℕ) → c < n → d < n → label labels c ≡ label labels d → label (join labels a b) c ≡ label (join labels a b) d
  join_keeps c d lc ld s = join_label c lc ∙ (ap relabelled s ∙ sym (join_label d ld))

  -- and the two come into one
  pub join_links : label (join labels a b) a ≡ label (join labels a b) b
  join_links = join_label a la ∙ (low_first x y ∙ (sym (low_second x y) ∙ sym (join_label b lb)))

-- One pair, one row, all rows.

-- what holds before each step holds in the end
pub folded : {A : Type 0} (P : ℕ → A → Type 0) (f : A → ℕ → A) (i n m : ℕ) (x : A) → i + n ≤ m → ((k : ℕ) (y : A) → k < m → P k y → P (k + 1) (f y k)) → P i x → P (i + n) (fold_from f x i n)
folded P f i zero m x le step h = let e : i ≡ i + 0 = omega arith in subst (λ (k : ℕ). P k x) e h
folded P f i (suc n) m x le step h =
    let e : i + 1 + n ≡ i + suc n = omega arith in
    subst (λ (k : ℕ). P k (fold_from f (f x i) (i + 1) n)) e (folded P f (i + 1) n m (f x i) (omega arith) step (step i x (omega arith) h))

module _ (n : ℕ) (f : ℕ → ℕ → Bool) where
  abbrev Right : ℕ → ℕ → List ℕ → Type 0
  Right a b labels = IsLabelling n f labels × AreCovered n f labels a b

  one_pair : (a : ℕ) → a < n → (b : ℕ) (labels : List ℕ) → b < n → Right a b labels → Right a (b + 1) (join_at f a labels b)
  one_pair a la b labels lb r = go (f a b) refl
    where
      before : (d : ℕ) → d < b + 1 → (d < b) ⊎ (d ≡ b)
      before d lt = elim (cases_lt d b) [ inl l ↦ inl l | inr le ↦ inr (omega arith) ]

      go : (t : Bool) → f a b ≡ t → Right a (b + 1) (join_at f a labels b)
      go true t = rw t (
        join_labelling n f labels r.0 a b la lb t,
        λ c d lc ld e place. elim place [
          | inl lt ↦ join_keeps n f labels r.0 a b la lb t c d lc ld (r.1 c d lc ld e (inl lt))
          | inr s ↦ elim (before d s.1) [
            | inl lt ↦ join_keeps n f labels r.0 a b la lb t c d lc ld (r.1 c d lc ld e (inr (s.0, lt)))
            | inr g ↦ let p = join_links n f labels r.0 a b la lb t in rw (s.0, g) p
          ]
        ],
      )
      go false t = rw t (
        r.0,
        λ c d lc ld e place. elim place [
          | inl lt ↦ r.1 c d lc ld e (inl lt)
          | inr s ↦ elim (before d s.1) [
            | inl lt ↦ r.1 c d lc ld e (inr (s.0, lt))
            | inr g ↦ absurd (let p : f a b ≡ true = rw (s.0, g) at e in cc)
          ]
        ],
      )

  one_row : (a : ℕ) (labels : List ℕ) → a < n → Right a 0 labels → Right (a + 1) 0 (join_row f n labels a)
  one_row a labels la r =
      let g = folded (Right a) (join_at f a) 0 n n labels (omega arith) (λ b ls lb h. one_pair a la b ls lb h) r in (
        g.0,
        λ c d lc ld e place. elim place [
          | inl lt ↦ elim (cases_lt c a) [
            | inl less ↦ g.1 c d lc ld e (inl less)
            | inr le ↦ g.1 c d lc ld e (inr (omega arith, omega arith))
          ]
          | inr s ↦ let none = s.1 in absurd (omega arith)
        ],
      )

  at_first : (a : ℕ) → a < n → label (range_with_len 0 n) a ≡ a
  at_first a la = get_or-range_with_len 0 n a 0 la ∙ omega arith

  first_labels : Right 0 0 (range_with_len 0 n)
  first_labels = (
    record {
      size = length-range_with_len 0 n;
      low = λ a la. let s = at_first a la in omega (arith, s);
      own = λ a la. ap (label (range_with_len 0 n)) (at_first a la);
      joined = λ a la. subst (λ (k : ℕ). AreJoined n f k a) (sym (at_first a la)) (joined_self n f a);
    },
    λ c d lc ld e place. elim place [ inl lt ↦ absurd (omega arith) | inr s ↦ let lt = s.1 in absurd (omega arith) ],
  )

  all_rows : Right n 0 (labels_of f n)
  all_rows =
      let e : 0 + n ≡ n = omega arith in
      subst (λ (k : ℕ). Right k 0 (labels_of f n)) e (folded (λ a labels. Right a 0 labels) (join_row f n) 0 n n (range_with_len 0 n) (omega arith) (λ a ls la h. one_row a ls la h) first_labels)

  pub labelled : IsLabelling n f (labels_of f n)
  labelled = all_rows.0

  covered : (c d : ℕ) → c < n → d < n → f c d ≡ true → label (labels_of f n) c ≡ label (labels_of f n) d
  covered c d lc ld e = all_rows.1 c d lc ld e (inl lc)

  along_walk : (a b : ℕ) (w : List ℕ) → a < n → IsWalk n f a w b → label (labels_of f n) a ≡ label (labels_of f n) b
  along_walk a b [] la h = ap (label (labels_of f n)) h
  along_walk a b (c ∷ w) la h =
      let rest = along_walk c b w h.0 h.2 in
      elim (or_cases (f a c) (f c a) h.1) [
        | inl t ↦ covered a c la h.0 t ∙ rest
        | inr t ↦ sym (covered c a h.0 la t) ∙ rest
      ]

  -- tiles have one label exactly where dominoes join them
  pub labels_join : (a b : ℕ) → a < n → b < n → (label (labels_of f n) a ≡ label (labels_of f n) b) ↔ AreJoined n f a b
  labels_join a b la lb = (
    λ s. let low = labelled.low a la in joined_trans n f a (label (labels_of f n) a) b (joined_sym n f (label (labels_of f n) a) a (omega arith) (labelled.joined a la))
        (subst (λ (k : ℕ). AreJoined n f k b) (sym s) (labelled.joined b lb)),
    λ h. along_walk a b h.0 la h.1,
  )
