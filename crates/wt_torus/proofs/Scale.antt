-- Numbers over a common denominator: signs, orbits and letters don't depend on it.
use Rattle.std.proofs.Common.{◌≡◌, ℕ, zero, suc, ◌+◌, List, [], ◌∷◌, Bool, true, refl, sym, ap, subst, ◌∙◌, inl, inr}
use Rattle.std.specs.Prelude.{ℤ, pos, ◌*ℤ◌, ◌<ℤ◌}
use Rattle.wt_golden.specs.Whole.{Whole, whole, plus, minus, times, opposite, is_positive, IsPositive}
use Rattle.wt_golden.specs.Fractions.{Fraction, top, over, lowest, sum, negative, difference}
use Rattle.wt_ring.proofs.Ring.{x_, ◌⊕◌, ◌⊗◌, ⊖_, n_, solve}
use Rattle.wt_golden.proofs.WholeRing.{golden, whole_times}
use Rattle.wt_golden.proofs.Products.{mul_above}
use Rattle.wt_golden.proofs.Order.{positive_times, positive_or_not, positive_never_both, positive_not_zero, positive_whole}
use Rattle.wt_plane.specs.HalfPlanes.{Half, Spot, value, spot}
use Rattle.wt_plane.specs.Regions.{holds_all}
use Rattle.wt_torus.specs.declared.partition.Labelled.{Labelled}
use Rattle.wt_torus.specs.declared.partition.Partition.{Partition}
use Rattle.wt_torus.specs.Boxes.{is_below, is_between}
use Rattle.wt_torus.specs.Rotation.{step, orbit, turns, returns, Window, window}
use Rattle.wt_torus.specs.Letters.{is_held, label_of, those, letter}
use Rattle.wt_torus.specs.Codes.{spread, coordinate}
use Rattle.wt_torus.proofs.Rotation.{flag, both}

-- ---- scaling by a positive number

lift : (x : Whole) → is_positive x ≡ true → IsPositive x
lift x e = record { above = e }

scaled_opposite : (x k : Whole) → times (opposite x) k ≡ opposite (times x k)
scaled_opposite x k = solve golden (x ∷ k ∷ []) (⊖_ (x_ 0) ⊗ x_ 1) (⊖_ (x_ 0 ⊗ x_ 1)) refl

nought_scaled : (k : Whole) → times (whole (pos 0)) k ≡ whole (pos 0)
nought_scaled k = solve golden (k ∷ []) (n_ (pos 0) ⊗ x_ 0) (n_ (pos 0)) refl

pub scaled : (x : Whole) (k : ℤ) → pos 0 <ℤ k → is_positive (times x (whole k)) ≡ is_positive x
scaled x k h = elim (flag (is_positive x)) [
  | inl e ↦ (positive_times x (whole k) (lift x e) (positive_whole k h)).above ∙ sym e
  | inr e ↦ elim (flag (is_positive (times x (whole k)))) [
    | inr f ↦ f ∙ sym e
    | inl f ↦ elim (positive_or_not x) [
      | inl z ↦ absurd (positive_not_zero (lift (whole (pos 0)) (sym (ap is_positive (ap (λ (y : Whole). times y (whole k)) z ∙ nought_scaled (whole k))) ∙ f)))
      | inr (inl p) ↦ both (is_positive x) p.above e
      | inr (inr p) ↦ absurd (positive_never_both (times x (whole k)) (lift (times x (whole k)) f)
          (subst IsPositive (scaled_opposite x (whole k)) (positive_times (opposite x) (whole k) p (positive_whole k h))))
    ]
  ]
]

-- x over d is the number f
abbrev pub IsOver : ℤ → Fraction → Whole → Type 0
IsOver d f x = times (top f) (whole d) ≡ times x (whole f.d)

pub below_is : (x : Whole) (d : ℤ) (f : Fraction) (g : Whole) → pos 0 <ℤ f.d → IsOver d f g → is_below x d f ≡ is_positive (minus g x)
below_is x d f g h o =
    let e : minus (times (top f) (whole d)) (times x (whole f.d)) ≡ times (minus g x) (whole f.d) =
    ap (λ (y : Whole). minus y (times x (whole f.d))) o ∙ solve golden (g ∷ x ∷ whole f.d ∷ []) ((x_ 0 ⊗ x_ 2) ⊕ ⊖_ (x_ 1 ⊗ x_ 2)) ((x_ 0 ⊕ ⊖_ (x_ 1)) ⊗ x_ 2) refl in
    ap is_positive e ∙ scaled (minus g x) f.d h

-- what has a positive multiple of 0 is 0
pub scaled_zero : (x : Whole) (k : ℤ) → pos 0 <ℤ k → times x (whole k) ≡ whole (pos 0) → x ≡ whole (pos 0)
scaled_zero x k h e = elim (positive_or_not x) [
  | inl z ↦ z
  | inr (inl p) ↦ absurd (positive_not_zero (subst IsPositive e (positive_times x (whole k) p (positive_whole k h))))
  | inr (inr p) ↦ absurd (positive_not_zero (subst IsPositive
      (solve golden (x ∷ whole k ∷ []) (⊖_ (x_ 0) ⊗ x_ 1) (⊖_ (x_ 0 ⊗ x_ 1)) refl ∙ (ap opposite e ∙ solve golden [] (⊖_ (n_ (pos 0))) (n_ (pos 0)) refl))
      (positive_times (opposite x) (whole k) p (positive_whole k h))))
]

-- a positive factor can be taken away
pub cancel : (x y : Whole) (k : ℤ) → pos 0 <ℤ k → times x (whole k) ≡ times y (whole k) → x ≡ y
cancel x y k h e =
    let z = scaled_zero (minus x y) k h (
    solve golden (x ∷ y ∷ whole k ∷ []) ((x_ 0 ⊕ ⊖_ (x_ 1)) ⊗ x_ 2) ((x_ 0 ⊗ x_ 2) ⊕ ⊖_ (x_ 1 ⊗ x_ 2)) refl
    ∙ (ap (λ (w : Whole). minus w (times y (whole k))) e ∙ solve golden (times y (whole k) ∷ []) (x_ 0 ⊕ ⊖_ (x_ 0)) (n_ (pos 0)) refl)) in
    solve golden (x ∷ y ∷ []) (x_ 0) ((x_ 0 ⊕ ⊖_ (x_ 1)) ⊕ x_ 1) refl ∙ (ap (λ (w : Whole). plus w y) z ∙ solve golden (y ∷ []) (n_ (pos 0) ⊕ x_ 0) (x_ 0) refl)

-- ---- orbits

step_scaled : (k : ℤ) → pos 0 <ℤ k → (L M t : Whole) → step (times L (whole k)) (times M (whole k)) (times t (whole k)) ≡ times (step L M t) (whole k)
step_scaled k h L M t =
    let e : is_positive (minus (times L (whole k)) (plus (times t (whole k)) (times M (whole k)))) ≡ is_positive (minus L (plus t M)) =
    ap is_positive (solve golden (L ∷ t ∷ M ∷ whole k ∷ []) ((x_ 0 ⊗ x_ 3) ⊕ ⊖_ ((x_ 1 ⊗ x_ 3) ⊕ (x_ 2 ⊗ x_ 3))) ((x_ 0 ⊕ ⊖_ (x_ 1 ⊕ x_ 2)) ⊗ x_ 3) refl) ∙ scaled (minus L (plus t M)) k h in
    elim (flag (is_positive (minus L (plus t M)))) [
      | inl f ↦ rw (e ∙ f, f) (solve golden (t ∷ M ∷ whole k ∷ []) ((x_ 0 ⊗ x_ 2) ⊕ (x_ 1 ⊗ x_ 2)) ((x_ 0 ⊕ x_ 1) ⊗ x_ 2) refl)
      | inr f ↦ rw (e ∙ f, f) (solve golden (t ∷ M ∷ L ∷ whole k ∷ []) (((x_ 0 ⊗ x_ 3) ⊕ (x_ 1 ⊗ x_ 3)) ⊕ ⊖_ (x_ 2 ⊗ x_ 3)) (((x_ 0 ⊕ x_ 1) ⊕ ⊖_ (x_ 2)) ⊗ x_ 3) refl)
    ]

orbit_scaled : (k : ℤ) → pos 0 <ℤ k → (L M t : Whole) (i : ℕ) → orbit (times L (whole k)) (times M (whole k)) (times t (whole k)) i ≡ times (orbit L M t i) (whole k)
orbit_scaled k h L M t zero = refl
orbit_scaled k h L M t (suc i) = ap (λ (s : Whole). orbit (times L (whole k)) (times M (whole k)) s i) (step_scaled k h L M t) ∙ orbit_scaled k h L M (step L M t) i

-- the same orbit over two denominators
pub orbits : (m n : ℤ) → pos 0 <ℤ m → pos 0 <ℤ n → (L M t L' M' t' : Whole) → times L (whole n) ≡ times L' (whole m) → times M (whole n) ≡ times M' (whole m) → times t (whole n) ≡ times t' (whole m)
    → (i : ℕ) → times (orbit L M t i) (whole n) ≡ times (orbit L' M' t' i) (whole m)
orbits m n hm hn L M t L' M' t' e f g i =
    sym (orbit_scaled n hn L M t i)
    ∙ (ap (λ (x : Whole). orbit x (times M (whole n)) (times t (whole n)) i) e
    ∙ (ap (λ (x : Whole). orbit (times L' (whole m)) x (times t (whole n)) i) f
    ∙ (ap (λ (x : Whole). orbit (times L' (whole m)) (times M' (whole m)) x i) g ∙ orbit_scaled m hm L' M' t' i)))

-- ---- coordinates

-- what lowest terms are
pub record IsLowered (f g : Fraction) (k : ℤ) : Type 0 where
  pub positive : pos 0 <ℤ k
  pub over : pos 0 <ℤ g.d
  pub top : top f ≡ times (top g) (whole k)
  pub d : whole f.d ≡ times (whole g.d) (whole k)

pub lowered_over : (D : ℤ) (f g : Fraction) (k : ℤ) (X : Whole) → IsLowered f g k → IsOver D f X → IsOver D g X
lowered_over D f g k X l o = cancel (times (top g) (whole D)) (times X (whole g.d)) k l.positive (
    solve golden (top g ∷ whole D ∷ whole k ∷ []) ((x_ 0 ⊗ x_ 1) ⊗ x_ 2) ((x_ 0 ⊗ x_ 2) ⊗ x_ 1) refl
    ∙ (ap (λ (w : Whole). times w (whole D)) (sym l.top) ∙ (o ∙ (ap (times X) l.d ∙ solve golden (X ∷ whole g.d ∷ whole k ∷ []) (x_ 0 ⊗ (x_ 1 ⊗ x_ 2)) ((x_ 0 ⊗ x_ 1) ⊗ x_ 2) refl))))

-- f spread over n, where n is f's denominator times m
spread_over : (D m : ℤ) (n : Whole) (f : Fraction) (X : Whole) → IsOver D f X → n ≡ times (whole f.d) (whole m) → times (spread f m) (whole D) ≡ times X n
spread_over D m n f X o e =
    solve golden (top f ∷ whole m ∷ whole D ∷ []) ((x_ 0 ⊗ x_ 1) ⊗ x_ 2) ((x_ 0 ⊗ x_ 2) ⊗ x_ 1) refl
    ∙ (ap (λ (w : Whole). times w (whole m)) o ∙ (solve golden (X ∷ whole f.d ∷ whole m ∷ []) ((x_ 0 ⊗ x_ 1) ⊗ x_ 2) (x_ 0 ⊗ (x_ 1 ⊗ x_ 2)) refl ∙ ap (times X) (sym e)))

module _ (lowest_is : (f : Fraction) → pos 0 <ℤ f.d → (k : ℤ) × IsLowered f (lowest f) k) where
  pub three_above : (a b c : ℤ) → pos 0 <ℤ a → pos 0 <ℤ b → pos 0 <ℤ c → pos 0 <ℤ (a *ℤ (b *ℤ c))
  three_above a b c h k l = mul_above a (b *ℤ c) h (mul_above b c k l)

  three_whole : (a b c : ℤ) → whole (a *ℤ (b *ℤ c)) ≡ times (whole a) (times (whole b) (whole c))
  three_whole a b c = whole_times a (b *ℤ c) ∙ ap (times (whole a)) (whole_times b c)

  module _ (D : ℤ) (h : pos 0 <ℤ D) (length move t : Fraction) (L M T : Whole) (hl : pos 0 <ℤ length.d) (hm : pos 0 <ℤ move.d) (ht : pos 0 <ℤ t.d)
      (ol : IsOver D length L) (om : IsOver D move M) (ot : IsOver D t T) where
    abbrev n : ℤ
    n = length.d *ℤ (move.d *ℤ t.d)

    n_whole : whole n ≡ times (whole length.d) (times (whole move.d) (whole t.d))
    n_whole = three_whole length.d move.d t.d

    pub length_spread : times (spread length (move.d *ℤ t.d)) (whole D) ≡ times L (whole n)
    length_spread = spread_over D (move.d *ℤ t.d) (whole n) length L ol (n_whole ∙ ap (times (whole length.d)) (sym (whole_times move.d t.d)))

    pub move_spread : times (spread move (length.d *ℤ t.d)) (whole D) ≡ times M (whole n)
    move_spread = spread_over D (length.d *ℤ t.d) (whole n) move M om (n_whole ∙ (solve golden (whole length.d ∷ whole move.d ∷ whole t.d ∷ []) (x_ 0 ⊗ (x_ 1 ⊗ x_ 2)) (x_ 1 ⊗ (x_ 0 ⊗ x_ 2)) refl ∙ ap (times (whole move.d)) (sym (whole_times length.d t.d))))

    pub start_spread : times (spread t (length.d *ℤ move.d)) (whole D) ≡ times T (whole n)
    start_spread = spread_over D (length.d *ℤ move.d) (whole n) t T ot (n_whole ∙ (solve golden (whole length.d ∷ whole move.d ∷ whole t.d ∷ []) (x_ 0 ⊗ (x_ 1 ⊗ x_ 2)) (x_ 2 ⊗ (x_ 0 ⊗ x_ 1)) refl ∙ ap (times (whole t.d)) (sym (whole_times length.d move.d))))

    abbrev raw : ℕ → Fraction
    raw i = over (orbit (spread length (move.d *ℤ t.d)) (spread move (length.d *ℤ t.d)) (spread t (length.d *ℤ move.d)) i) n

    raw_over : (i : ℕ) → IsOver D (raw i) (orbit L M T i)
    raw_over i = orbits n D (three_above length.d move.d t.d hl hm ht) h (spread length (move.d *ℤ t.d)) (spread move (length.d *ℤ t.d)) (spread t (length.d *ℤ move.d)) L M T length_spread move_spread start_spread i

    -- a coordinate over any common denominator
    pub coordinate_is : (i : ℕ) → IsOver D (coordinate length move t i) (orbit L M T i) × (pos 0 <ℤ (coordinate length move t i).d)
    unfolding coordinate
    coordinate_is i = let l = lowest_is (raw i) (three_above length.d move.d t.d hl hm ht) in (lowered_over D (raw i) (lowest (raw i)) l.0 (orbit L M T i) l.1 (raw_over i), l.1.over)

-- ---- letters

abbrev pub holds : Spot → Half → Bool
holds z h = is_positive (value h z)

-- two forms of a point
pub record IsSame (z z' : Spot) : Type 0 where
  pub over : pos 0 <ℤ z.d
  pub over' : pos 0 <ℤ z'.d
  pub x : times z.x (whole z'.d) ≡ times z'.x (whole z.d)
  pub y : times z.y (whole z'.d) ≡ times z'.y (whole z.d)

pub two_signs : (u v : Whole) (k l : ℤ) → pos 0 <ℤ k → pos 0 <ℤ l → times u (whole k) ≡ times v (whole l) → is_positive u ≡ is_positive v
two_signs u v k l hk hl e = sym (scaled u k hk) ∙ (ap is_positive e ∙ scaled v l hl)

holds_same : (z z' : Spot) → IsSame z z' → (h : Half) → holds z h ≡ holds z' h
holds_same z z' s h = two_signs (value h z) (value h z') z'.d z.d s.over' s.over (
    solve golden (h.p ∷ h.q ∷ h.r ∷ z.x ∷ z.y ∷ whole z.d ∷ whole z'.d ∷ [])
    (((x_ 0 ⊗ x_ 3) ⊕ (x_ 1 ⊗ x_ 4) ⊕ (x_ 2 ⊗ x_ 5)) ⊗ x_ 6)
    ((x_ 0 ⊗ (x_ 3 ⊗ x_ 6)) ⊕ (x_ 1 ⊗ (x_ 4 ⊗ x_ 6)) ⊕ (x_ 2 ⊗ (x_ 5 ⊗ x_ 6))) refl
    ∙ (ap (λ (w : Whole). plus (plus (times h.p w) (times h.q (times z.y (whole z'.d)))) (times h.r (times (whole z.d) (whole z'.d)))) s.x
    ∙ (ap (λ (w : Whole). plus (plus (times h.p (times z'.x (whole z.d))) (times h.q w)) (times h.r (times (whole z.d) (whole z'.d)))) s.y
    ∙ solve golden (h.p ∷ h.q ∷ h.r ∷ z'.x ∷ z'.y ∷ whole z.d ∷ whole z'.d ∷ [])
    ((x_ 0 ⊗ (x_ 3 ⊗ x_ 5)) ⊕ (x_ 1 ⊗ (x_ 4 ⊗ x_ 5)) ⊕ (x_ 2 ⊗ (x_ 5 ⊗ x_ 6)))
    (((x_ 0 ⊗ x_ 3) ⊕ (x_ 1 ⊗ x_ 4) ⊕ (x_ 2 ⊗ x_ 6)) ⊗ x_ 5) refl)))

pub below_same : (x x' : Whole) (d d' : ℤ) (f : Fraction) → pos 0 <ℤ d → pos 0 <ℤ d' → times x (whole d') ≡ times x' (whole d) → is_below x d f ≡ is_below x' d' f
below_same x x' d d' f h h' e = two_signs (minus (times (top f) (whole d)) (times x (whole f.d))) (minus (times (top f) (whole d')) (times x' (whole f.d))) d' d h' h (
    solve golden (top f ∷ whole d ∷ x ∷ whole f.d ∷ whole d' ∷ []) (((x_ 0 ⊗ x_ 1) ⊕ ⊖_ (x_ 2 ⊗ x_ 3)) ⊗ x_ 4) ((x_ 0 ⊗ (x_ 1 ⊗ x_ 4)) ⊕ ⊖_ ((x_ 2 ⊗ x_ 4) ⊗ x_ 3)) refl
    ∙ (ap (λ (w : Whole). minus (times (top f) (times (whole d) (whole d'))) (times w (whole f.d))) e
    ∙ solve golden (top f ∷ whole d ∷ x' ∷ whole f.d ∷ whole d' ∷ []) ((x_ 0 ⊗ (x_ 1 ⊗ x_ 4)) ⊕ ⊖_ ((x_ 2 ⊗ x_ 1) ⊗ x_ 3)) (((x_ 0 ⊗ x_ 4) ⊕ ⊖_ (x_ 2 ⊗ x_ 3)) ⊗ x_ 1) refl))

between_same : (x x' : Whole) (d d' : ℤ) (f : Fraction) → pos 0 <ℤ d → pos 0 <ℤ d' → times x (whole d') ≡ times x' (whole d) → is_between x d f ≡ is_between x' d' f
between_same x x' d d' f h h' e = rw (two_signs x x' d' d h' h e, below_same x x' d d' f h h' e) refl

all_same : (z z' : Spot) → IsSame z z' → (hs : List Half) → holds_all hs z ≡ holds_all hs z'
all_same z z' s [] = refl
all_same z z' s (h ∷ hs) = rw (holds_same z z' s h, all_same z z' s hs) refl

labels_same : (p q : Labelled → Bool) (rs : List Labelled) → ((r : Labelled) → p r ≡ q r) → those label_of p rs ≡ those label_of q rs
labels_same p q [] h = refl
labels_same p q (x ∷ xs) h = elim (flag (q x)) [
  | inl e ↦ rw (h x ∙ e, e) (ap (λ (r : List ℕ). label_of x ∷ r) (labels_same p q xs h))
  | inr e ↦ rw (h x ∙ e, e) (labels_same p q xs h)
]

-- the letter doesn't depend on the form
pub same_letter : (p : Partition) (z z' : Spot) → IsSame z z' → letter p z ≡ letter p z'
unfolding letter
same_letter p z z' s =
    let b = between_same z.x z'.x z.d z'.d p.torus.width s.over s.over' s.x in
    let c = between_same z.y z'.y z.d z'.d p.torus.height s.over s.over' s.y in
    let l = labels_same (is_held z) (is_held z') p.regions (λ r. all_same z z' s r.region.planes) in
    rw (b, c, l) refl

-- the point with these coordinates, over a common denominator
pub spot_is : (D : ℤ) (f g : Fraction) (X Y : Whole) → pos 0 <ℤ D → pos 0 <ℤ f.d → pos 0 <ℤ g.d → IsOver D f X → IsOver D g Y → IsSame (spot f g) (record { x = X; y = Y; d = D })
spot_is D f g X Y h hf hg of og = record {
  over = mul_above f.d g.d hf hg;
  over' = h;
  x = solve golden (top f ∷ whole g.d ∷ whole D ∷ []) ((x_ 0 ⊗ x_ 1) ⊗ x_ 2) ((x_ 0 ⊗ x_ 2) ⊗ x_ 1) refl
      ∙ (ap (λ (w : Whole). times w (whole g.d)) of ∙ (solve golden (X ∷ whole f.d ∷ whole g.d ∷ []) ((x_ 0 ⊗ x_ 1) ⊗ x_ 2) (x_ 0 ⊗ (x_ 1 ⊗ x_ 2)) refl ∙ ap (times X) (sym (whole_times f.d g.d))));
  y = solve golden (top g ∷ whole f.d ∷ whole D ∷ []) ((x_ 0 ⊗ x_ 1) ⊗ x_ 2) ((x_ 0 ⊗ x_ 2) ⊗ x_ 1) refl
      ∙ (ap (λ (w : Whole). times w (whole f.d)) og ∙ (solve golden (Y ∷ whole g.d ∷ whole f.d ∷ []) ((x_ 0 ⊗ x_ 1) ⊗ x_ 2) (x_ 0 ⊗ (x_ 2 ⊗ x_ 1)) refl ∙ ap (times Y) (sym (whole_times f.d g.d))));
}

-- ---- returns

abbrev scale_window : Window → ℤ → Window
scale_window w k = record { size = times w.size (whole k); move = times w.move (whole k); bound = times w.bound (whole k); single_below = w.single_below }

window_scaled : (k : ℤ) → pos 0 <ℤ k → (L M : Whole) → window (times L (whole k)) (times M (whole k)) ≡ scale_window (window L M) k
window_scaled k h L M =
    let e : is_positive (minus (times L (whole k)) (plus (times M (whole k)) (times M (whole k)))) ≡ is_positive (minus L (plus M M)) =
    ap is_positive (solve golden (L ∷ M ∷ whole k ∷ []) ((x_ 0 ⊗ x_ 2) ⊕ ⊖_ ((x_ 1 ⊗ x_ 2) ⊕ (x_ 1 ⊗ x_ 2))) ((x_ 0 ⊕ ⊖_ (x_ 1 ⊕ x_ 1)) ⊗ x_ 2) refl) ∙ scaled (minus L (plus M M)) k h in
    let one : minus (times L (whole k)) (times M (whole k)) ≡ times (minus L M) (whole k) = solve golden (L ∷ M ∷ whole k ∷ []) ((x_ 0 ⊗ x_ 2) ⊕ ⊖_ (x_ 1 ⊗ x_ 2)) ((x_ 0 ⊕ ⊖_ (x_ 1)) ⊗ x_ 2) refl in
    let two : minus (times L (whole k)) (plus (times M (whole k)) (times M (whole k))) ≡ times (minus L (plus M M)) (whole k) = solve golden (L ∷ M ∷ whole k ∷ []) ((x_ 0 ⊗ x_ 2) ⊕ ⊖_ ((x_ 1 ⊗ x_ 2) ⊕ (x_ 1 ⊗ x_ 2))) ((x_ 0 ⊕ ⊖_ (x_ 1 ⊕ x_ 1)) ⊗ x_ 2) refl in
    let back : minus (plus (times M (whole k)) (times M (whole k))) (times L (whole k)) ≡ times (minus (plus M M) L) (whole k) = solve golden (L ∷ M ∷ whole k ∷ []) (((x_ 1 ⊗ x_ 2) ⊕ (x_ 1 ⊗ x_ 2)) ⊕ ⊖_ (x_ 0 ⊗ x_ 2)) (((x_ 1 ⊕ x_ 1) ⊕ ⊖_ (x_ 0)) ⊗ x_ 2) refl in
    elim (flag (is_positive (minus L (plus M M)))) [
      | inl f ↦ rw (e ∙ f, f, one, two) refl
      | inr f ↦ rw (e ∙ f, f, one, back) refl
    ]

turns_scaled : (k : ℤ) → pos 0 <ℤ k → (S L M t : Whole) → turns (times S (whole k)) (times L (whole k)) (times M (whole k)) (times t (whole k)) ≡ turns S L M t
turns_scaled k h S L M t =
    let e : is_positive (minus (times S (whole k)) (step (times L (whole k)) (times M (whole k)) (times t (whole k)))) ≡ is_positive (minus S (step L M t)) =
    ap (λ (s : Whole). is_positive (minus (times S (whole k)) s)) (step_scaled k h L M t)
    ∙ (ap is_positive (solve golden (S ∷ step L M t ∷ whole k ∷ []) ((x_ 0 ⊗ x_ 2) ⊕ ⊖_ (x_ 1 ⊗ x_ 2)) ((x_ 0 ⊕ ⊖_ (x_ 1)) ⊗ x_ 2) refl) ∙ scaled (minus S (step L M t)) k h) in
    rw e refl

returns_in : (k : ℤ) → pos 0 <ℤ k → (w : Window) (L M t : Whole) (n : ℕ) → returns (scale_window w k) (times L (whole k)) (times M (whole k)) (times t (whole k)) n ≡ returns w L M t n
returns_in k h w L M t zero = refl
returns_in k h w L M t (suc n) =
    let a = turns_scaled k h w.size L M t in
    let b = ap (λ (s : Whole). returns (scale_window w k) (times L (whole k)) (times M (whole k)) s n) (step_scaled k h w.size w.move t) ∙ returns_in k h w L M (step w.size w.move t) n in
    ap (λ (c : ℕ). c + returns (scale_window w k) (times L (whole k)) (times M (whole k)) (step (times w.size (whole k)) (times w.move (whole k)) (times t (whole k))) n) a ∙ ap (λ (c : ℕ). turns w.size L M t + c) b

returns_scaled : (k : ℤ) → pos 0 <ℤ k → (L M t : Whole) (n : ℕ) → returns (window (times L (whole k)) (times M (whole k))) (times L (whole k)) (times M (whole k)) (times t (whole k)) n ≡ returns (window L M) L M t n
returns_scaled k h L M t n = ap (λ (w : Window). returns w (times L (whole k)) (times M (whole k)) (times t (whole k)) n) (window_scaled k h L M) ∙ returns_in k h (window L M) L M t n

-- the same returns over two denominators
pub same_returns : (m n : ℤ) → pos 0 <ℤ m → pos 0 <ℤ n → (L M t L' M' t' : Whole) → times L (whole n) ≡ times L' (whole m) → times M (whole n) ≡ times M' (whole m) → times t (whole n) ≡ times t' (whole m)
    → (i : ℕ) → returns (window L M) L M t i ≡ returns (window L' M') L' M' t' i
same_returns m n hm hn L M t L' M' t' e f g i =
    sym (returns_scaled n hn L M t i)
    ∙ (ap (λ (x : Whole). returns (window x (times M (whole n))) x (times M (whole n)) (times t (whole n)) i) e
    ∙ (ap (λ (x : Whole). returns (window (times L' (whole m)) x) (times L' (whole m)) x (times t (whole n)) i) f
    ∙ (ap (λ (x : Whole). returns (window (times L' (whole m)) (times M' (whole m))) (times L' (whole m)) (times M' (whole m)) x i) g ∙ returns_scaled m hm L' M' t' i)))

-- ---- common denominators

pub own_over : (f : Fraction) → IsOver f.d f (top f)
own_over f = refl

pub more_over : (D m : ℤ) (f : Fraction) (X : Whole) → IsOver D f X → IsOver (D *ℤ m) f (times X (whole m))
more_over D m f X o =
    ap (times (top f)) (whole_times D m)
    ∙ (solve golden (top f ∷ whole D ∷ whole m ∷ []) (x_ 0 ⊗ (x_ 1 ⊗ x_ 2)) ((x_ 0 ⊗ x_ 1) ⊗ x_ 2) refl
    ∙ (ap (λ (w : Whole). times w (whole m)) o ∙ solve golden (X ∷ whole f.d ∷ whole m ∷ []) ((x_ 0 ⊗ x_ 1) ⊗ x_ 2) ((x_ 0 ⊗ x_ 2) ⊗ x_ 1) refl))

pub more_behind : (D m : ℤ) (f : Fraction) (X : Whole) → IsOver D f X → IsOver (m *ℤ D) f (times X (whole m))
more_behind D m f X o =
    ap (times (top f)) (whole_times m D)
    ∙ (solve golden (top f ∷ whole D ∷ whole m ∷ []) (x_ 0 ⊗ (x_ 2 ⊗ x_ 1)) ((x_ 0 ⊗ x_ 1) ⊗ x_ 2) refl
    ∙ (ap (λ (w : Whole). times w (whole m)) o ∙ solve golden (X ∷ whole f.d ∷ whole m ∷ []) ((x_ 0 ⊗ x_ 1) ⊗ x_ 2) ((x_ 0 ⊗ x_ 2) ⊗ x_ 1) refl))

pub raised_over : (D : ℤ) (f g : Fraction) (k : ℤ) (X : Whole) → IsLowered f g k → IsOver D g X → IsOver D f X
raised_over D f g k X l o =
    ap (λ (w : Whole). times w (whole D)) l.top
    ∙ (solve golden (top g ∷ whole k ∷ whole D ∷ []) ((x_ 0 ⊗ x_ 1) ⊗ x_ 2) ((x_ 0 ⊗ x_ 2) ⊗ x_ 1) refl
    ∙ (ap (λ (w : Whole). times w (whole k)) o ∙ (solve golden (X ∷ whole g.d ∷ whole k ∷ []) ((x_ 0 ⊗ x_ 1) ⊗ x_ 2) (x_ 0 ⊗ (x_ 1 ⊗ x_ 2)) refl ∙ ap (times X) (sym l.d))))

pub sum_over : (D : ℤ) (f g : Fraction) (F G : Whole) → IsOver D f F → IsOver D g G → IsOver D (sum f g) (plus F G)
unfolding sum
sum_over D f g F G of og =
    solve golden (top f ∷ whole g.d ∷ top g ∷ whole f.d ∷ whole D ∷ []) (((x_ 0 ⊗ x_ 1) ⊕ (x_ 2 ⊗ x_ 3)) ⊗ x_ 4) (((x_ 0 ⊗ x_ 4) ⊗ x_ 1) ⊕ ((x_ 2 ⊗ x_ 4) ⊗ x_ 3)) refl
    ∙ (ap (λ (w : Whole). plus (times w (whole g.d)) (times (times (top g) (whole D)) (whole f.d))) of
    ∙ (ap (λ (w : Whole). plus (times (times F (whole f.d)) (whole g.d)) (times w (whole f.d))) og
    ∙ (solve golden (F ∷ whole f.d ∷ whole g.d ∷ G ∷ []) (((x_ 0 ⊗ x_ 1) ⊗ x_ 2) ⊕ ((x_ 3 ⊗ x_ 2) ⊗ x_ 1)) ((x_ 0 ⊕ x_ 3) ⊗ (x_ 1 ⊗ x_ 2)) refl ∙ ap (times (plus F G)) (sym (whole_times f.d g.d)))))

pub sum_above : (f g : Fraction) → pos 0 <ℤ f.d → pos 0 <ℤ g.d → pos 0 <ℤ (sum f g).d
unfolding sum
sum_above f g h k = mul_above f.d g.d h k

pub difference_over : (D : ℤ) (f g : Fraction) (F G : Whole) → IsOver D f F → IsOver D g G → IsOver D (difference f g) (minus F G)
unfolding negative
difference_over D f g F G of og = sum_over D f (negative g) F (opposite G) of
    (solve golden (top g ∷ whole D ∷ []) (⊖_ (x_ 0) ⊗ x_ 1) (⊖_ (x_ 0 ⊗ x_ 1)) refl ∙ (ap opposite og ∙ solve golden (G ∷ whole g.d ∷ []) (⊖_ (x_ 0 ⊗ x_ 1)) (⊖_ (x_ 0) ⊗ x_ 1) refl))

pub difference_above : (f g : Fraction) → pos 0 <ℤ f.d → pos 0 <ℤ g.d → pos 0 <ℤ (difference f g).d
unfolding negative
difference_above f g h k = sum_above f (negative g) h k

-- below a fraction, over one denominator
pub less_is : (D : ℤ) (f g : Fraction) (F G : Whole) → pos 0 <ℤ D → pos 0 <ℤ f.d → pos 0 <ℤ g.d → IsOver D f F → IsOver D g G → is_below (top f) f.d g ≡ is_positive (minus G F)
less_is D f g F G h hf hg of og = below_same (top f) F f.d D g hf h of ∙ below_is F D g G hg og
