-- What zones and moved half-planes hold, over one denominator.
use Rattle.std.proofs.Common.{◌≡◌, [], ◌∷◌, refl, sym, ap, ◌∙◌}
use Rattle.wt_grid.specs.declared.axis.Axis.TheVariants.{One, Two}
use Rattle.wt_grid.specs.declared.axis.Axis.{Axis}
use Rattle.std.specs.Prelude.{ℤ, pos, ◌<ℤ◌}
use Rattle.wt_golden.specs.Whole.{Whole, whole, plus, minus, times, opposite, is_positive}
use Rattle.wt_golden.specs.Fractions.{Fraction, top}
use Rattle.wt_ring.proofs.Ring.{x_, ◌⊕◌, ◌⊗◌, ⊖_, n_, solve}
use Rattle.wt_golden.proofs.WholeRing.{golden}
use Rattle.wt_plane.specs.HalfPlanes.{Half, Spot, value, moved_half}
use Rattle.wt_torus.proofs.Scale.{IsOver, scaled, holds}
use Rattle.wt_torus.proofs.Lowered.{IsLess}
use Rattle.wt_induce.specs.Zones.{beyond, beneath, moved_along}

-- ---- points along an axis

-- the point at t along the axis and s across it
abbrev pub point_at : Axis → Whole → Whole → ℤ → Spot
point_at One t s d = record { x = t; y = s; d = d }
point_at Two t s d = record { x = s; y = t; d = d }

module _ (d : ℤ) (f : Fraction) (g : Whole) (o : IsOver d f g) where
  beyond_value : (axis : Axis) (t s : Whole) → value (beyond axis f) (point_at axis t s d) ≡ times (minus t g) (whole f.d)
  beyond_value One t s =
      solve golden (whole f.d ∷ t ∷ s ∷ top f ∷ whole d ∷ []) (((x_ 0 ⊗ x_ 1) ⊕ (n_ (pos 0) ⊗ x_ 2)) ⊕ (⊖_ (x_ 3) ⊗ x_ 4)) ((x_ 0 ⊗ x_ 1) ⊕ ⊖_ (x_ 3 ⊗ x_ 4)) refl
      ∙ (ap (λ (y : Whole). plus (times (whole f.d) t) (opposite y)) o
      ∙ solve golden (whole f.d ∷ t ∷ g ∷ []) ((x_ 0 ⊗ x_ 1) ⊕ ⊖_ (x_ 2 ⊗ x_ 0)) ((x_ 1 ⊕ ⊖_ (x_ 2)) ⊗ x_ 0) refl)
  beyond_value Two t s =
      solve golden (whole f.d ∷ t ∷ s ∷ top f ∷ whole d ∷ []) (((n_ (pos 0) ⊗ x_ 2) ⊕ (x_ 0 ⊗ x_ 1)) ⊕ (⊖_ (x_ 3) ⊗ x_ 4)) ((x_ 0 ⊗ x_ 1) ⊕ ⊖_ (x_ 3 ⊗ x_ 4)) refl
      ∙ (ap (λ (y : Whole). plus (times (whole f.d) t) (opposite y)) o
      ∙ solve golden (whole f.d ∷ t ∷ g ∷ []) ((x_ 0 ⊗ x_ 1) ⊕ ⊖_ (x_ 2 ⊗ x_ 0)) ((x_ 1 ⊕ ⊖_ (x_ 2)) ⊗ x_ 0) refl)

  beneath_value : (axis : Axis) (t s : Whole) → value (beneath axis f) (point_at axis t s d) ≡ times (minus g t) (whole f.d)
  beneath_value One t s =
      solve golden (whole f.d ∷ t ∷ s ∷ top f ∷ whole d ∷ []) (((⊖_ (x_ 0) ⊗ x_ 1) ⊕ (n_ (pos 0) ⊗ x_ 2)) ⊕ (x_ 3 ⊗ x_ 4)) ((x_ 3 ⊗ x_ 4) ⊕ ⊖_ (x_ 0 ⊗ x_ 1)) refl
      ∙ (ap (λ (y : Whole). plus y (opposite (times (whole f.d) t))) o
      ∙ solve golden (whole f.d ∷ t ∷ g ∷ []) ((x_ 2 ⊗ x_ 0) ⊕ ⊖_ (x_ 0 ⊗ x_ 1)) ((x_ 2 ⊕ ⊖_ (x_ 1)) ⊗ x_ 0) refl)
  beneath_value Two t s =
      solve golden (whole f.d ∷ t ∷ s ∷ top f ∷ whole d ∷ []) (((n_ (pos 0) ⊗ x_ 2) ⊕ (⊖_ (x_ 0) ⊗ x_ 1)) ⊕ (x_ 3 ⊗ x_ 4)) ((x_ 3 ⊗ x_ 4) ⊕ ⊖_ (x_ 0 ⊗ x_ 1)) refl
      ∙ (ap (λ (y : Whole). plus y (opposite (times (whole f.d) t))) o
      ∙ solve golden (whole f.d ∷ t ∷ g ∷ []) ((x_ 2 ⊗ x_ 0) ⊕ ⊖_ (x_ 0 ⊗ x_ 1)) ((x_ 2 ⊕ ⊖_ (x_ 1)) ⊗ x_ 0) refl)

  moved_value : (axis : Axis) (h : Half) (t s : Whole) → value (moved_along axis f h) (point_at axis t s d) ≡ times (value h (point_at axis (plus t g) s d)) (whole f.d)
  unfolding moved_half
  moved_value One h t s =
      solve golden (h.p ∷ h.q ∷ h.r ∷ whole f.d ∷ t ∷ s ∷ top f ∷ whole d ∷ [])
      ((((x_ 0 ⊗ (x_ 3 ⊗ n_ (pos 1))) ⊗ x_ 4) ⊕ ((x_ 1 ⊗ (x_ 3 ⊗ n_ (pos 1))) ⊗ x_ 5)) ⊕ ((((x_ 2 ⊗ (x_ 3 ⊗ n_ (pos 1))) ⊕ ((x_ 0 ⊗ x_ 6) ⊗ n_ (pos 1))) ⊕ ((x_ 1 ⊗ n_ (pos 0)) ⊗ x_ 3)) ⊗ x_ 7))
      (((x_ 0 ⊗ x_ 4) ⊕ (x_ 1 ⊗ x_ 5) ⊕ (x_ 2 ⊗ x_ 7)) ⊗ x_ 3 ⊕ (x_ 0 ⊗ (x_ 6 ⊗ x_ 7))) refl
      ∙ (ap (λ (y : Whole). plus (times (plus (plus (times h.p t) (times h.q s)) (times h.r (whole d))) (whole f.d)) (times h.p y)) o
      ∙ solve golden (h.p ∷ h.q ∷ h.r ∷ whole f.d ∷ t ∷ s ∷ g ∷ whole d ∷ [])
      (((x_ 0 ⊗ x_ 4) ⊕ (x_ 1 ⊗ x_ 5) ⊕ (x_ 2 ⊗ x_ 7)) ⊗ x_ 3 ⊕ (x_ 0 ⊗ (x_ 6 ⊗ x_ 3)))
      (((x_ 0 ⊗ (x_ 4 ⊕ x_ 6)) ⊕ (x_ 1 ⊗ x_ 5) ⊕ (x_ 2 ⊗ x_ 7)) ⊗ x_ 3) refl)
  moved_value Two h t s =
      solve golden (h.p ∷ h.q ∷ h.r ∷ whole f.d ∷ t ∷ s ∷ top f ∷ whole d ∷ [])
      ((((x_ 0 ⊗ (n_ (pos 1) ⊗ x_ 3)) ⊗ x_ 5) ⊕ ((x_ 1 ⊗ (n_ (pos 1) ⊗ x_ 3)) ⊗ x_ 4)) ⊕ ((((x_ 2 ⊗ (n_ (pos 1) ⊗ x_ 3)) ⊕ ((x_ 0 ⊗ n_ (pos 0)) ⊗ x_ 3)) ⊕ ((x_ 1 ⊗ x_ 6) ⊗ n_ (pos 1))) ⊗ x_ 7))
      (((x_ 0 ⊗ x_ 5) ⊕ (x_ 1 ⊗ x_ 4) ⊕ (x_ 2 ⊗ x_ 7)) ⊗ x_ 3 ⊕ (x_ 1 ⊗ (x_ 6 ⊗ x_ 7))) refl
      ∙ (ap (λ (y : Whole). plus (times (plus (plus (times h.p s) (times h.q t)) (times h.r (whole d))) (whole f.d)) (times h.q y)) o
      ∙ solve golden (h.p ∷ h.q ∷ h.r ∷ whole f.d ∷ t ∷ s ∷ g ∷ whole d ∷ [])
      (((x_ 0 ⊗ x_ 5) ⊕ (x_ 1 ⊗ x_ 4) ⊕ (x_ 2 ⊗ x_ 7)) ⊗ x_ 3 ⊕ (x_ 1 ⊗ (x_ 6 ⊗ x_ 3)))
      (((x_ 0 ⊗ x_ 5) ⊕ (x_ 1 ⊗ (x_ 4 ⊕ x_ 6)) ⊕ (x_ 2 ⊗ x_ 7)) ⊗ x_ 3) refl)

  module _ (positive : pos 0 <ℤ f.d) where
    pub beyond_holds : (axis : Axis) (t s : Whole) → holds (point_at axis t s d) (beyond axis f) ≡ is_positive (minus t g)
    beyond_holds axis t s = ap is_positive (beyond_value axis t s) ∙ scaled (minus t g) f.d positive

    pub beneath_holds : (axis : Axis) (t s : Whole) → holds (point_at axis t s d) (beneath axis f) ≡ is_positive (minus g t)
    beneath_holds axis t s = ap is_positive (beneath_value axis t s) ∙ scaled (minus g t) f.d positive

    pub moved_holds : (axis : Axis) (h : Half) (t s : Whole) → holds (point_at axis t s d) (moved_along axis f h) ≡ holds (point_at axis (plus t g) s d) h
    moved_holds axis h t s = ap is_positive (moved_value axis h t s) ∙ scaled (value h (point_at axis (plus t g) s d)) f.d positive

-- ---- a half-plane divided by a common divisor

pub divided_holds : (h g : Half) (k : ℤ) → IsLess h g k → (z : Spot) → holds z g ≡ holds z h
divided_holds h g k l z =
    sym (scaled (value g z) k l.positive)
    ∙ ap is_positive (
    solve golden (g.p ∷ g.q ∷ g.r ∷ z.x ∷ z.y ∷ whole z.d ∷ whole k ∷ [])
    (((x_ 0 ⊗ x_ 3) ⊕ (x_ 1 ⊗ x_ 4) ⊕ (x_ 2 ⊗ x_ 5)) ⊗ x_ 6)
    (((x_ 0 ⊗ x_ 6) ⊗ x_ 3) ⊕ ((x_ 1 ⊗ x_ 6) ⊗ x_ 4) ⊕ ((x_ 2 ⊗ x_ 6) ⊗ x_ 5)) refl
    ∙ (ap (λ (y : Whole). plus (plus (times y z.x) (times (times g.q (whole k)) z.y)) (times (times g.r (whole k)) (whole z.d))) (sym l.p)
    ∙ (ap (λ (y : Whole). plus (plus (times h.p z.x) (times y z.y)) (times (times g.r (whole k)) (whole z.d))) (sym l.q)
    ∙ ap (λ (y : Whole). plus (plus (times h.p z.x) (times h.q z.y)) (times y (whole z.d))) (sym l.r))))
