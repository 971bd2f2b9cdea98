-- The window of fractions is the window of whole numbers over a common denominator.
use Rattle.std.proofs.Common.{◌≡◌, true, false, not, ◌&&◌, refl, sym, ap, subst, ◌∙◌, inl, inr, [], ◌∷◌}
use Rattle.std.specs.Prelude.{ℤ, pos, ◌<ℤ◌}
use Rattle.wt_golden.specs.Whole.{Whole, whole, plus, minus, is_positive}
use Rattle.wt_golden.specs.Fractions.{Fraction, top, lowest, difference}
use Rattle.wt_ring.proofs.Ring.{x_, ◌⊕◌, ⊖_, n_, solve}
use Rattle.wt_golden.proofs.WholeRing.{golden}
use Rattle.wt_torus.specs.Boxes.{is_below}
use Rattle.wt_torus.specs.Rotation.{window}
use Rattle.wt_torus.proofs.Rotation.{flag, zero_false}
use Rattle.wt_torus.proofs.Scale.{IsOver, IsLowered, lowered_over, sum_over, sum_above, difference_over, difference_above, less_is}
use Rattle.wt_induce.specs.Zones.{frame, twice}
use Rattle.wt_induce.proofs.Points.{IsFrame}

module _ (lowest_is : (f : Fraction) → pos 0 <ℤ f.d → (k : ℤ) × IsLowered f (lowest f) k)
    (D : ℤ) (h : pos 0 <ℤ D) (length move : Fraction) (L M : Whole) (hl : pos 0 <ℤ length.d) (hm : pos 0 <ℤ move.d) (ol : IsOver D length L) (om : IsOver D move M) where
  twice_over : IsOver D (twice move) (plus M M)
  twice_over = sum_over D move move M M om om

  twice_above : pos 0 <ℤ (twice move).d
  twice_above = sum_above move move hm hm

  test_is : is_below (top (twice move)) (twice move).d length ≡ is_positive (minus L (plus M M))
  test_is = less_is D (twice move) length (plus M M) L h twice_above hl twice_over ol

  back_is : is_below (top length) length.d (twice move) ≡ is_positive (minus (plus M M) L)
  back_is = less_is D length (twice move) L (plus M M) h hl twice_above ol twice_over

  lowered : (f : Fraction) (F : Whole) → pos 0 <ℤ f.d → IsOver D f F → IsOver D (lowest f) F × (pos 0 <ℤ (lowest f).d)
  lowered f F k o = let l = lowest_is f k in (lowered_over D f (lowest f) l.0 F l.1 o, l.1.over)

  pub rest : IsOver D (lowest (difference length move)) (minus L M) × (pos 0 <ℤ (lowest (difference length move)).d)
  rest = lowered (difference length move) (minus L M) (difference_above length move hl hm) (difference_over D length move L M ol om)

  abbrev left : Fraction
  left = lowest (difference length move)

  -- the rest less the move, and the move less the rest
  twice_less : IsOver D (lowest (difference left move)) (minus L (plus M M)) × (pos 0 <ℤ (lowest (difference left move)).d)
  twice_less =
      let l = lowered (difference left move) (minus (minus L M) M) (difference_above left move rest.1 hm) (difference_over D left move (minus L M) M rest.0 om) in
      (subst (λ (w : Whole). IsOver D (lowest (difference left move)) w) (solve golden (L ∷ M ∷ []) ((x_ 0 ⊕ ⊖_ (x_ 1)) ⊕ ⊖_ (x_ 1)) (x_ 0 ⊕ ⊖_ (x_ 1 ⊕ x_ 1)) refl) l.0, l.1)

  less_twice : IsOver D (lowest (difference move left)) (minus (plus M M) L) × (pos 0 <ℤ (lowest (difference move left)).d)
  less_twice =
      let l = lowered (difference move left) (minus M (minus L M)) (difference_above move left hm rest.1) (difference_over D move left M (minus L M) om rest.0) in
      (subst (λ (w : Whole). IsOver D (lowest (difference move left)) w) (solve golden (L ∷ M ∷ []) (x_ 1 ⊕ ⊖_ (x_ 0 ⊕ ⊖_ (x_ 1))) ((x_ 1 ⊕ x_ 1) ⊕ ⊖_ (x_ 0)) refl) l.0, l.1)

  pub frame_is : IsFrame D (frame length move) (window L M)
  frame_is = elim (flag (is_positive (minus L (plus M M)))) [
    | inl e ↦ rw (test_is ∙ e, e) (record { size_over = rest.1; size = rest.0; bound_over = twice_less.1; bound = twice_less.0; single = refl })
    | inr e ↦ rw (test_is ∙ e, e) (record { size_over = hm; size = om; bound_over = rest.1; bound = rest.0; single = refl })
  ]

  pub move_is : IsOver D (frame length move).step (window L M).move × (pos 0 <ℤ (frame length move).step.d)
  move_is = elim (flag (is_positive (minus L (plus M M)))) [
    | inl e ↦ rw (test_is ∙ e, e) (om, hm)
    | inr e ↦ rw (test_is ∙ e, e) less_twice
  ]

  nothing_left : (x : Whole) → x ≡ whole (pos 0) → is_positive x ≡ false
  nothing_left x e = ap is_positive e ∙ zero_false

  pub half_is : (not (is_below (top (twice move)) (twice move).d length) && not (is_below (top length) length.d (twice move))) ≡ false → plus M M ≡ L → ⊥
  half_is e z =
      let a : is_below (top (twice move)) (twice move).d length ≡ false = test_is ∙ nothing_left (minus L (plus M M)) (ap (λ (w : Whole). minus w (plus M M)) (sym z) ∙ solve golden (plus M M ∷ []) (x_ 0 ⊕ ⊖_ (x_ 0)) (n_ (pos 0)) refl) in
      let b : is_below (top length) length.d (twice move) ≡ false = back_is ∙ nothing_left (minus (plus M M) L) (ap (λ (w : Whole). minus (plus M M) w) (sym z) ∙ solve golden (plus M M ∷ []) (x_ 0 ⊕ ⊖_ (x_ 0)) (n_ (pos 0)) refl) in
      let c : true ≡ false = rw (a, b) at e in cc
