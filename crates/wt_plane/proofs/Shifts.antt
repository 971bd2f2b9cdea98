-- A half-plane moved is the half-plane at points shifted.
use Rattle.std.specs.Prelude.{◌≡◌, ◌↔◌, ◌<◌, ℕ, ℤ, pos, ◌+ℤ◌, ◌*ℤ◌, Result, Ok, Err, MatchResult, IfOk, [], ◌∷◌, refl}
use Rattle.std.proofs.Common.{sym, ◌∙◌, ap, subst, inl, inr}
use Rattle.wt_golden.specs.Whole.{Whole, whole, plus, times, opposite, IsPositive}
use Rattle.wt_golden.specs.Sizes.{IsBelow}
use Rattle.wt_golden.specs.Fractions.{Fraction, top, common_of}
use Rattle.wt_ring.proofs.Ring.{x_, n_, ◌⊕◌, ◌⊗◌, ⊖_, solve}
use Rattle.wt_golden.proofs.WholeRing.{golden, same_whole, whole_times}
use Rattle.wt_golden.proofs.Order.{positive_times, positive_or_not, positive_not_zero}
use Rattle.wt_plane.specs.HalfPlanes.{Half, Spot, value, Holds, shifted, moved_half, reduced_half, numbers_of, HasDirection}
use Rattle.wt_plane.proofs.Reduced.{reduced_holds, half_above}

shape : Half → Spot → Fraction → Fraction → Whole → Whole → Whole → Whole → Whole
shape h z tx ty d dy dx all = plus (plus (times h.p (plus (times z.x d) (times (top tx) dy))) (times h.q (plus (times z.y d) (times (top ty) dx)))) (times h.r all)

moved_value : (h : Half) (z : Spot) (tx ty : Fraction) → value (moved_half h tx ty) z ≡ value h (shifted z tx ty)
unfolding moved_half shape
moved_value h z tx ty =
    let dx = whole tx.d in
    let dy = whole ty.d in
    let dz = whole z.d in
    solve golden (h.p ∷ h.q ∷ h.r ∷ z.x ∷ z.y ∷ dz ∷ top tx ∷ top ty ∷ dx ∷ dy ∷ [])
    ((x_ 0 ⊗ (x_ 8 ⊗ x_ 9)) ⊗ x_ 3 ⊕ (x_ 1 ⊗ (x_ 8 ⊗ x_ 9)) ⊗ x_ 4 ⊕ (x_ 2 ⊗ (x_ 8 ⊗ x_ 9) ⊕ (x_ 0 ⊗ x_ 6) ⊗ x_ 9 ⊕ (x_ 1 ⊗ x_ 7) ⊗ x_ 8) ⊗ x_ 5)
    (x_ 0 ⊗ (x_ 3 ⊗ (x_ 8 ⊗ x_ 9) ⊕ x_ 6 ⊗ (x_ 5 ⊗ x_ 9)) ⊕ x_ 1 ⊗ (x_ 4 ⊗ (x_ 8 ⊗ x_ 9) ⊕ x_ 7 ⊗ (x_ 5 ⊗ x_ 8)) ⊕ x_ 2 ⊗ (x_ 5 ⊗ (x_ 8 ⊗ x_ 9))) refl
    ∙ ap (λ t. shape h z tx ty t (times dz dy) (times dz dx) (times dz (times dx dy))) (sym (whole_times tx.d ty.d))
    ∙ ap (λ t. shape h z tx ty (whole (tx.d *ℤ ty.d)) t (times dz dx) (times dz (times dx dy))) (sym (whole_times z.d ty.d))
    ∙ ap (λ t. shape h z tx ty (whole (tx.d *ℤ ty.d)) (whole (z.d *ℤ ty.d)) t (times dz (times dx dy))) (sym (whole_times z.d tx.d))
    ∙ ap (λ t. shape h z tx ty (whole (tx.d *ℤ ty.d)) (whole (z.d *ℤ ty.d)) (whole (z.d *ℤ tx.d)) (times dz t)) (sym (whole_times tx.d ty.d))
    ∙ ap (λ t. shape h z tx ty (whole (tx.d *ℤ ty.d)) (whole (z.d *ℤ ty.d)) (whole (z.d *ℤ tx.d)) t) (sym (whole_times z.d (tx.d *ℤ ty.d)))

-- a product with something above 0 is 0 only where the other is
other_zero : (x d : Whole) → IsPositive d → times x d ≡ whole (pos 0) → x ≡ whole (pos 0)
other_zero x d p e = elim (positive_or_not x) as (λ _. x ≡ whole (pos 0)) [
  | inl z ↦ z
  | inr s ↦ elim s as (λ _. x ≡ whole (pos 0)) [
    | inl f ↦ absurd (positive_not_zero (subst IsPositive e (positive_times x d f p)))
    | inr f ↦ absurd (positive_not_zero (subst IsPositive
        (solve golden (x ∷ d ∷ []) (⊖_ (x_ 0) ⊗ x_ 1) (⊖_ (x_ 0 ⊗ x_ 1)) refl ∙ ap opposite e ∙ solve golden [] (⊖_ (n_ (pos 0))) (n_ (pos 0)) refl)
        (positive_times (opposite x) d f p)))
  ]
]

pub moved_direction : (h k : Half) (tx ty : Fraction) → HasDirection h → IsPositive (times (whole tx.d) (whole ty.d)) → k ≡ moved_half h tx ty → HasDirection k
unfolding moved_half
moved_direction h k tx ty d p e z =
    let w : HasDirection (moved_half h tx ty) = λ z'. d (other_zero h.p (times (whole tx.d) (whole ty.d)) p z'.0, other_zero h.q (times (whole tx.d) (whole ty.d)) p z'.1) in
    subst HasDirection (sym e) w z

pub moved_points : (h k : Half) (tx ty : Fraction) (m : ℕ) → HasDirection k → IsBelow k.p m → IsBelow k.q m → k ≡ moved_half h tx ty
    → (z : Spot) → Holds (reduced_half (moved_half h tx ty)) z ↔ Holds h (shifted z tx ty)
moved_points h k tx ty m d sp sq e z =
    let r = reduced_holds (moved_half h tx ty) z (subst (λ t. 0 < common_of (numbers_of t)) e (half_above k m d sp sq)) in
    (λ f. subst IsPositive (moved_value h z tx ty) (r.0 f), λ f. r.1 (subst IsPositive (sym (moved_value h z tx ty)) f))

pub three_from : (r f s : Whole) (a b : ℤ) → a ≡ r.a +ℤ f.a +ℤ s.a → b ≡ r.b +ℤ f.b +ℤ s.b → record { a = a; b = b } ≡ plus (plus r f) s
unfolding plus
three_from r f s a b ea eb = same_whole _ _ ea eb

pub ok_follows : {A E : Type 0} (r : Result A E) (P Q : A → Type 0) (N : E → Type 0) → MatchResult r P N → ((a : A) → P a → Q a) → IfOk r Q
ok_follows (Ok a) P Q N m f = f a m
ok_follows (Err e) P Q N m f = tt
