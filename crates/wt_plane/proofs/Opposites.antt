-- The opposite of a half-plane is a half-plane.
use Rattle.std.specs.Prelude.{◌≡◌, ℕ, zero, suc, ◌/◌, ℤ, pos, negsuc, neg_ℤ, unsigned_abs, int_div, refl}
use Rattle.std.proofs.Common.{sym, ◌∙◌, ap, subst}
use Rattle.std.proofs.Math.IntN.{neg_ℤ-neg_ℤ}
use Rattle.std.proofs.Math.Nat.{zero-div}
use Rattle.wt_golden.specs.Whole.{Whole, opposite}
use Rattle.wt_golden.specs.Fractions.{common_of}
use Rattle.wt_golden.proofs.WholeRing.{same_whole}
use Rattle.wt_golden.proofs.Divisors.{abs_neg}
use Rattle.wt_golden.proofs.Sizes.{opposite_below}
use Rattle.wt_plane.specs.HalfPlanes.{Half, divided, reduced_half, numbers_of, opposite_half, IsHalfPlane, half_limit}
use Rattle.wt_plane.proofs.Regions.{opposite_direction}

div_neg : (x : ℤ) (g : ℕ) → int_div (neg_ℤ x) (pos g) ≡ neg_ℤ (int_div x (pos g))
div_neg (pos zero) g = rw (zero-div g) refl
div_neg (pos (suc n)) g = refl
div_neg (negsuc n) g = sym (neg_ℤ-neg_ℤ (pos (suc n / g)))

divided_opposite : (x : Whole) (g : ℕ) → divided (opposite x) g ≡ opposite (divided x g)
unfolding opposite
divided_opposite x g = same_whole _ _ (div_neg x.a g) (div_neg x.b g)

same_common : (h : Half) → common_of (numbers_of (opposite_half h)) ≡ common_of (numbers_of h)
unfolding opposite
same_common h = simp (abs_neg h.p.a, abs_neg h.p.b, abs_neg h.q.a, abs_neg h.q.b, abs_neg h.r.a, abs_neg h.r.b) refl

pub same_half : (f g : Half) → f.p ≡ g.p → f.q ≡ g.q → f.r ≡ g.r → f ≡ g
same_half f g p q r = λ i. record { p = p i; q = q i; r = r i }

pub reduced_opposite : (h : Half) → reduced_half (opposite_half h) ≡ opposite_half (reduced_half h)
unfolding reduced_half
reduced_opposite h = same_half _ _
    (ap (divided (opposite h.p)) (same_common h) ∙ divided_opposite h.p (common_of (numbers_of h)))
    (ap (divided (opposite h.q)) (same_common h) ∙ divided_opposite h.q (common_of (numbers_of h)))
    (ap (divided (opposite h.r)) (same_common h) ∙ divided_opposite h.r (common_of (numbers_of h)))

pub opposite_is_half_plane : (h : Half) → IsHalfPlane h → IsHalfPlane (opposite_half h)
opposite_is_half_plane h w = record {
  direction = opposite_direction h w.direction;
  small = record { p = opposite_below h.p half_limit w.small.p; q = opposite_below h.q half_limit w.small.q; r = opposite_below h.r half_limit w.small.r };
  lowest = reduced_opposite h ∙ ap opposite_half w.lowest;
}

-- from the six numbers
pub opposite_from : (h : Half) (a b c d e f : ℤ) → a ≡ neg_ℤ h.p.a → b ≡ neg_ℤ h.p.b → c ≡ neg_ℤ h.q.a → d ≡ neg_ℤ h.q.b → e ≡ neg_ℤ h.r.a → f ≡ neg_ℤ h.r.b
    → record { p = record { a = a; b = b }; q = record { a = c; b = d }; r = record { a = e; b = f } } ≡ opposite_half h
unfolding opposite
opposite_from h a b c d e f ea eb ec ed ee ef = same_half _ (opposite_half h) (same_whole _ _ ea eb) (same_whole _ _ ec ed) (same_whole _ _ ee ef)

pub opposite_half_plane_from : (h : Half) (a b c d e f : ℤ) → a ≡ neg_ℤ h.p.a → b ≡ neg_ℤ h.p.b → c ≡ neg_ℤ h.q.a → d ≡ neg_ℤ h.q.b → e ≡ neg_ℤ h.r.a → f ≡ neg_ℤ h.r.b
    → IsHalfPlane h → IsHalfPlane (record { p = record { a = a; b = b }; q = record { a = c; b = d }; r = record { a = e; b = f } })
opposite_half_plane_from h a b c d e f ea eb ec ed ee ef w =
    subst IsHalfPlane (sym (opposite_from h a b c d e f ea eb ec ed ee ef)) (opposite_is_half_plane h w)
