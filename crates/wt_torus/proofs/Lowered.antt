-- Lowest terms, and half-planes without a common divisor: what they are less.
use Rattle.std.proofs.Common.{arith, ◌≡◌, ℕ, zero, suc, ◌*◌, ◌/◌, [], ◌∷◌, refl, sym, ap, ◌∙◌}
use Rattle.std.specs.Prelude.{ℤ, pos, negsuc, neg_ℤ, ◌*ℤ◌, ◌<ℤ◌, int_div, unsigned_abs}
use Rattle.std.specs.Int.{◌∣◌}
use Rattle.std.proofs.lemmas.Int.{ints}
use Rattle.std.proofs.Math.Nat.{div-mul_cancel, zero-div}
use Rattle.std.proofs.Math.IntN.{pos-*ℤ-pos}
use Rattle.wt_golden.specs.Whole.{Whole, whole, times, is_positive}
use Rattle.wt_golden.specs.Fractions.{Fraction, top, lowest, common, common_of}
use Rattle.wt_ring.proofs.Ring.{x_, ◌⊗◌, ⊖_, n_, solve}
use Rattle.wt_ring.proofs.Integers.{integers}
use Rattle.wt_golden.proofs.WholeRing.{same_whole, whole_times, times_a, times_b}
use Rattle.wt_golden.proofs.Order.{positive_whole, whole_positive}
use Rattle.wt_golden.proofs.Divisors.{common_divides}
use Rattle.wt_plane.specs.HalfPlanes.{Half, numbers_of, reduced_half}
use Rattle.wt_torus.proofs.Scale.{IsLowered, scaled}

-- what is divided out: the divisor, or 1 where all numbers are 0
pub factor : ℕ → ℤ
factor zero = pos 1
factor (suc g) = pos (suc g)

pub factor_above : (g : ℕ) → pos 0 <ℤ factor g
unfolding factor
factor_above zero = omega (arith, ints)
factor_above (suc g) = omega (arith, ints)

natural : (g n : ℕ) → g ∣ n → pos (n / g) *ℤ factor g ≡ pos n
unfolding factor
natural zero n d =
    let e : (n / 0) * 0 ≡ n = div-mul_cancel 0 d in
    let z : n ≡ 0 = omega arith in
    let q : n / 0 ≡ 0 = ap (λ (m : ℕ). m / 0) z ∙ zero-div 0 in
    rw (q, z) refl
natural (suc g) n d = pos-*ℤ-pos (n / suc g) (suc g) ∙ ap pos (div-mul_cancel (suc g) d)

negated : (x y : ℤ) → neg_ℤ x *ℤ y ≡ neg_ℤ (x *ℤ y)
negated x y = solve integers (x ∷ y ∷ []) (⊖_ (x_ 0) ⊗ x_ 1) (⊖_ (x_ 0 ⊗ x_ 1)) refl

pub quotient_back : (g : ℕ) (x : ℤ) → g ∣ unsigned_abs x → int_div x (pos g) *ℤ factor g ≡ x
quotient_back g (pos n) d = natural g n d
quotient_back g (negsuc n) d = negated (pos (suc n / g)) (factor g) ∙ ap neg_ℤ (natural g (suc n) d)

times_whole : (x : Whole) (k : ℤ) → times x (whole k) ≡ record { a = x.a *ℤ k; b = x.b *ℤ k }
unfolding times
times_whole x k = same_whole _ _
    (solve integers (x.a ∷ x.b ∷ k ∷ []) (times_a (x_ 0) (x_ 1) (x_ 2) (n_ (pos 0))) (x_ 0 ⊗ x_ 2) refl)
    (solve integers (x.a ∷ x.b ∷ k ∷ []) (times_b (x_ 0) (x_ 1) (x_ 2) (n_ (pos 0))) (x_ 1 ⊗ x_ 2) refl)

pub divided_back : (x y : Whole) (k : ℤ) → y.a *ℤ k ≡ x.a → y.b *ℤ k ≡ x.b → x ≡ times y (whole k)
divided_back x y k e f = same_whole x (record { a = y.a *ℤ k; b = y.b *ℤ k }) (sym e) (sym f) ∙ sym (times_whole y k)

pub quotient_above : (q k : ℤ) (d : ℤ) → pos 0 <ℤ k → q *ℤ k ≡ d → pos 0 <ℤ d → pos 0 <ℤ q
quotient_above q k d h e over =
    let p = positive_whole d over in
    let same : whole d ≡ times (whole q) (whole k) = ap whole (sym e) ∙ whole_times q k in
    whole_positive q (record { above = sym (scaled (whole q) k h) ∙ (ap is_positive (sym same) ∙ p.above) })

pub lowest_is : (f : Fraction) → pos 0 <ℤ f.d → (k : ℤ) × IsLowered f (lowest f) k
unfolding lowest
lowest_is f over =
    let g = common f in
    let d = common_divides (f.a ∷ f.b ∷ f.d ∷ []) in
    let a = quotient_back g f.a d.0 in
    let b = quotient_back g f.b d.1.0 in
    let c = quotient_back g f.d d.1.1.0 in (
      factor g,
      record {
        positive = factor_above g;
        over = quotient_above (int_div f.d (pos g)) (factor g) f.d (factor_above g) c over;
        top = divided_back (top f) (record { a = int_div f.a (pos g); b = int_div f.b (pos g) }) (factor g) a b;
        d = ap whole (sym c) ∙ whole_times (int_div f.d (pos g)) (factor g);
      },
    )

-- h is g, each number times k
pub record IsLess (h g : Half) (k : ℤ) : Type 0 where
  pub positive : pos 0 <ℤ k
  pub p : h.p ≡ times g.p (whole k)
  pub q : h.q ≡ times g.q (whole k)
  pub r : h.r ≡ times g.r (whole k)

pub less_is_half : (h : Half) → (k : ℤ) × IsLess h (reduced_half h) k
unfolding reduced_half
less_is_half h =
    let g = common_of (numbers_of h) in
    let d = common_divides (numbers_of h) in (
      factor g,
      record {
        positive = factor_above g;
        p = divided_back h.p (record { a = int_div h.p.a (pos g); b = int_div h.p.b (pos g) }) (factor g) (quotient_back g h.p.a d.0) (quotient_back g h.p.b d.1.0);
        q = divided_back h.q (record { a = int_div h.q.a (pos g); b = int_div h.q.b (pos g) }) (factor g) (quotient_back g h.q.a d.1.1.0) (quotient_back g h.q.b d.1.1.1.0);
        r = divided_back h.r (record { a = int_div h.r.a (pos g); b = int_div h.r.b (pos g) }) (factor g) (quotient_back g h.r.a d.1.1.1.1.0) (quotient_back g h.r.b d.1.1.1.1.1.0);
      },
    )
