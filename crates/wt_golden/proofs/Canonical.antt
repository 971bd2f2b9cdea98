-- Fractions of one number have one form in lowest terms.
use Rattle.std.specs.Prelude.{◌≡◌, ℤ, pos, negsuc, ◌*ℤ◌, ◌<ℤ◌, unsigned_abs, [], ◌∷◌, refl}
use Rattle.std.proofs.Common.{sym, ◌∙◌, ap, arith}
use Rattle.std.proofs.lemmas.Int.{ints}
use Rattle.std.proofs.Math.IntN.{*ℤ_comm}
use Rattle.wt_ring.proofs.Integers.{integers}
use Rattle.wt_ring.proofs.Ring.{x_, ◌⊗◌, solve}
use Rattle.wt_golden.specs.Whole.{Whole}
use Rattle.wt_golden.specs.Fractions.{Fraction, top, common, common_of, lowest, IsSameNumber}
use Rattle.wt_golden.proofs.WholeRing.{same_whole}
use Rattle.wt_golden.proofs.Sizes.{times_whole}
use Rattle.wt_golden.proofs.Products.{mul_above, cancel_above}
use Rattle.wt_golden.proofs.Divisors.{common_divides, common_multiples, multiples, quotient_times}
use Rattle.wt_golden.proofs.Lowest.{abs_above, common_above, lowest_same_a, lowest_same_b, same_fraction}

-- ---- by the parts
pub same_a : (f g : Fraction) → IsSameNumber f g → f.a *ℤ g.d ≡ g.a *ℤ f.d
same_a f g e = ap (λ (w : Whole). w.a) (sym (times_whole (top f) g.d) ∙ e ∙ times_whole (top g) f.d)

pub same_b : (f g : Fraction) → IsSameNumber f g → f.b *ℤ g.d ≡ g.b *ℤ f.d
same_b f g e = ap (λ (w : Whole). w.b) (sym (times_whole (top f) g.d) ∙ e ∙ times_whole (top g) f.d)

pub lowest_same : (f : Fraction) → IsSameNumber (lowest f) f
lowest_same f =
    times_whole (top (lowest f)) f.d ∙ same_whole _ _ (lowest_same_a f) (lowest_same_b f) ∙ sym (times_whole (top f) (lowest f).d)

-- ---- the common divisors
itself : (d : ℤ) → pos 0 <ℤ d → pos (unsigned_abs d) ≡ d
itself (pos n) h = refl
itself (negsuc n) h = absurd (omega (arith, ints))

scaled : (f : Fraction) (k : ℤ) → pos 0 <ℤ k → pos (common f) *ℤ k ≡ pos (common_of (multiples k (f.a ∷ f.b ∷ f.d ∷ [])))
scaled f k h =
    ap (λ t. pos (common f) *ℤ t) (sym (itself k h))
    ∙ ap pos (sym (common_multiples k (f.a ∷ f.b ∷ f.d ∷ []) (abs_above k h)))

same_common : (f g : Fraction) → pos 0 <ℤ f.d → pos 0 <ℤ g.d → IsSameNumber f g → pos (common f) *ℤ g.d ≡ pos (common g) *ℤ f.d
same_common f g hf hg e =
    scaled f g.d hg
    ∙ ap (λ t. pos (common_of (t ∷ (f.b *ℤ g.d) ∷ (f.d *ℤ g.d) ∷ []))) (same_a f g e)
    ∙ ap (λ t. pos (common_of ((g.a *ℤ f.d) ∷ t ∷ (f.d *ℤ g.d) ∷ []))) (same_b f g e)
    ∙ ap (λ t. pos (common_of ((g.a *ℤ f.d) ∷ (g.b *ℤ f.d) ∷ t ∷ []))) (*ℤ_comm f.d g.d)
    ∙ sym (scaled g f.d hf)

same_quotient : (x y cf cg fn gn fd gd : ℤ) → x *ℤ cf ≡ fn → y *ℤ cg ≡ gn → fn *ℤ gd ≡ gn *ℤ fd → cf *ℤ gd ≡ cg *ℤ fd
    → pos 0 <ℤ cf → pos 0 <ℤ gd → x ≡ y
same_quotient x y cf cg fn gn fd gd ex ey en ec hc hd =
    cancel_above x y (cf *ℤ gd) (mul_above cf gd hc hd)
    (solve integers (x ∷ cf ∷ gd ∷ []) (x_ 0 ⊗ (x_ 1 ⊗ x_ 2)) ((x_ 0 ⊗ x_ 1) ⊗ x_ 2) refl
    ∙ ap (λ t. t *ℤ gd) ex ∙ en ∙ ap (λ t. t *ℤ fd) (sym ey)
    ∙ solve integers (y ∷ cg ∷ fd ∷ []) ((x_ 0 ⊗ x_ 1) ⊗ x_ 2) (x_ 0 ⊗ (x_ 1 ⊗ x_ 2)) refl
    ∙ ap (λ t. y *ℤ t) (sym ec))

above_pos : (n : Fraction) → pos 0 <ℤ n.d → pos 0 <ℤ pos (common n)
above_pos n h = let c = common_above n h in omega (arith, ints, c)

pub one_lowest : (f g : Fraction) → pos 0 <ℤ f.d → pos 0 <ℤ g.d → IsSameNumber f g → lowest f ≡ lowest g
unfolding lowest
one_lowest f g hf hg e =
    let v = common_divides (f.a ∷ f.b ∷ f.d ∷ []) in
    let w = common_divides (g.a ∷ g.b ∷ g.d ∷ []) in
    let c = same_common f g hf hg e in
    let p = above_pos f hf in
    same_fraction (lowest f) (lowest g)
    (same_quotient _ _ (pos (common f)) (pos (common g)) f.a g.a f.d g.d (quotient_times f.a (common f) v.0) (quotient_times g.a (common g) w.0) (same_a f g e) c p hg)
    (same_quotient _ _ (pos (common f)) (pos (common g)) f.b g.b f.d g.d (quotient_times f.b (common f) v.1.0) (quotient_times g.b (common g) w.1.0) (same_b f g e) c p hg)
    (same_quotient _ _ (pos (common f)) (pos (common g)) f.d g.d f.d g.d (quotient_times f.d (common f) v.1.1.0) (quotient_times g.d (common g) w.1.1.0) (*ℤ_comm f.d g.d) c p hg)
