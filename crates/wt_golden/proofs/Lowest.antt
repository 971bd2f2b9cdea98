-- Numbers in lowest terms.
use Rattle.std.specs.Prelude.{◌≡◌, ℕ, zero, suc, ◌*◌, ◌/◌, ◌<◌, ◌≤◌, ℤ, pos, negsuc, ◌<ℤ◌, ◌*ℤ◌, int_div, unsigned_abs, FitsSigned, [], ◌∷◌, refl}
use Rattle.std.proofs.Common.{sym, ◌∙◌, ap, subst, arith}
use Rattle.std.specs.Int.{◌∣◌}
use Rattle.std.proofs.lemmas.Int.{ints, to_z-of_z}
use mir.Syntax.{w128}
use mir.Val.{to_z, of_z}
use Rattle.std.proofs.lemmas.Nat.Gcd.{le_of_dvd}
use Rattle.std.proofs.Math.Nat.{div-mul_cancel, pos_of_dvd_of_pos, div-le_self, eq-one_of_dvd-one}
use Rattle.wt_golden.specs.Fractions.{Fraction, common, lowest, limit, IsWithin, IsGolden}
use Rattle.wt_golden.proofs.Divisors.{abs_quotient, common_divides, common_quotients, common_greatest, quotient_one, quotient_times}
use Rattle.wt_ring.proofs.Ring.{x_, ◌⊗◌, solve}
use Rattle.wt_ring.proofs.Integers.{integers}

pub abs_above : (d : ℤ) → pos 0 <ℤ d → 0 < unsigned_abs d
abs_above (pos n) h = omega (arith, ints)
abs_above (negsuc n) h = absurd (omega (arith, ints))

divides_d : (f : Fraction) → common f ∣ unsigned_abs f.d
divides_d f = (common_divides (f.a ∷ f.b ∷ f.d ∷ [])).1.1.0

pub common_above : (f : Fraction) → pos 0 <ℤ f.d → 0 < common f
common_above f h = pos_of_dvd_of_pos (divides_d f) (abs_above f.d h)

pub common_at_most : (f : Fraction) → pos 0 <ℤ f.d → common f ≤ unsigned_abs f.d
common_at_most f h = le_of_dvd (abs_above f.d h) (divides_d f)

some_left : (q g : ℕ) → 0 < q * g → pos 0 <ℤ pos q
some_left zero g h = absurd (omega arith)
some_left (suc q) g h = omega (arith, ints)

pub quotient_above : (d : ℤ) (g : ℕ) → pos 0 <ℤ d → g ∣ unsigned_abs d → pos 0 <ℤ int_div d (pos g)
quotient_above (pos n) g h d = some_left (n / g) g (subst (λ t. 0 < t) (sym (div-mul_cancel g d)) (abs_above (pos n) h))
quotient_above (negsuc n) g h d = absurd (omega (arith, ints))

pub lowest_above : (f : Fraction) → pos 0 <ℤ f.d → pos 0 <ℤ (lowest f).d
unfolding lowest
lowest_above f h = quotient_above f.d (common f) h (divides_d f)

pub same_fraction : (f g : Fraction) → f.a ≡ g.a → f.b ≡ g.b → f.d ≡ g.d → f ≡ g
same_fraction f g p q r = λ i. record { a = p i; b = q i; d = r i }

common_lowest : (f : Fraction) → pos 0 <ℤ f.d → common (lowest f) ≡ 1
unfolding lowest
common_lowest f h = common_quotients (f.a ∷ f.b ∷ f.d ∷ []) (common_above f h)

by_one : (f : Fraction) → common f ≡ 1 → lowest f ≡ f
unfolding lowest
by_one f e = same_fraction _ f
    (ap (λ g. int_div f.a (pos g)) e ∙ quotient_one f.a)
    (ap (λ g. int_div f.b (pos g)) e ∙ quotient_one f.b)
    (ap (λ g. int_div f.d (pos g)) e ∙ quotient_one f.d)

pub lowest_lowest : (f : Fraction) → pos 0 <ℤ f.d → lowest (lowest f) ≡ lowest f
lowest_lowest f h = by_one (lowest f) (common_lowest f h)

pub golden_lowest : (f g : Fraction) → pos 0 <ℤ f.d → g ≡ lowest f → IsWithin g → IsGolden g
golden_lowest f g h e w = record {
  divisor = subst (λ t. pos 0 <ℤ t.d) (sym e) (lowest_above f h);
  lowest = subst (λ t. lowest t ≡ t) (sym e) (lowest_lowest f h);
  within = w;
}

pub lowest_from : (f : Fraction) (a b d : ℤ) (g : ℕ) → g ≡ common f → a ≡ int_div f.a (pos g) → b ≡ int_div f.b (pos g) → d ≡ int_div f.d (pos g)
    → record { a = a; b = b; d = d } ≡ lowest f
unfolding lowest
lowest_from f a b d g e ea eb ed = same_fraction _ _
    (ea ∙ ap (λ t. int_div f.a (pos t)) e) (eb ∙ ap (λ t. int_div f.b (pos t)) e) (ed ∙ ap (λ t. int_div f.d (pos t)) e)

pub same_from : (f : Fraction) (a b d ra rb rd : ℤ) → record { a = a; b = b; d = d } ≡ lowest f → ra ≡ a → rb ≡ b → rd ≡ d → record { a = ra; b = rb; d = rd } ≡ lowest f
same_from f a b d ra rb rd e ea eb ed = same_fraction _ _ ea eb ed ∙ e

pub golden_from : (f : Fraction) (a b d ra rb rd : ℤ) → pos 0 <ℤ f.d → record { a = a; b = b; d = d } ≡ lowest f → ra ≡ a → rb ≡ b → rd ≡ d
    → IsWithin (record { a = a; b = b; d = d }) → IsGolden (record { a = ra; b = rb; d = rd })
golden_from f a b d ra rb rd h e ea eb ed w =
    golden_lowest f _ h (same_from f a b d ra rb rd e ea eb ed) (subst IsWithin (sym (same_fraction (record { a = ra; b = rb; d = rd }) (record { a = a; b = b; d = d }) ea eb ed)) w)

-- numbers that were passed as bits
pub passed : (a b d : ℤ) (g : ℕ) → FitsSigned w128 a → FitsSigned w128 b → FitsSigned w128 d
    → g ≡ common (record { a = to_z w128 (of_z w128 a); b = to_z w128 (of_z w128 b); d = to_z w128 (of_z w128 d) }) → g ≡ common (record { a = a; b = b; d = d })
passed a b d g fa fb fd e = e ∙ simp (to_z-of_z w128 a fa, to_z-of_z w128 b fb, to_z-of_z w128 d fd) refl

pub quotient_small : (n : ℤ) (g m : ℕ) → unsigned_abs n ≤ m → unsigned_abs (int_div n (pos g)) ≤ m
quotient_small n g m h = omega (arith, abs_quotient n g, div-le_self (unsigned_abs n) g)

quotient_below : (n : ℤ) (g m : ℕ) → unsigned_abs n < m → unsigned_abs (int_div n (pos g)) < m
quotient_below n g m h = omega (arith, abs_quotient n g, div-le_self (unsigned_abs n) g)

pub within_lowest : (f g : Fraction) → g ≡ lowest f → IsWithin f → IsWithin g
unfolding lowest
within_lowest f g e w = subst IsWithin (sym e) (record {
  a = quotient_below f.a (common f) limit w.a;
  b = quotient_below f.b (common f) limit w.b;
  d = quotient_below f.d (common f) limit w.d;
})

-- ---- the same number
crossed : (x y d e g : ℤ) → x *ℤ g ≡ y → e *ℤ g ≡ d → x *ℤ d ≡ y *ℤ e
crossed x y d e g ex ed =
    ap (λ t. x *ℤ t) (sym ed)
    ∙ solve integers (x ∷ e ∷ g ∷ []) (x_ 0 ⊗ (x_ 1 ⊗ x_ 2)) ((x_ 0 ⊗ x_ 2) ⊗ x_ 1) refl
    ∙ ap (λ t. t *ℤ e) ex

pub lowest_same_a : (f : Fraction) → (lowest f).a *ℤ f.d ≡ f.a *ℤ (lowest f).d
unfolding lowest
lowest_same_a f =
    let v = common_divides (f.a ∷ f.b ∷ f.d ∷ []) in
    crossed (lowest f).a f.a f.d (lowest f).d (pos (common f)) (quotient_times f.a (common f) v.0) (quotient_times f.d (common f) v.1.1.0)

pub lowest_same_b : (f : Fraction) → (lowest f).b *ℤ f.d ≡ f.b *ℤ (lowest f).d
unfolding lowest
lowest_same_b f =
    let v = common_divides (f.a ∷ f.b ∷ f.d ∷ []) in
    crossed (lowest f).b f.b f.d (lowest f).d (pos (common f)) (quotient_times f.b (common f) v.1.0) (quotient_times f.d (common f) v.1.1.0)

pub lowest_apart : (f : Fraction) (k : ℕ) → pos 0 <ℤ f.d → k ∣ unsigned_abs (lowest f).a → k ∣ unsigned_abs (lowest f).b → k ∣ unsigned_abs (lowest f).d → k ≡ 1
lowest_apart f k h da db dd =
    eq-one_of_dvd-one (subst (λ t. k ∣ t) (common_lowest f h) (common_greatest k ((lowest f).a ∷ (lowest f).b ∷ (lowest f).d ∷ []) (da, (db, (dd, tt)))))
