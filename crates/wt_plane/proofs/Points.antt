-- Points over their least common denominator.
use Rattle.std.specs.Prelude.{◌≡◌, ℕ, ◌<◌, ◌≤◌, ℤ, pos, ◌<ℤ◌, int_div, unsigned_abs, [], ◌∷◌, refl}
use Rattle.std.proofs.Common.{sym, ◌∙◌, ap, subst}
use Rattle.std.specs.Int.{◌∣◌}
use Rattle.std.proofs.lemmas.Nat.Gcd.{le_of_dvd}
use Rattle.std.proofs.Math.Nat.{pos_of_dvd_of_pos}
use Rattle.wt_golden.specs.Whole.{Whole, whole, times}
use Rattle.wt_golden.specs.Fractions.{Fraction, top, over, lowest, common_of, IsSameNumber, IsGolden}
use Rattle.wt_ring.proofs.Ring.{x_, ◌⊗◌, solve}
use Rattle.wt_golden.proofs.Canonical.{one_lowest}
use Rattle.wt_golden.proofs.Products.{mul_above}
use Rattle.wt_golden.proofs.WholeRing.{golden, same_whole, whole_times}
use Rattle.wt_golden.proofs.Divisors.{common_divides, common_quotients, quotient_one, quotient_times}
use Rattle.wt_golden.proofs.Lowest.{abs_above, quotient_above}
use Rattle.wt_plane.specs.HalfPlanes.{Spot, IsSpot, IsPoint, IsSmallSpot, divided, reduced_spot, spot_numbers, spot, x_of, y_of}
use Rattle.wt_plane.proofs.Reduced.{divided_one, whole_again}

divides_d : (z : Spot) → common_of (spot_numbers z) ∣ unsigned_abs z.d
divides_d z = (common_divides (spot_numbers z)).1.1.1.1.0

pub spot_above_zero : (z : Spot) → pos 0 <ℤ z.d → 0 < common_of (spot_numbers z)
spot_above_zero z h = pos_of_dvd_of_pos (divides_d z) (abs_above z.d h)

pub spot_at_most : (z : Spot) → pos 0 <ℤ z.d → common_of (spot_numbers z) ≤ unsigned_abs z.d
spot_at_most z h = le_of_dvd (abs_above z.d h) (divides_d z)

same_spot : (y z : Spot) → y.x ≡ z.x → y.y ≡ z.y → y.d ≡ z.d → y ≡ z
same_spot y z p q r = λ i. record { x = p i; y = q i; d = r i }

reduced_divisor : (z : Spot) → pos 0 <ℤ z.d → pos 0 <ℤ (reduced_spot z).d
unfolding reduced_spot
reduced_divisor z h = quotient_above z.d (common_of (spot_numbers z)) h (divides_d z)

common_once : (z : Spot) → pos 0 <ℤ z.d → common_of (spot_numbers (reduced_spot z)) ≡ 1
unfolding reduced_spot
common_once z h = common_quotients (spot_numbers z) (spot_above_zero z h)

by_one : (z : Spot) → common_of (spot_numbers z) ≡ 1 → reduced_spot z ≡ z
unfolding reduced_spot
by_one z e = same_spot _ z (ap (divided z.x) e ∙ divided_one z.x) (ap (divided z.y) e ∙ divided_one z.y) (ap (λ g. int_div z.d (pos g)) e ∙ quotient_one z.d)

is_point : (s z : Spot) → pos 0 <ℤ s.d → z ≡ reduced_spot s → IsSmallSpot z → IsPoint z
is_point s z h e w = record {
  spot = subst IsSpot (sym e) (record { divisor = reduced_divisor s h });
  small = w;
  lowest = subst (λ t. reduced_spot t ≡ t) (sym e) (by_one (reduced_spot s) (common_once s h));
}

pub spot_from : (s k : Spot) (a b c d e : ℤ) → a ≡ k.x.a → b ≡ k.x.b → c ≡ k.y.a → d ≡ k.y.b → e ≡ k.d → k ≡ reduced_spot s
    → record { x = record { a = a; b = b }; y = record { a = c; b = d }; d = e } ≡ reduced_spot s
spot_from s k a b c d e ea eb ec ed ee is = same_spot _ k (same_whole _ k.x ea eb) (same_whole _ k.y ec ed) ee ∙ is

pub point_from : (s k : Spot) (a b c d e : ℤ) → a ≡ k.x.a → b ≡ k.x.b → c ≡ k.y.a → d ≡ k.y.b → e ≡ k.d → pos 0 <ℤ s.d → k ≡ reduced_spot s → IsSmallSpot k
    → IsPoint (record { x = record { a = a; b = b }; y = record { a = c; b = d }; d = e })
point_from s k a b c d e ea eb ec ed ee h is w =
    subst IsPoint (sym (same_spot _ k (same_whole _ k.x ea eb) (same_whole _ k.y ec ed) ee)) (is_point s k h is w)

-- ---- a point made of two numbers has them as its coordinates
record Again (z : Spot) (g : ℕ) : Type 0 where
  x : times (divided z.x g) (whole (pos g)) ≡ z.x
  y : times (divided z.y g) (whole (pos g)) ≡ z.y
  d : times (whole (int_div z.d (pos g))) (whole (pos g)) ≡ whole z.d

again : (z : Spot) → Again z (common_of (spot_numbers z))
again z =
    let g = common_of (spot_numbers z) in
    let v = common_divides (spot_numbers z) in
    record {
      x = whole_again z.x g v.0 v.1.0;
      y = whole_again z.y g v.1.1.0 v.1.1.1.0;
      d = sym (whole_times (int_div z.d (pos g)) (pos g)) ∙ ap whole (quotient_times z.d g v.1.1.1.1.0);
    }

-- dividing by the common divisor keeps the coordinates
divided_same : (n m : Whole) (d e : ℤ) (g : Whole) → times n g ≡ m → times (whole d) g ≡ whole e → IsSameNumber (over n d) (over m e)
divided_same n m d e g en ed =
    ap (times n) (sym ed)
    ∙ solve golden (n ∷ whole d ∷ g ∷ []) (x_ 0 ⊗ (x_ 1 ⊗ x_ 2)) ((x_ 0 ⊗ x_ 2) ⊗ x_ 1) refl
    ∙ ap (λ t. times t (whole d)) en

x_same : (x y : Fraction) → IsSameNumber (over (spot x y).x (spot x y).d) x
x_same x y =
    solve golden (top x ∷ whole x.d ∷ whole y.d ∷ []) ((x_ 0 ⊗ x_ 2) ⊗ x_ 1) (x_ 0 ⊗ (x_ 1 ⊗ x_ 2)) refl
    ∙ ap (times (top x)) (sym (whole_times x.d y.d))

y_same : (x y : Fraction) → IsSameNumber (over (spot x y).y (spot x y).d) y
y_same x y =
    solve golden (top y ∷ whole x.d ∷ whole y.d ∷ []) ((x_ 0 ⊗ x_ 1) ⊗ x_ 2) (x_ 0 ⊗ (x_ 1 ⊗ x_ 2)) refl
    ∙ ap (times (top y)) (sym (whole_times x.d y.d))

pub x_again : (x y : Fraction) → pos 0 <ℤ x.d → pos 0 <ℤ y.d → lowest x ≡ x → x_of (reduced_spot (spot x y)) ≡ x
unfolding reduced_spot
x_again x y hx hy e =
    let s = spot x y in
    let above : pos 0 <ℤ s.d = mul_above x.d y.d hx hy in
    let w = again s in
    one_lowest (over (reduced_spot s).x (reduced_spot s).d) (over s.x s.d) (reduced_divisor s above) above
    (divided_same (reduced_spot s).x s.x (reduced_spot s).d s.d (whole (pos (common_of (spot_numbers s)))) w.x w.d)
    ∙ one_lowest (over s.x s.d) x above hx (x_same x y) ∙ e

pub y_again : (x y : Fraction) → pos 0 <ℤ x.d → pos 0 <ℤ y.d → lowest y ≡ y → y_of (reduced_spot (spot x y)) ≡ y
unfolding reduced_spot
y_again x y hx hy e =
    let s = spot x y in
    let above : pos 0 <ℤ s.d = mul_above x.d y.d hx hy in
    let w = again s in
    one_lowest (over (reduced_spot s).y (reduced_spot s).d) (over s.y s.d) (reduced_divisor s above) above
    (divided_same (reduced_spot s).y s.y (reduced_spot s).d s.d (whole (pos (common_of (spot_numbers s)))) w.y w.d)
    ∙ one_lowest (over s.y s.d) y above hy (y_same x y) ∙ e

pub both_again : (x y : Fraction) (z : Spot) → IsGolden x → IsGolden y → z ≡ reduced_spot (spot x y) → (x_of z ≡ x) × (y_of z ≡ y)
both_again x y z gx gy e = (
  ap x_of e ∙ x_again x y gx.divisor gy.divisor gx.lowest,
  ap y_of e ∙ y_again x y gx.divisor gy.divisor gy.lowest,
)
