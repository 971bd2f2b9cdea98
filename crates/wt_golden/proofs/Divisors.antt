-- The greatest common divisor of numbers, and numbers divided by it.
use Rattle.std.specs.Prelude.{◌≡◌, ℕ, zero, suc, ◌*◌, ◌/◌, ◌%◌, ◌<◌, ℤ, pos, negsuc, neg_ℤ, ◌*ℤ◌, unsigned_abs, int_div, List, [], ◌∷◌, map, refl}
use Rattle.std.proofs.Common.{sym, ◌∙◌, ap, subst, arith}
use Rattle.std.specs.Int.{IsGcd, ◌∣◌}
use Rattle.std.proofs.lemmas.Nat.Gcd.{IsGcd-from_zero, IsGcd-from_mod, dvd_trans, dvd_antisymm, le_of_dvd}
use Rattle.std.proofs.Math.Nat.{div-mul_cancel, mul-dvd-mul_right, dvd_of_mul-dvd-mul_right, dvd-mul_left, dvd-zero, pos_of_dvd_of_pos, mod-lt, div-one}
use Rattle.std.proofs.lemmas.Int.{ints, unsigned_abs-mul}
use Rattle.wt_golden.specs.Fractions.{gcd, gcd_in, common_of}

-- ---- enough steps are enough
same_steps : (m n a b : ℕ) → b < m → b < n → gcd_in m a b ≡ gcd_in n a b
same_steps zero n a b h k = absurd (omega arith)
same_steps (suc m) zero a b h k = absurd (omega arith)
same_steps (suc m) (suc n) a zero h k = refl
same_steps (suc m) (suc n) a (suc b) h k =
    let r : a % suc b < suc b = mod-lt a (omega arith) in
    same_steps m n (suc b) (a % suc b) (omega (arith, r, h)) (omega (arith, r, k))

pub gcd_zero : (a b : ℕ) → b ≡ 0 → gcd a b ≡ a
unfolding gcd
gcd_zero a b e = subst (λ t. gcd_in (suc t) a t ≡ a) (sym e) refl

pub gcd_step : (a b : ℕ) → 0 < b → gcd a b ≡ gcd b (a % b)
unfolding gcd
gcd_step a zero h = absurd (omega arith)
gcd_step a (suc b) h =
    let r : a % suc b < suc b = mod-lt a (omega arith) in
    same_steps (suc b) (suc (a % suc b)) (suc b) (a % suc b) r (omega arith)

is_gcd_in : (steps a b : ℕ) → b < steps → IsGcd a b (gcd_in steps a b)
is_gcd_in zero a b h = absurd (omega arith)
is_gcd_in (suc steps) a zero h = IsGcd-from_zero a zero refl
is_gcd_in (suc steps) a (suc b) h =
    let r : a % suc b < suc b = mod-lt a (omega arith) in
    IsGcd-from_mod a (suc b) (gcd_in steps (suc b) (a % suc b)) (is_gcd_in steps (suc b) (a % suc b) (omega (arith, r, h)))

pub is_gcd : (a b : ℕ) → IsGcd a b (gcd a b)
unfolding gcd
is_gcd a b = is_gcd_in (suc b) a b (omega arith)

-- ---- of a list
abbrev pub Divides : ℕ → List ℤ → Type 0
Divides k [] = Unit {0}
Divides k (n ∷ ns) = (k ∣ unsigned_abs n) × Divides k ns

all_divided : (k g : ℕ) (ns : List ℤ) → k ∣ g → Divides g ns → Divides k ns
all_divided k g [] h d = tt
all_divided k g (n ∷ ns) h d = (dvd_trans k h d.0, all_divided k g ns h d.1)

pub common_divides : (ns : List ℤ) → Divides (common_of ns) ns
common_divides [] = tt
common_divides (n ∷ ns) =
    let g = is_gcd (unsigned_abs n) (common_of ns) in
    (g.0, all_divided (gcd (unsigned_abs n) (common_of ns)) (common_of ns) ns g.1 (common_divides ns))

pub common_greatest : (k : ℕ) (ns : List ℤ) → Divides k ns → k ∣ common_of ns
common_greatest k [] d = dvd-zero k
common_greatest k (n ∷ ns) d = (is_gcd (unsigned_abs n) (common_of ns)).2 k d.0 (common_greatest k ns d.1)

-- ---- divided by it
abbrev pub quotients : ℕ → List ℤ → List ℤ
quotients g ns = map (λ n. int_div n (pos g)) ns

-- a number and its negative are equally large
pub abs_neg : (x : ℤ) → unsigned_abs (neg_ℤ x) ≡ unsigned_abs x
abs_neg (pos zero) = refl
abs_neg (pos (suc n)) = refl
abs_neg (negsuc n) = refl

pub abs_quotient : (n : ℤ) (g : ℕ) → unsigned_abs (int_div n (pos g)) ≡ unsigned_abs n / g
abs_quotient (pos n) g = refl
abs_quotient (negsuc n) g = abs_neg (pos (suc n / g))

back : (k g : ℕ) (ns : List ℤ) → Divides g ns → Divides k (quotients g ns) → Divides (k * g) ns
back k g [] d e = tt
back k g (n ∷ ns) d e =
    (subst (λ t. k * g ∣ t) (div-mul_cancel g d.0) (mul-dvd-mul_right k (subst (λ t. k ∣ t) (abs_quotient n g) e.0) g), back k g ns d.1 e.1)

one_of : (k g : ℕ) → 0 < g → k * g ∣ g → k ≡ 1
one_of zero g h d = absurd (omega (arith, pos_of_dvd_of_pos d h))
one_of (suc zero) g h d = refl
one_of (suc (suc k)) g h d = absurd (omega (arith, le_of_dvd h d))

pub common_quotients : (ns : List ℤ) → 0 < common_of ns → common_of (quotients (common_of ns) ns) ≡ 1
common_quotients ns h =
    let g = common_of ns in
    one_of (common_of (quotients g ns)) g h
    (common_greatest (common_of (quotients g ns) * g) ns (back (common_of (quotients g ns)) g ns (common_divides ns) (common_divides (quotients g ns))))

pub quotient_one : (n : ℤ) → int_div n (pos 1) ≡ n
quotient_one (pos n) = ap pos (div-one n)
quotient_one (negsuc n) = rw (div-one (suc n)) refl

neg_product : (q g : ℕ) → neg_ℤ (pos q) *ℤ pos g ≡ neg_ℤ (pos (q * g))
neg_product zero g = omega (arith, ints)
neg_product (suc q) g = omega (arith, ints)

-- a number is its quotient times a divisor
pub quotient_times : (n : ℤ) (g : ℕ) → g ∣ unsigned_abs n → int_div n (pos g) *ℤ pos g ≡ n
quotient_times (pos n) g d = ap pos (div-mul_cancel g d)
quotient_times (negsuc n) g d = neg_product (suc n / g) g ∙ ap (λ t. neg_ℤ (pos t)) (div-mul_cancel g d)

-- ---- multiplied by a number
abbrev pub multiples : ℤ → List ℤ → List ℤ
multiples k ns = map (λ n. n *ℤ k) ns

all_multiplied : (m : ℕ) (k : ℤ) (ns : List ℤ) → Divides m ns → Divides (m * unsigned_abs k) (multiples k ns)
all_multiplied m k [] d = tt
all_multiplied m k (n ∷ ns) d = (
  subst (λ t. m * unsigned_abs k ∣ t) (sym (unsigned_abs-mul n k)) (mul-dvd-mul_right m d.0 (unsigned_abs k)),
  all_multiplied m k ns d.1,
)

none_multiplied : (m : ℕ) (k : ℤ) (ns : List ℤ) → 0 < unsigned_abs k → Divides (m * unsigned_abs k) (multiples k ns) → Divides m ns
none_multiplied m k [] h d = tt
none_multiplied m k (n ∷ ns) h d = (
  dvd_of_mul-dvd-mul_right m h (subst (λ t. m * unsigned_abs k ∣ t) (unsigned_abs-mul n k) d.0),
  none_multiplied m k ns h d.1,
)

factor_divides : (k : ℤ) (ns : List ℤ) → Divides (unsigned_abs k) (multiples k ns)
factor_divides k [] = tt
factor_divides k (n ∷ ns) = (subst (λ t. unsigned_abs k ∣ t) (sym (unsigned_abs-mul n k)) (dvd-mul_left (unsigned_abs k) (unsigned_abs n)), factor_divides k ns)

-- the common divisor of multiples is the multiple of the common divisor
pub common_multiples : (k : ℤ) (ns : List ℤ) → 0 < unsigned_abs k → common_of (multiples k ns) ≡ common_of ns * unsigned_abs k
common_multiples k ns h =
    let c = unsigned_abs k in
    let g = common_of (multiples k ns) in
    let whole_times : g / c * c ≡ g = div-mul_cancel c (common_greatest c (multiples k ns) (factor_divides k ns)) in
    let divides : Divides (g / c) ns = none_multiplied (g / c) k ns h (subst (λ t. Divides t (multiples k ns)) (sym whole_times) (common_divides (multiples k ns))) in
    let down : g ∣ common_of ns * c =
    subst (λ t. t ∣ common_of ns * c) whole_times (mul-dvd-mul_right (g / c) (common_greatest (g / c) ns divides) c) in
    let up : common_of ns * c ∣ g = common_greatest (common_of ns * c) (multiples k ns) (all_multiplied (common_of ns) k ns (common_divides ns)) in
    dvd_antisymm down up
