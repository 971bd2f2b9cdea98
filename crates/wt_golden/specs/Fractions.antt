-- The numbers of Q(√5): (a + b φ) / d with whole a, b and d, where d is above 0; lowest terms, arithmetic and order.
use Rattle.std.specs.Prelude.{◌≡◌, ℕ, zero, suc, ◌%◌, ◌<◌, ◌^◌, ℤ, pos, ◌*ℤ◌, ◌<ℤ◌, neg_ℤ, int_div, int_lt, if◌then◌else◌, unsigned_abs, List, [], ◌∷◌, Result, MatchResult}
use Rattle.std.specs.Int.{◌∣◌}
use Rattle.std.specs.declared.cmp.Ordering.{Ordering}
use Rattle.wt_golden.specs.Whole.{Whole, plus, minus, times, opposite, whole, sign, IsPositive}

-- the number (a + b φ) / d; all laws ask for d above 0
pub record Fraction : Type 0 where
  pub a : ℤ
  pub b : ℤ
  pub d : ℤ

-- a + b φ, the numerator
abbrev pub top : Fraction → Whole
top f = record { a = f.a; b = f.b }

-- the number x / d
abbrev pub over : Whole → ℤ → Fraction
over x d = record { a = x.a; b = x.b; d = d }

-- The greatest common divisor, by remainders; `steps` are more than b.
abbrev pub gcd_in : ℕ → ℕ → ℕ → ℕ
gcd_in zero a b = a
gcd_in (suc steps) a zero = a
gcd_in (suc steps) a (suc b) = gcd_in steps (suc b) (a % suc b)

-- the greatest common divisor; of 0 and 0 it is 0
unfoldable pub gcd : ℕ → ℕ → ℕ
gcd a b = gcd_in (suc b) a b

-- the greatest number that divides all of them, or 0 where all are 0
abbrev pub common_of : List ℤ → ℕ
common_of [] = 0
common_of (n ∷ ns) = gcd (unsigned_abs n) (common_of ns)

-- the greatest number that divides a, b and d
abbrev pub common : Fraction → ℕ
common f = common_of (f.a ∷ f.b ∷ f.d ∷ [])

-- the same number without a common divisor of a, b and d
unfoldable pub lowest : Fraction → Fraction
lowest f = let g = pos (common f) in record { a = int_div f.a g; b = int_div f.b g; d = int_div f.d g }

-- the same number with d above 0, where d isn't 0
abbrev pub upright : Fraction → Fraction
upright f = if int_lt f.d (pos 0) then record { a = neg_ℤ f.a; b = neg_ℤ f.b; d = neg_ℤ f.d } else f

-- the sum, over the product of the denominators
unfoldable pub sum : Fraction → Fraction → Fraction
sum f g = over (plus (times (top f) (whole g.d)) (times (top g) (whole f.d))) (f.d *ℤ g.d)

-- the number with the other sign
unfoldable pub negative : Fraction → Fraction
negative f = over (opposite (top f)) f.d

-- f less g
abbrev pub difference : Fraction → Fraction → Fraction
difference f g = sum f (negative g)

-- the product, over the product of the denominators
unfoldable pub product : Fraction → Fraction → Fraction
product f g = over (times (top f) (top g)) (f.d *ℤ g.d)

-- f and g are one number, by cross multiplication
abbrev pub IsSameNumber : Fraction → Fraction → Type 0
IsSameNumber f g = times (top f) (whole g.d) ≡ times (top g) (whole f.d)

-- f is greater than g: the difference over both denominators is above 0
abbrev pub IsGreater : Fraction → Fraction → Type 0
IsGreater f g = IsPositive (minus (times (top f) (whole g.d)) (times (top g) (whole f.d)))

-- the number 0
abbrev pub nought : Fraction
nought = over (whole (pos 0)) (pos 1)

-- how f stands to g, by the sign of that difference
abbrev pub order : Fraction → Fraction → Ordering
order f g = sign (minus (times (top f) (whole g.d)) (times (top g) (whole f.d)))

-- each of the three numbers is below this in absolute value, so that a comparison fits 128 bits
abbrev pub limit : ℕ
limit = 2 ^ 30

-- the three numbers are below the limit
pub record IsWithin (f : Fraction) : Type 0 where
  pub a : unsigned_abs f.a < limit
  pub b : unsigned_abs f.b < limit
  pub d : unsigned_abs f.d < limit

-- what a Golden number is: in lowest terms, d above 0, and within the limit
pub record IsGolden (f : Fraction) : Type 0 where
  pub divisor : pos 0 <ℤ f.d
  pub lowest : lowest f ≡ f
  pub within : IsWithin f

-- the call gives the number in lowest terms, and fails exactly where that is out of limit
abbrev pub GivesLowest : {E : Type 0} → Result Fraction E → Fraction → Type 0
GivesLowest result f = MatchResult result (λ g. (g ≡ lowest f) × IsGolden g) (λ _. IsWithin (lowest f) → ⊥)

-- k divides all three numbers
pub record DividesAll (k : ℕ) (f : Fraction) : Type 0 where
  pub a : k ∣ unsigned_abs f.a
  pub b : k ∣ unsigned_abs f.b
  pub d : k ∣ unsigned_abs f.d

-- two spellings of one number, both with d above 0
pub record AreSpellings (f g : Fraction) : Type 0 where
  pub first : pos 0 <ℤ f.d
  pub second : pos 0 <ℤ g.d
  pub same : IsSameNumber f g
