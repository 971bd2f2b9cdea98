-- Points over Q(√5), half-planes p x + q y + r > 0 with whole golden p, q and r, and which points lie in them.
use Rattle.std.specs.Prelude.{◌≡◌, ℕ, ◌≤◌, ◌^◌, ◌-◌, ℤ, pos, ◌*ℤ◌, ◌<ℤ◌, int_div, unsigned_abs, List, [], ◌∷◌, Result, MatchResult}
use Rattle.wt_golden.specs.Whole.{Whole, plus, times, opposite, whole, IsPositive}
use Rattle.wt_golden.specs.Fractions.{Fraction, top, over, lowest, common_of}
use Rattle.wt_golden.specs.Sizes.{IsBelow}

-- a half-plane: the points (x, y) with p x + q y + r > 0
pub record Half : Type 0 where
  pub p : Whole
  pub q : Whole
  pub r : Whole

-- the point (x / d, y / d)
pub record Spot : Type 0 where
  pub x : Whole
  pub y : Whole
  pub d : ℤ

-- both parts divided by g
abbrev pub divided : Whole → ℕ → Whole
divided x g = record { a = int_div x.a (pos g); b = int_div x.b (pos g) }

-- each spot with d above 0 is a point, and each point over Q(√5) is one of them
pub record IsSpot (z : Spot) : Type 0 where
  pub divisor : pos 0 <ℤ z.d

-- the five numbers of a point
abbrev pub spot_numbers : Spot → List ℤ
spot_numbers z = z.x.a ∷ z.x.b ∷ z.y.a ∷ z.y.b ∷ z.d ∷ []

-- all five numbers divided by g
abbrev pub divided_spot : Spot → ℕ → Spot
divided_spot z g = record { x = divided z.x g; y = divided z.y g; d = int_div z.d (pos g) }

-- the same point without a common divisor of its five numbers: over the least common denominator of its coordinates
unfoldable pub reduced_spot : Spot → Spot
reduced_spot z = divided_spot z (common_of (spot_numbers z))

-- each of the five numbers is at most this in absolute value: below 2^30
abbrev pub spot_limit : ℕ
spot_limit = 2 ^ 30 - 1

-- the five numbers are below the limit
pub record IsSmallSpot (z : Spot) : Type 0 where
  pub x : IsBelow z.x spot_limit
  pub y : IsBelow z.y spot_limit
  pub d : unsigned_abs z.d ≤ spot_limit

-- what a point is: over its least common denominator, which is above 0, and within the limit
pub record IsPoint (z : Spot) : Type 0 where
  pub spot : IsSpot z
  pub small : IsSmallSpot z
  pub lowest : reduced_spot z ≡ z

-- d times the number of the half-plane at the point
abbrev pub value : Half → Spot → Whole
value h z = plus (plus (times h.p z.x) (times h.q z.y)) (times h.r (whole z.d))

-- the point lies in the half-plane
abbrev pub Holds : Half → Spot → Type 0
Holds h z = IsPositive (value h z)

-- the half-plane has a direction: it is neither empty nor everything
abbrev pub HasDirection : Half → Type 0
HasDirection h = ¬ ((h.p ≡ whole (pos 0)) × (h.q ≡ whole (pos 0)))

-- the six numbers of a half-plane
abbrev pub numbers_of : Half → List ℤ
numbers_of h = h.p.a ∷ h.p.b ∷ h.q.a ∷ h.q.b ∷ h.r.a ∷ h.r.b ∷ []

-- all six numbers divided by g
abbrev pub divided_half : Half → ℕ → Half
divided_half h g = record { p = divided h.p g; q = divided h.q g; r = divided h.r g }

-- the same half-plane without a common divisor of its six numbers
unfoldable pub reduced_half : Half → Half
reduced_half h = divided_half h (common_of (numbers_of h))

-- each of the six numbers is at most this in absolute value: below 2^18
abbrev pub half_limit : ℕ
half_limit = 2 ^ 18 - 1

-- the six numbers are below the limit
pub record IsSmallHalf (h : Half) : Type 0 where
  pub p : IsBelow h.p half_limit
  pub q : IsBelow h.q half_limit
  pub r : IsBelow h.r half_limit

-- what a half-plane is: it has a direction, no common divisor of its six numbers, and is within the limit
pub record IsHalfPlane (h : Half) : Type 0 where
  pub direction : HasDirection h
  pub small : IsSmallHalf h
  pub lowest : reduced_half h ≡ h

-- the other side, without the border
abbrev pub opposite_half : Half → Half
opposite_half h = record { p = opposite h.p; q = opposite h.q; r = opposite h.r }

-- some point over Q(√5) lies in all three
abbrev pub HasCommonSpot : Half → Half → Half → Type 0
HasCommonSpot h1 h2 h3 = (z : Spot) × IsSpot z × Holds h1 z × Holds h2 z × Holds h3 z

-- the point lies in each half-plane of the list
abbrev pub IsInside : List Half → Spot → Type 0
IsInside [] z = Unit {0}
IsInside (h ∷ hs) z = Holds h z × IsInside hs z

-- each half-plane of the list has a direction
abbrev pub AllDirected : List Half → Type 0
AllDirected [] = Unit {0}
AllDirected (h ∷ hs) = HasDirection h × AllDirected hs

-- the first coordinate, in lowest terms
abbrev pub x_of : Spot → Fraction
x_of z = lowest (over z.x z.d)

-- the second coordinate, in lowest terms
abbrev pub y_of : Spot → Fraction
y_of z = lowest (over z.y z.d)

-- the point (x, y), over the product of the two denominators
abbrev pub spot : Fraction → Fraction → Spot
spot x y = record { x = times (top x) (whole y.d); y = times (top y) (whole x.d); d = x.d *ℤ y.d }

-- the point z + (tx, ty)
abbrev pub shifted : Spot → Fraction → Fraction → Spot
shifted z tx ty = record {
  x = plus (times z.x (whole (tx.d *ℤ ty.d))) (times (top tx) (whole (z.d *ℤ ty.d)));
  y = plus (times z.y (whole (tx.d *ℤ ty.d))) (times (top ty) (whole (z.d *ℤ tx.d)));
  d = z.d *ℤ (tx.d *ℤ ty.d);
}

-- the half-plane that holds at z where h holds at z + (tx, ty)
unfoldable pub moved_half : Half → Fraction → Fraction → Half
moved_half h tx ty = let d = times (whole tx.d) (whole ty.d) in record {
  p = times h.p d;
  q = times h.q d;
  r = plus (plus (times h.r d) (times (times h.p (top tx)) (whole ty.d))) (times (times h.q (top ty)) (whole tx.d));
}

-- the half-plane (p0 + p1 φ) x + (q0 + q1 φ) y + (r0 + r1 φ) > 0, as it is written
abbrev pub raw_half : ℤ → ℤ → ℤ → ℤ → ℤ → ℤ → Half
raw_half p0 p1 q0 q1 r0 r1 = record { p = record { a = p0; b = p1 }; q = record { a = q0; b = q1 }; r = record { a = r0; b = r1 } }

-- the half-plane p x + q y + r > 0
abbrev pub half_of : Whole → Whole → Whole → Half
half_of p q r = record { p = p; q = q; r = r }

-- the call gives the half-plane without a common divisor, and fails exactly where that is out of limit
abbrev pub GivesHalfPlane : {E : Type 0} → Result Half E → Half → Type 0
GivesHalfPlane result h = MatchResult result (λ g. (g ≡ reduced_half h) × IsHalfPlane g) (λ _. IsSmallHalf (reduced_half h) → ⊥)

-- the call gives the point over its least common denominator, and fails exactly where that is out of limit
abbrev pub GivesPoint : {E : Type 0} → Result Spot E → Spot → Type 0
GivesPoint result z = MatchResult result (λ y. (y ≡ reduced_spot z) × IsPoint y) (λ _. IsSmallSpot (reduced_spot z) → ⊥)
