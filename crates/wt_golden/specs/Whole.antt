-- Whole golden numbers: a + b φ with whole a and b, where φ * φ = φ + 1; their arithmetic and their sign.
use Rattle.std.specs.Prelude.{◌≡◌, Bool, true, ◌&&◌, ◌||◌, if◌then◌else◌, ℤ, pos, ◌+ℤ◌, ◌*ℤ◌, neg_ℤ, int_lt, int_le}
use Rattle.std.specs.Ordering.{int_eq}
use Rattle.std.specs.declared.cmp.Ordering.{Ordering}
use Rattle.std.specs.declared.cmp.Ordering.TheVariants.{Less, Equal, Greater}

-- the number a + b φ
pub record Whole : Type 0 where
  pub a : ℤ
  pub b : ℤ

-- the number n itself, n + 0 φ
abbrev pub whole : ℤ → Whole
whole n = record { a = n; b = pos 0 }

-- the golden number itself, 0 + 1 φ
abbrev pub phi : Whole
phi = record { a = pos 0; b = pos 1 }

-- the sum, part by part
unfoldable pub plus : Whole → Whole → Whole
plus x y = record { a = x.a +ℤ y.a; b = x.b +ℤ y.b }

-- the product, with φ + 1 for the square of φ
unfoldable pub times : Whole → Whole → Whole
times x y = record { a = x.a *ℤ y.a +ℤ x.b *ℤ y.b; b = x.a *ℤ y.b +ℤ x.b *ℤ y.a +ℤ x.b *ℤ y.b }

-- the number with the other sign
unfoldable pub opposite : Whole → Whole
opposite x = record { a = neg_ℤ x.a; b = neg_ℤ x.b }

-- x less y
abbrev pub minus : Whole → Whole → Whole
minus x y = plus x (opposite y)

-- Whether u + b √5 is above 0: u and b are at least 0 and not both 0, or the square of the positive one of u and b √5 is
-- the greater.
abbrev pub above_zero : ℤ → ℤ → Bool
above_zero u b =
    (int_le (pos 0) u && int_le (pos 0) b && (int_lt (pos 0) u || int_lt (pos 0) b))
    || (int_lt (pos 0) u && int_lt b (pos 0) && int_lt (pos 5 *ℤ (b *ℤ b)) (u *ℤ u))
    || (int_lt u (pos 0) && int_lt (pos 0) b && int_lt (u *ℤ u) (pos 5 *ℤ (b *ℤ b)))

-- whether a + b φ is above 0: twice the number is u + b √5 with u = 2 a + b
unfoldable pub is_positive : Whole → Bool
is_positive x = above_zero (pos 2 *ℤ x.a +ℤ x.b) x.b

-- how the number stands to 0
unfoldable pub sign : Whole → Ordering
sign x = if is_positive x then Greater else if int_eq x.a (pos 0) && int_eq x.b (pos 0) then Equal else Less

-- the number is above 0
pub record IsPositive (x : Whole) : Type 0 where
  pub above : is_positive x ≡ true
