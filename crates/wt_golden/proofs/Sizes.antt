-- How large sums and products of whole golden numbers become.
use Rattle.std.specs.Prelude.{◌≡◌, ℕ, ◌+◌, ◌*◌, ◌≤◌, ℤ, ◌+ℤ◌, ◌*ℤ◌, neg_ℤ, unsigned_abs, pos, [], ◌∷◌, refl}
use Rattle.std.proofs.Common.{arith, subst, sym, ◌∙◌, ap}
use Rattle.std.proofs.lemmas.Int.{ints, unsigned_abs-mul}
use Rattle.std.proofs.lemmas.Nat.{mul-le}
use Rattle.wt_golden.specs.Whole.{Whole, whole, plus, times, opposite, minus}
use Rattle.wt_ring.proofs.Ring.{x_, n_, ◌⊕◌, ◌⊗◌, solve}
use Rattle.wt_ring.proofs.Integers.{integers}
use Rattle.wt_golden.proofs.WholeRing.{same_whole}
use Rattle.wt_golden.specs.Sizes.{IsBelow}

abs_sum : (x y : ℤ) → unsigned_abs (x +ℤ y) ≤ unsigned_abs x + unsigned_abs y
abs_sum x y = omega (arith, ints)

neg_size : (x : ℤ) → unsigned_abs (neg_ℤ x) ≤ unsigned_abs x
neg_size x = omega (arith, ints)

abs_product : (x y : ℤ) (m n : ℕ) → unsigned_abs x ≤ m → unsigned_abs y ≤ n → unsigned_abs (x *ℤ y) ≤ m * n
abs_product x y m n h k = omega (arith, unsigned_abs-mul x y, mul-le (unsigned_abs x) (unsigned_abs y) m n h k)

pub below_more : (x : Whole) (m n : ℕ) → IsBelow x m → m ≤ n → IsBelow x n
below_more x m n f h = record { a = omega (arith, f.a); b = omega (arith, f.b) }

pub plus_below : (x y : Whole) (m n : ℕ) → IsBelow x m → IsBelow y n → IsBelow (plus x y) (m + n)
unfolding plus
plus_below x y m n f g = record { a = omega (arith, abs_sum x.a y.a, f.a, g.a); b = omega (arith, abs_sum x.b y.b, f.b, g.b) }

pub opposite_below : (x : Whole) (m : ℕ) → IsBelow x m → IsBelow (opposite x) m
unfolding opposite
opposite_below x m f = record { a = omega (arith, neg_size x.a, f.a); b = omega (arith, neg_size x.b, f.b) }

pub minus_below : (x y : Whole) (m n : ℕ) → IsBelow x m → IsBelow y n → IsBelow (minus x y) (m + n)
minus_below x y m n f g = plus_below x (opposite y) m n f (opposite_below y n g)

pub times_below : (x y : Whole) (m n : ℕ) → IsBelow x m → IsBelow y n → IsBelow (times x y) (3 * (m * n))
unfolding times
times_below x y m n f g =
    let aa = abs_product x.a y.a m n f.a g.a in
    let ab = abs_product x.a y.b m n f.a g.b in
    let ba = abs_product x.b y.a m n f.b g.a in
    let bb = abs_product x.b y.b m n f.b g.b in
    record {
      a = omega (arith, abs_sum (x.a *ℤ y.a) (x.b *ℤ y.b), aa, bb);
      b = omega (arith, abs_sum (x.a *ℤ y.b +ℤ x.b *ℤ y.a) (x.b *ℤ y.b), abs_sum (x.a *ℤ y.b) (x.b *ℤ y.a), ab, ba, bb);
    }

-- the same for a result that equals the sum or product
pub plus_within : (x y r : Whole) (m n k : ℕ) → r ≡ plus x y → IsBelow x m → IsBelow y n → m + n ≤ k → IsBelow r k
plus_within x y r m n k e f g h = subst (λ t. IsBelow t k) (sym e) (below_more (plus x y) (m + n) k (plus_below x y m n f g) h)

pub minus_within : (x y r : Whole) (m n k : ℕ) → r ≡ minus x y → IsBelow x m → IsBelow y n → m + n ≤ k → IsBelow r k
minus_within x y r m n k e f g h = subst (λ t. IsBelow t k) (sym e) (below_more (minus x y) (m + n) k (minus_below x y m n f g) h)

pub opposite_within : (x r : Whole) (m k : ℕ) → r ≡ opposite x → IsBelow x m → m ≤ k → IsBelow r k
opposite_within x r m k e f h = subst (λ t. IsBelow t k) (sym e) (below_more (opposite x) m k (opposite_below x m f) h)

pub times_within : (x y r : Whole) (m n k : ℕ) → r ≡ times x y → IsBelow x m → IsBelow y n → 3 * (m * n) ≤ k → IsBelow r k
times_within x y r m n k e f g h = subst (λ t. IsBelow t k) (sym e) (below_more (times x y) (3 * (m * n)) k (times_below x y m n f g) h)

pub sum_within : (x y z w r : Whole) (m n k : ℕ) → r ≡ plus (times x y) (times z w) → IsBelow x m → IsBelow y n → IsBelow z m → IsBelow w n → 3 * (m * n) + 3 * (m * n) ≤ k → IsBelow r k
sum_within x y z w r m n k e fx fy fz fw h = plus_within (times x y) (times z w) r (3 * (m * n)) (3 * (m * n)) k e (times_below x y m n fx fy) (times_below z w m n fz fw) h

pub difference_within : (x y z w r : Whole) (m n k : ℕ) → r ≡ minus (times x y) (times z w) → IsBelow x m → IsBelow y n → IsBelow z m → IsBelow w n → 3 * (m * n) + 3 * (m * n) ≤ k → IsBelow r k
difference_within x y z w r m n k e fx fy fz fw h = minus_within (times x y) (times z w) r (3 * (m * n)) (3 * (m * n)) k e (times_below x y m n fx fy) (times_below z w m n fz fw) h

pub times_whole : (x : Whole) (n : ℤ) → times x (whole n) ≡ record { a = x.a *ℤ n; b = x.b *ℤ n }
unfolding times
times_whole x n = same_whole _ _
    (solve integers (x.a ∷ x.b ∷ n ∷ []) (x_ 0 ⊗ x_ 2 ⊕ x_ 1 ⊗ n_ (pos 0)) (x_ 0 ⊗ x_ 2) refl)
    (solve integers (x.a ∷ x.b ∷ n ∷ []) (x_ 0 ⊗ n_ (pos 0) ⊕ x_ 1 ⊗ x_ 2 ⊕ x_ 1 ⊗ n_ (pos 0)) (x_ 1 ⊗ x_ 2) refl)

-- a product with a whole number grows less
pub times_whole_within : (x y r : Whole) (n : ℤ) (m k l : ℕ) → r ≡ times x y → y ≡ whole n → IsBelow x m → IsBelow y k → m * k ≤ l → IsBelow r l
times_whole_within x y r n m k l e ey f g h =
    let size : unsigned_abs n ≤ k = (subst (λ t. IsBelow t k) ey g).a in
    let is : r ≡ record { a = x.a *ℤ n; b = x.b *ℤ n } = e ∙ ap (times x) ey ∙ times_whole x n in
    subst (λ t. IsBelow t l) (sym is) (record { a = omega (arith, abs_product x.a n m k f.a size); b = omega (arith, abs_product x.b n m k f.b size) })
