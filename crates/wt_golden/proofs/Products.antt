-- The signs of products of whole numbers, and that 5 is no square.
use Rattle.std.specs.Prelude.{◌≡◌, ℕ, zero, suc, ◌+◌, ◌*◌, ◌-◌, ◌<◌, ◌≤◌, ℤ, pos, negsuc, ◌+ℤ◌, ◌*ℤ◌, neg_ℤ, unsigned_abs, ◌<ℤ◌, ◌≤ℤ◌, [], ◌∷◌, refl}
use Rattle.std.proofs.Common.{le_refl, sym, ap, subst, arith}
use Rattle.std.proofs.lemmas.Int.{ints, by_lt_z}
use Rattle.std.proofs.lemmas.Nat.{mul-le}
use Rattle.wt_ring.proofs.Integers.{integers}
use Rattle.wt_ring.proofs.Ring.{x_, ◌⊕◌, ◌⊗◌, ⊖_, solve}

-- ---- the order
pub mul_above : (x y : ℤ) → pos 0 <ℤ x → pos 0 <ℤ y → pos 0 <ℤ (x *ℤ y)
mul_above (pos zero) y h k = absurd (omega (arith, ints))
mul_above (pos (suc m)) (pos zero) h k = absurd (omega (arith, ints))
mul_above (pos (suc m)) (pos (suc n)) h k = omega (arith, ints)
mul_above (pos (suc m)) (negsuc n) h k = absurd (omega (arith, ints))
mul_above (negsuc m) y h k = absurd (omega (arith, ints))

pub mul_not_below : (x y : ℤ) → pos 0 ≤ℤ x → pos 0 ≤ℤ y → pos 0 ≤ℤ (x *ℤ y)
mul_not_below (pos m) (pos n) h k = omega (arith, ints)
mul_not_below (pos m) (negsuc n) h k = absurd (omega (arith, ints))
mul_not_below (negsuc m) y h k = absurd (omega (arith, ints))

less_times : (x y k : ℤ) → (y +ℤ neg_ℤ x) *ℤ k ≡ y *ℤ k +ℤ neg_ℤ (x *ℤ k)
less_times x y k = solve integers (x ∷ y ∷ k ∷ []) ((x_ 1 ⊕ ⊖_ (x_ 0)) ⊗ x_ 2) (x_ 1 ⊗ x_ 2 ⊕ ⊖_ (x_ 0 ⊗ x_ 2)) refl

not_less : (x y k : ℤ) → pos 0 <ℤ k → x *ℤ k ≡ y *ℤ k → x <ℤ y → ⊥
not_less x y k h e l = omega (arith, ints, e, less_times x y k, mul_above (y +ℤ neg_ℤ x) k (omega (arith, ints)) h)

-- equal products with a factor above 0 have equal other factors
pub cancel_above : (x y k : ℤ) → pos 0 <ℤ k → x *ℤ k ≡ y *ℤ k → x ≡ y
cancel_above x y k h e =
    by_lt_z x y (λ l. absurd (not_less x y k h e l))
    (λ l. by_lt_z y x (λ m. absurd (not_less y x k h (sym e) m)) (λ m. omega (arith, ints)))

pub square_not_below : (x : ℤ) → pos 0 ≤ℤ (x *ℤ x)
square_not_below (pos n) = omega (arith, ints)
square_not_below (negsuc n) = omega (arith, ints)

factored : (x y : ℤ) → (neg_ℤ y +ℤ neg_ℤ x) *ℤ (neg_ℤ y +ℤ x) ≡ y *ℤ y +ℤ neg_ℤ (x *ℤ x)
factored x y = solve integers (x ∷ y ∷ []) ((⊖_ (x_ 1) ⊕ ⊖_ (x_ 0)) ⊗ (⊖_ (x_ 1) ⊕ x_ 0)) (x_ 1 ⊗ x_ 1 ⊕ ⊖_ (x_ 0 ⊗ x_ 0)) refl

-- the one with the greater square, where it is positive, outweighs the other
pub outweighs : (x y : ℤ) → pos 0 <ℤ x → (y *ℤ y) <ℤ (x *ℤ x) → pos 0 <ℤ (x +ℤ y)
outweighs x y h s =
    by_lt_z (pos 0) (x +ℤ y) (λ l. l) (λ l. absurd (
    let low : pos 0 ≤ℤ (neg_ℤ y +ℤ neg_ℤ x) = omega (arith, ints) in
    let high : pos 0 ≤ℤ (neg_ℤ y +ℤ x) = omega (arith, ints) in
    omega (arith, ints, factored x y, mul_not_below (neg_ℤ y +ℤ neg_ℤ x) (neg_ℤ y +ℤ x) low high)))

-- ---- 5 is no square

-- where u * u is 5 * b * b and b is not 0, u is between 2 b and 3 b, and u - 2 b and b - 2 (u - 2 b) are a smaller such pair
least_two : (u b : ℕ) → u * u ≡ 5 * (b * b) → 2 * b ≤ u
least_two u zero e = omega arith
least_two u (suc c) e =
    let no : ¬ (u < 2 * suc c) = λ h. let small : u ≤ 2 * suc c = omega arith in omega (arith, mul-le u u (2 * suc c) (2 * suc c) small small) in
    omega arith

most_three : (u b : ℕ) → u * u ≡ 5 * (b * b) → 0 < b → u < 3 * b
most_three u zero e p = absurd (omega arith)
most_three u (suc c) e p =
    let no : ¬ (3 * suc c ≤ u) = λ h. omega (arith, mul-le (3 * suc c) (3 * suc c) u u h h) in
    omega arith

not_long : (b k : ℕ) → b * b ≡ 4 * (b * k) + k * k → 0 < b → 2 * k ≤ b
not_long zero k e p = absurd (omega arith)
not_long (suc c) k e p =
    let no : ¬ (suc c < 2 * k) = λ h. let small : suc c ≤ 2 * k = omega arith in omega (arith, mul-le (suc c) (suc c) (suc c) (2 * k) (le_refl (suc c)) small) in
    omega arith

square_of_b : (u b k : ℕ) → u ≡ 2 * b + k → u * u ≡ 5 * (b * b) → b * b ≡ 4 * (b * k) + k * k
square_of_b u b k is_u e =
    let squares : (2 * b + k) * (2 * b + k) ≡ 5 * (b * b) = subst (λ t. t * t ≡ 5 * (b * b)) is_u e in
    omega arith

smaller_pair : (b k m : ℕ) → b ≡ 2 * k + m → b * b ≡ 4 * (b * k) + k * k → m * m ≡ 5 * (k * k)
smaller_pair b k m is_b e =
    let squares : (2 * k + m) * (2 * k + m) ≡ 4 * ((2 * k + m) * k) + k * k = subst (λ t. t * t ≡ 4 * (t * k) + k * k) is_b e in
    omega arith

none_left : (b k : ℕ) → b * b ≡ 4 * (b * k) + k * k → k ≡ 0 → b ≡ 0
none_left zero k e z = refl
none_left (suc c) k e z =
    let squares : suc c * suc c ≡ 4 * (suc c * 0) + 0 * 0 = subst (λ t. suc c * suc c ≡ 4 * (suc c * t) + t * t) z e in
    absurd (omega arith)

split : (a b : ℕ) → b ≤ a → a ≡ b + (a - b)
split a b h = omega arith

no_root_in : (steps u b : ℕ) → b ≤ steps → u * u ≡ 5 * (b * b) → b ≡ 0
no_root_in zero u b h e = omega arith
no_root_in (suc steps) u zero h e = refl
no_root_in (suc steps) u (suc c) h e =
    let is_u = split u (2 * suc c) (least_two u (suc c) e) in
    let square = square_of_b u (suc c) (u - 2 * suc c) is_u e in
    let is_b = split (suc c) (2 * (u - 2 * suc c)) (not_long (suc c) (u - 2 * suc c) square (omega arith)) in
    let smaller = smaller_pair (suc c) (u - 2 * suc c) (suc c - 2 * (u - 2 * suc c)) is_b square in
    let three = most_three u (suc c) e (omega arith) in
    none_left (suc c) (u - 2 * suc c) square
    (no_root_in steps (suc c - 2 * (u - 2 * suc c)) (u - 2 * suc c) (omega (arith, is_u, three, h)) smaller)

square_up : (x : ℤ) → x *ℤ x ≡ pos (unsigned_abs x * unsigned_abs x)
square_up (pos n) = refl
square_up (negsuc n) = refl

nothing : (x : ℤ) → unsigned_abs x ≡ 0 → x ≡ pos 0
nothing (pos n) e = ap pos e
nothing (negsuc n) e = absurd (omega arith)

pub no_root : (u b : ℤ) → u *ℤ u ≡ pos 5 *ℤ (b *ℤ b) → b ≡ pos 0
no_root u b e =
    nothing b (no_root_in (unsigned_abs b) (unsigned_abs u) (unsigned_abs b) (le_refl (unsigned_abs b))
    (omega (arith, ints, square_up u, square_up b, e)))
