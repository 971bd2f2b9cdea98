-- The whole golden numbers as a ring, and the norm.
use Rattle.std.specs.Prelude.{◌≡◌, ℤ, pos, negsuc, ◌+ℤ◌, ◌*ℤ◌, neg_ℤ, List, [], ◌∷◌, refl}
use Rattle.wt_golden.specs.Whole.{Whole, whole, phi, plus, times, opposite}
use Rattle.wt_ring.proofs.Ring.{Ring, Term, x_, n_, ◌⊕◌, ◌⊗◌, ⊖_, solve}
use Rattle.wt_ring.proofs.Integers.{integers}

pub same_whole : (x y : Whole) → x.a ≡ y.a → x.b ≡ y.b → x ≡ y
same_whole x y p q = λ i. record { a = p i; b = q i }

-- the parts of a product, as terms
abbrev pub times_a : Term → Term → Term → Term → Term
times_a a b c d = a ⊗ c ⊕ b ⊗ d

abbrev pub times_b : Term → Term → Term → Term → Term
times_b a b c d = a ⊗ d ⊕ b ⊗ c ⊕ b ⊗ d

abbrev six : Whole → Whole → Whole → List ℤ
six x y z = x.a ∷ x.b ∷ y.a ∷ y.b ∷ z.a ∷ z.b ∷ []

pub plus_assoc : (x y z : Whole) → plus (plus x y) z ≡ plus x (plus y z)
unfolding plus
plus_assoc x y z = same_whole _ _
    (solve integers (six x y z) (x_ 0 ⊕ x_ 2 ⊕ x_ 4) (x_ 0 ⊕ (x_ 2 ⊕ x_ 4)) refl)
    (solve integers (six x y z) (x_ 1 ⊕ x_ 3 ⊕ x_ 5) (x_ 1 ⊕ (x_ 3 ⊕ x_ 5)) refl)

pub plus_comm : (x y : Whole) → plus x y ≡ plus y x
unfolding plus
plus_comm x y = same_whole _ _
    (solve integers (six x y y) (x_ 0 ⊕ x_ 2) (x_ 2 ⊕ x_ 0) refl)
    (solve integers (six x y y) (x_ 1 ⊕ x_ 3) (x_ 3 ⊕ x_ 1) refl)

pub plus_zero : (x : Whole) → plus x (whole (pos 0)) ≡ x
unfolding plus
plus_zero x = same_whole _ _
    (solve integers (six x x x) (x_ 0 ⊕ n_ (pos 0)) (x_ 0) refl)
    (solve integers (six x x x) (x_ 1 ⊕ n_ (pos 0)) (x_ 1) refl)

pub times_assoc : (x y z : Whole) → times (times x y) z ≡ times x (times y z)
unfolding times
times_assoc x y z = same_whole _ _
    (solve integers (six x y z)
    (times_a (times_a (x_ 0) (x_ 1) (x_ 2) (x_ 3)) (times_b (x_ 0) (x_ 1) (x_ 2) (x_ 3)) (x_ 4) (x_ 5))
    (times_a (x_ 0) (x_ 1) (times_a (x_ 2) (x_ 3) (x_ 4) (x_ 5)) (times_b (x_ 2) (x_ 3) (x_ 4) (x_ 5))) refl)
    (solve integers (six x y z)
    (times_b (times_a (x_ 0) (x_ 1) (x_ 2) (x_ 3)) (times_b (x_ 0) (x_ 1) (x_ 2) (x_ 3)) (x_ 4) (x_ 5))
    (times_b (x_ 0) (x_ 1) (times_a (x_ 2) (x_ 3) (x_ 4) (x_ 5)) (times_b (x_ 2) (x_ 3) (x_ 4) (x_ 5))) refl)

pub times_comm : (x y : Whole) → times x y ≡ times y x
unfolding times
times_comm x y = same_whole _ _
    (solve integers (six x y y) (times_a (x_ 0) (x_ 1) (x_ 2) (x_ 3)) (times_a (x_ 2) (x_ 3) (x_ 0) (x_ 1)) refl)
    (solve integers (six x y y) (times_b (x_ 0) (x_ 1) (x_ 2) (x_ 3)) (times_b (x_ 2) (x_ 3) (x_ 0) (x_ 1)) refl)

pub times_one : (x : Whole) → times x (whole (pos 1)) ≡ x
unfolding times
times_one x = same_whole _ _
    (solve integers (six x x x) (times_a (x_ 0) (x_ 1) (n_ (pos 1)) (n_ (pos 0))) (x_ 0) refl)
    (solve integers (six x x x) (times_b (x_ 0) (x_ 1) (n_ (pos 1)) (n_ (pos 0))) (x_ 1) refl)

pub times_zero : (x : Whole) → times x (whole (pos 0)) ≡ whole (pos 0)
unfolding times
times_zero x = same_whole _ _
    (solve integers (six x x x) (times_a (x_ 0) (x_ 1) (n_ (pos 0)) (n_ (pos 0))) (n_ (pos 0)) refl)
    (solve integers (six x x x) (times_b (x_ 0) (x_ 1) (n_ (pos 0)) (n_ (pos 0))) (n_ (pos 0)) refl)

pub times_plus : (x y z : Whole) → times x (plus y z) ≡ plus (times x y) (times x z)
unfolding times plus
times_plus x y z = same_whole _ _
    (solve integers (six x y z) (times_a (x_ 0) (x_ 1) (x_ 2 ⊕ x_ 4) (x_ 3 ⊕ x_ 5))
    (times_a (x_ 0) (x_ 1) (x_ 2) (x_ 3) ⊕ times_a (x_ 0) (x_ 1) (x_ 4) (x_ 5)) refl)
    (solve integers (six x y z) (times_b (x_ 0) (x_ 1) (x_ 2 ⊕ x_ 4) (x_ 3 ⊕ x_ 5))
    (times_b (x_ 0) (x_ 1) (x_ 2) (x_ 3) ⊕ times_b (x_ 0) (x_ 1) (x_ 4) (x_ 5)) refl)

pub whole_plus : (m n : ℤ) → whole (m +ℤ n) ≡ plus (whole m) (whole n)
unfolding plus
whole_plus m n = same_whole _ _ refl refl

pub whole_times : (m n : ℤ) → whole (m *ℤ n) ≡ times (whole m) (whole n)
unfolding times
whole_times m n = same_whole _ _
    (solve integers (m ∷ n ∷ []) (x_ 0 ⊗ x_ 1) (times_a (x_ 0) (n_ (pos 0)) (x_ 1) (n_ (pos 0))) refl)
    (solve integers (m ∷ n ∷ []) (n_ (pos 0)) (times_b (x_ 0) (n_ (pos 0)) (x_ 1) (n_ (pos 0))) refl)

pub opposite_is : (x : Whole) → opposite x ≡ times (whole (negsuc 0)) x
unfolding times opposite
opposite_is x = same_whole _ _
    (solve integers (six x x x) (⊖_ (x_ 0)) (times_a (n_ (negsuc 0)) (n_ (pos 0)) (x_ 0) (x_ 1)) refl)
    (solve integers (six x x x) (⊖_ (x_ 1)) (times_b (n_ (negsuc 0)) (n_ (pos 0)) (x_ 0) (x_ 1)) refl)

pub phi_square : times phi phi ≡ plus phi (whole (pos 1))
unfolding times plus
phi_square = refl

abbrev pub golden : Ring Whole
golden = record {
  num = whole;
  add = plus;
  mul = times;
  neg = opposite;
  add_assoc = plus_assoc;
  add_comm = plus_comm;
  add_zero = plus_zero;
  mul_assoc = times_assoc;
  mul_comm = times_comm;
  mul_one = times_one;
  mul_zero = times_zero;
  dist = times_plus;
  num_add = whole_plus;
  num_mul = whole_times;
  neg_is = opposite_is;
}

-- (a + b φ) (a + b - b φ), and 2 a + b
abbrev pub norm_of : Whole → ℤ
norm_of x = x.a *ℤ x.a +ℤ x.a *ℤ x.b +ℤ neg_ℤ (x.b *ℤ x.b)

abbrev pub twice : Whole → ℤ
twice x = pos 2 *ℤ x.a +ℤ x.b

abbrev norm_term : Term → Term → Term
norm_term a b = a ⊗ a ⊕ a ⊗ b ⊕ ⊖_ (b ⊗ b)

abbrev twice_term : Term → Term → Term
twice_term a b = n_ (pos 2) ⊗ a ⊕ b

abbrev four : Whole → Whole → List ℤ
four x y = x.a ∷ x.b ∷ y.a ∷ y.b ∷ []

pub norm_times : (x y : Whole) → norm_of (times x y) ≡ norm_of x *ℤ norm_of y
unfolding times
norm_times x y = solve integers (four x y)
    (norm_term (times_a (x_ 0) (x_ 1) (x_ 2) (x_ 3)) (times_b (x_ 0) (x_ 1) (x_ 2) (x_ 3)))
    (norm_term (x_ 0) (x_ 1) ⊗ norm_term (x_ 2) (x_ 3)) refl

pub norm_opposite : (x : Whole) → norm_of (opposite x) ≡ norm_of x
unfolding opposite
norm_opposite x = solve integers (four x x) (norm_term (⊖_ (x_ 0)) (⊖_ (x_ 1))) (norm_term (x_ 0) (x_ 1)) refl

pub twice_opposite : (x : Whole) → twice (opposite x) ≡ neg_ℤ (twice x)
unfolding opposite
twice_opposite x = solve integers (four x x) (twice_term (⊖_ (x_ 0)) (⊖_ (x_ 1))) (⊖_ (twice_term (x_ 0) (x_ 1))) refl

pub norm_squares : (x : Whole) → pos 4 *ℤ norm_of x +ℤ pos 5 *ℤ (x.b *ℤ x.b) ≡ twice x *ℤ twice x
norm_squares x = solve integers (four x x)
    (n_ (pos 4) ⊗ norm_term (x_ 0) (x_ 1) ⊕ n_ (pos 5) ⊗ (x_ 1 ⊗ x_ 1)) (twice_term (x_ 0) (x_ 1) ⊗ twice_term (x_ 0) (x_ 1)) refl

pub twice_times : (x y : Whole) → pos 2 *ℤ twice (times x y) ≡ twice x *ℤ twice y +ℤ pos 5 *ℤ (x.b *ℤ y.b)
unfolding times
twice_times x y = solve integers (four x y)
    (n_ (pos 2) ⊗ twice_term (times_a (x_ 0) (x_ 1) (x_ 2) (x_ 3)) (times_b (x_ 0) (x_ 1) (x_ 2) (x_ 3)))
    (twice_term (x_ 0) (x_ 1) ⊗ twice_term (x_ 2) (x_ 3) ⊕ n_ (pos 5) ⊗ (x_ 1 ⊗ x_ 3)) refl

pub b_times : (x y : Whole) → pos 2 *ℤ (times x y).b ≡ twice x *ℤ y.b +ℤ x.b *ℤ twice y
unfolding times
b_times x y = solve integers (four x y)
    (n_ (pos 2) ⊗ times_b (x_ 0) (x_ 1) (x_ 2) (x_ 3))
    (twice_term (x_ 0) (x_ 1) ⊗ x_ 3 ⊕ x_ 1 ⊗ twice_term (x_ 2) (x_ 3)) refl

pub norm_plus : (x y : Whole) → pos 2 *ℤ norm_of (plus x y) ≡ pos 2 *ℤ norm_of x +ℤ pos 2 *ℤ norm_of y +ℤ (twice x *ℤ twice y +ℤ neg_ℤ (pos 5 *ℤ (x.b *ℤ y.b)))
unfolding plus
norm_plus x y = solve integers (four x y)
    (n_ (pos 2) ⊗ norm_term (x_ 0 ⊕ x_ 2) (x_ 1 ⊕ x_ 3))
    (n_ (pos 2) ⊗ norm_term (x_ 0) (x_ 1) ⊕ n_ (pos 2) ⊗ norm_term (x_ 2) (x_ 3)
    ⊕ (twice_term (x_ 0) (x_ 1) ⊗ twice_term (x_ 2) (x_ 3) ⊕ ⊖_ (n_ (pos 5) ⊗ (x_ 1 ⊗ x_ 3)))) refl

pub twice_plus : (x y : Whole) → twice (plus x y) ≡ twice x +ℤ twice y
unfolding plus
twice_plus x y = solve integers (four x y) (twice_term (x_ 0 ⊕ x_ 2) (x_ 1 ⊕ x_ 3)) (twice_term (x_ 0) (x_ 1) ⊕ twice_term (x_ 2) (x_ 3)) refl

-- the squares that decide which of two products is the greater
pub uv_square : (x y : Whole) → (twice x *ℤ twice y) *ℤ (twice x *ℤ twice y)
    ≡ (pos 5 *ℤ (x.b *ℤ y.b)) *ℤ (pos 5 *ℤ (x.b *ℤ y.b)) +ℤ (pos 4 *ℤ (norm_of x *ℤ (twice y *ℤ twice y)) +ℤ pos 20 *ℤ ((x.b *ℤ x.b) *ℤ norm_of y))
uv_square x y = solve integers (four x y)
    ((twice_term (x_ 0) (x_ 1) ⊗ twice_term (x_ 2) (x_ 3)) ⊗ (twice_term (x_ 0) (x_ 1) ⊗ twice_term (x_ 2) (x_ 3)))
    ((n_ (pos 5) ⊗ (x_ 1 ⊗ x_ 3)) ⊗ (n_ (pos 5) ⊗ (x_ 1 ⊗ x_ 3))
    ⊕ (n_ (pos 4) ⊗ (norm_term (x_ 0) (x_ 1) ⊗ (twice_term (x_ 2) (x_ 3) ⊗ twice_term (x_ 2) (x_ 3))) ⊕ n_ (pos 20) ⊗ ((x_ 1 ⊗ x_ 1) ⊗ norm_term (x_ 2) (x_ 3)))) refl

pub ud_square : (x y : Whole) → (twice x *ℤ y.b) *ℤ (twice x *ℤ y.b)
    ≡ (x.b *ℤ twice y) *ℤ (x.b *ℤ twice y) +ℤ (pos 4 *ℤ (norm_of x *ℤ (y.b *ℤ y.b)) +ℤ pos 4 *ℤ ((x.b *ℤ x.b) *ℤ neg_ℤ (norm_of y)))
ud_square x y = solve integers (four x y)
    ((twice_term (x_ 0) (x_ 1) ⊗ x_ 3) ⊗ (twice_term (x_ 0) (x_ 1) ⊗ x_ 3))
    ((x_ 1 ⊗ twice_term (x_ 2) (x_ 3)) ⊗ (x_ 1 ⊗ twice_term (x_ 2) (x_ 3))
    ⊕ (n_ (pos 4) ⊗ (norm_term (x_ 0) (x_ 1) ⊗ (x_ 3 ⊗ x_ 3)) ⊕ n_ (pos 4) ⊗ ((x_ 1 ⊗ x_ 1) ⊗ ⊖_ (norm_term (x_ 2) (x_ 3))))) refl
