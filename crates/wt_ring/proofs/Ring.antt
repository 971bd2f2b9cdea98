-- Equations of commutative rings, decided by computing: two terms over the same numbers are equal where the polynomial of their difference is zero.
use Rattle.std.specs.Prelude.{◌≡◌, ℕ, zero, suc, Bool, true, false, ◌&&◌, cond, ℤ, pos, negsuc, ◌+ℤ◌, ◌*ℤ◌, List, [], ◌∷◌, map, refl}
use Rattle.std.specs.List.{list_all}
use Rattle.std.proofs.Common.{sym, ◌∙◌, ap, subst}

-- A commutative ring with the whole numbers in it.
pub record Ring (C : Type 0) : Type 0 where
  pub num : ℤ → C
  pub add : C → C → C
  pub mul : C → C → C
  pub neg : C → C
  pub add_assoc : (x y z : C) → add (add x y) z ≡ add x (add y z)
  pub add_comm : (x y : C) → add x y ≡ add y x
  pub add_zero : (x : C) → add x (num (pos 0)) ≡ x
  pub mul_assoc : (x y z : C) → mul (mul x y) z ≡ mul x (mul y z)
  pub mul_comm : (x y : C) → mul x y ≡ mul y x
  pub mul_one : (x : C) → mul x (num (pos 1)) ≡ x
  pub mul_zero : (x : C) → mul x (num (pos 0)) ≡ num (pos 0)
  pub dist : (x y z : C) → mul x (add y z) ≡ add (mul x y) (mul x z)
  pub num_add : (m n : ℤ) → num (m +ℤ n) ≡ add (num m) (num n)
  pub num_mul : (m n : ℤ) → num (m *ℤ n) ≡ mul (num m) (num n)
  pub neg_is : (x : C) → neg x ≡ mul (num (negsuc 0)) x

infixl 40 ◌⊕◌
infixl 45 ◌⊗◌
pub data Term : Type 0 where
  x_ : ℕ → Term
  n_ : ℤ → Term
  ◌⊕◌ : Term → Term → Term
  ◌⊗◌ : Term → Term → Term
  ⊖_ : Term → Term

-- ---- what a term and a polynomial stand for
abbrev pub look : {C : Type 0} → C → List C → ℕ → C
look d [] i = d
look d (x ∷ xs) zero = x
look d (x ∷ xs) (suc i) = look d xs i

abbrev pub eval : {C : Type 0} → Ring C → List C → Term → C
eval R env (x_ i) = look (R.num (pos 0)) env i
eval R env (n_ n) = R.num n
eval R env (s ⊕ t) = R.add (eval R env s) (eval R env t)
eval R env (s ⊗ t) = R.mul (eval R env s) (eval R env t)
eval R env (⊖_ t) = R.neg (eval R env t)

-- a polynomial in the numbers of the list: a list of coefficients for each power of the first, over the others
abbrev pub Poly : {C : Type 0} → List C → Type 0
Poly [] = ℤ
Poly (x ∷ xs) = List (Poly xs)

abbrev pub horner : {C P : Type 0} → Ring C → (P → C) → C → List P → C
horner R f x [] = R.num (pos 0)
horner R f x (c ∷ p) = R.add (f c) (R.mul x (horner R f x p))

abbrev pub value : {C : Type 0} → Ring C → (env : List C) → Poly env → C
value R [] = λ c. R.num c
value R (x ∷ xs) = λ p. horner R (value R xs) x p

-- ---- arithmetic of polynomials
abbrev pub zip_add : {P : Type 0} → (P → P → P) → List P → List P → List P
zip_add f [] q = q
zip_add f (c ∷ p) [] = c ∷ p
zip_add f (c ∷ p) (d ∷ q) = f c d ∷ zip_add f p q

abbrev pub convolve : {P : Type 0} → (P → P → P) → (P → P → P) → P → List P → List P → List P
convolve plus times z [] q = []
convolve plus times z (c ∷ p) q = zip_add plus (map (times c) q) (z ∷ convolve plus times z p q)

abbrev pub constant : {C : Type 0} → (env : List C) → ℤ → Poly env
constant [] n = n
constant (x ∷ xs) n = constant xs n ∷ []

abbrev pub variable : {C : Type 0} → (env : List C) → ℕ → Poly env
variable [] i = pos 0
variable (x ∷ xs) zero = constant xs (pos 0) ∷ (constant xs (pos 1) ∷ [])
variable (x ∷ xs) (suc i) = variable xs i ∷ []

abbrev pub plus_of : {C : Type 0} → (env : List C) → Poly env → Poly env → Poly env
plus_of [] = λ a b. a +ℤ b
plus_of (x ∷ xs) = λ p q. zip_add (plus_of xs) p q

abbrev pub times_of : {C : Type 0} → (env : List C) → Poly env → Poly env → Poly env
times_of [] = λ a b. a *ℤ b
times_of (x ∷ xs) = λ p q. convolve (plus_of xs) (times_of xs) (constant xs (pos 0)) p q

abbrev pub is_nought : ℤ → Bool
is_nought (pos zero) = true
is_nought (pos (suc n)) = false
is_nought (negsuc n) = false

abbrev pub is_zero : {C : Type 0} → (env : List C) → Poly env → Bool
is_zero [] = is_nought
is_zero (x ∷ xs) = list_all (is_zero xs)

abbrev pub norm : {C : Type 0} → (env : List C) → Term → Poly env
norm env (x_ i) = variable env i
norm env (n_ n) = constant env n
norm env (s ⊕ t) = plus_of env (norm env s) (norm env t)
norm env (s ⊗ t) = times_of env (norm env s) (norm env t)
norm env (⊖_ t) = times_of env (constant env (negsuc 0)) (norm env t)

-- ---- laws of a ring
zero_add : {C : Type 0} (R : Ring C) (x : C) → R.add (R.num (pos 0)) x ≡ x
zero_add R x = R.add_comm (R.num (pos 0)) x ∙ R.add_zero x

interchange : {C : Type 0} (R : Ring C) (a b c d : C) → R.add (R.add a b) (R.add c d) ≡ R.add (R.add a c) (R.add b d)
interchange R a b c d =
    R.add_assoc a b (R.add c d)
    ∙ ap (λ t. R.add a t) (sym (R.add_assoc b c d) ∙ ap (λ t. R.add t d) (R.add_comm b c) ∙ R.add_assoc c b d)
    ∙ sym (R.add_assoc a c (R.add b d))

mul_left_comm : {C : Type 0} (R : Ring C) (x k h : C) → R.mul x (R.mul k h) ≡ R.mul k (R.mul x h)
mul_left_comm R x k h = sym (R.mul_assoc x k h) ∙ ap (λ t. R.mul t h) (R.mul_comm x k) ∙ R.mul_assoc k x h

dist_right : {C : Type 0} (R : Ring C) (a b q : C) → R.mul (R.add a b) q ≡ R.add (R.mul a q) (R.mul b q)
dist_right R a b q =
    R.mul_comm (R.add a b) q ∙ R.dist q a b
    ∙ ap (λ t. R.add t (R.mul q b)) (R.mul_comm q a) ∙ ap (λ t. R.add (R.mul a q) t) (R.mul_comm q b)

-- ---- the polynomials' arithmetic is the ring's
horner_add : {C P : Type 0} (R : Ring C) (f : P → C) (x : C) (g : P → P → P) (h : (c d : P) → f (g c d) ≡ R.add (f c) (f d))
    (p q : List P) → horner R f x (zip_add g p q) ≡ R.add (horner R f x p) (horner R f x q)
horner_add R f x g h [] q = sym (zero_add R (horner R f x q))
horner_add R f x g h (c ∷ p) [] = sym (R.add_zero (horner R f x (c ∷ p)))
horner_add R f x g h (c ∷ p) (d ∷ q) =
    ap (λ t. R.add t (R.mul x (horner R f x (zip_add g p q)))) (h c d)
    ∙ ap (λ t. R.add (R.add (f c) (f d)) (R.mul x t)) (horner_add R f x g h p q)
    ∙ ap (λ t. R.add (R.add (f c) (f d)) t) (R.dist x (horner R f x p) (horner R f x q))
    ∙ interchange R (f c) (f d) (R.mul x (horner R f x p)) (R.mul x (horner R f x q))

horner_map : {C P : Type 0} (R : Ring C) (f : P → C) (x k : C) (g : P → P) (h : (c : P) → f (g c) ≡ R.mul k (f c))
    (q : List P) → horner R f x (map g q) ≡ R.mul k (horner R f x q)
horner_map R f x k g h [] = sym (R.mul_zero k)
horner_map R f x k g h (d ∷ q) =
    ap (λ t. R.add t (R.mul x (horner R f x (map g q)))) (h d)
    ∙ ap (λ t. R.add (R.mul k (f d)) (R.mul x t)) (horner_map R f x k g h q)
    ∙ ap (λ t. R.add (R.mul k (f d)) t) (mul_left_comm R x k (horner R f x q))
    ∙ sym (R.dist k (f d) (R.mul x (horner R f x q)))

horner_mul : {C P : Type 0} (R : Ring C) (f : P → C) (x : C) (plus times : P → P → P) (z : P)
    (fp : (c d : P) → f (plus c d) ≡ R.add (f c) (f d)) (ft : (c d : P) → f (times c d) ≡ R.mul (f c) (f d)) (fz : f z ≡ R.num (pos 0))
    (p q : List P) → horner R f x (convolve plus times z p q) ≡ R.mul (horner R f x p) (horner R f x q)
horner_mul R f x plus times z fp ft fz [] q = sym (R.mul_comm (R.num (pos 0)) (horner R f x q) ∙ R.mul_zero (horner R f x q))
horner_mul R f x plus times z fp ft fz (c ∷ p) q =
    let hp = horner R f x p in
    let hq = horner R f x q in
    let rest = convolve plus times z p q in
    horner_add R f x plus fp (map (times c) q) (z ∷ rest)
    ∙ ap (λ t. R.add t (R.add (f z) (R.mul x (horner R f x rest)))) (horner_map R f x (f c) (times c) (ft c) q)
    ∙ ap (λ t. R.add (R.mul (f c) hq) (R.add t (R.mul x (horner R f x rest)))) fz
    ∙ ap (λ t. R.add (R.mul (f c) hq) t) (zero_add R (R.mul x (horner R f x rest)))
    ∙ ap (λ t. R.add (R.mul (f c) hq) (R.mul x t)) (horner_mul R f x plus times z fp ft fz p q)
    ∙ ap (λ t. R.add (R.mul (f c) hq) t) (sym (R.mul_assoc x hp hq))
    ∙ sym (dist_right R (f c) (R.mul x hp) hq)

constant_value : {C : Type 0} (R : Ring C) (env : List C) (n : ℤ) → value R env (constant env n) ≡ R.num n
constant_value R [] n = refl
constant_value R (x ∷ xs) n =
    ap (λ t. R.add (value R xs (constant xs n)) t) (R.mul_zero x) ∙ R.add_zero (value R xs (constant xs n)) ∙ constant_value R xs n

variable_value : {C : Type 0} (R : Ring C) (env : List C) (i : ℕ) → value R env (variable env i) ≡ look (R.num (pos 0)) env i
variable_value R [] i = refl
variable_value R (x ∷ xs) zero =
    ap (λ t. R.add t (R.mul x (R.add (value R xs (constant xs (pos 1))) (R.mul x (R.num (pos 0)))))) (constant_value R xs (pos 0))
    ∙ zero_add R (R.mul x (R.add (value R xs (constant xs (pos 1))) (R.mul x (R.num (pos 0)))))
    ∙ ap (λ t. R.mul x (R.add t (R.mul x (R.num (pos 0))))) (constant_value R xs (pos 1))
    ∙ ap (λ t. R.mul x (R.add (R.num (pos 1)) t)) (R.mul_zero x)
    ∙ ap (λ t. R.mul x t) (R.add_zero (R.num (pos 1)))
    ∙ R.mul_one x
variable_value R (x ∷ xs) (suc i) =
    ap (λ t. R.add (value R xs (variable xs i)) t) (R.mul_zero x) ∙ R.add_zero (value R xs (variable xs i)) ∙ variable_value R xs i

plus_value : {C : Type 0} (R : Ring C) (env : List C) (p q : Poly env) → value R env (plus_of env p q) ≡ R.add (value R env p) (value R env q)
plus_value R [] p q = R.num_add p q
plus_value R (x ∷ xs) p q = horner_add R (value R xs) x (plus_of xs) (plus_value R xs) p q

times_value : {C : Type 0} (R : Ring C) (env : List C) (p q : Poly env) → value R env (times_of env p q) ≡ R.mul (value R env p) (value R env q)
times_value R [] p q = R.num_mul p q
times_value R (x ∷ xs) p q =
    horner_mul R (value R xs) x (plus_of xs) (times_of xs) (constant xs (pos 0)) (plus_value R xs) (times_value R xs) (constant_value R xs (pos 0)) p q

norm_value : {C : Type 0} (R : Ring C) (env : List C) (t : Term) → value R env (norm env t) ≡ eval R env t
norm_value R env (x_ i) = variable_value R env i
norm_value R env (n_ n) = constant_value R env n
norm_value R env (s ⊕ t) =
    plus_value R env (norm env s) (norm env t)
    ∙ ap (λ v. R.add v (value R env (norm env t))) (norm_value R env s) ∙ ap (λ v. R.add (eval R env s) v) (norm_value R env t)
norm_value R env (s ⊗ t) =
    times_value R env (norm env s) (norm env t)
    ∙ ap (λ v. R.mul v (value R env (norm env t))) (norm_value R env s) ∙ ap (λ v. R.mul (eval R env s) v) (norm_value R env t)
norm_value R env (⊖_ t) =
    times_value R env (constant env (negsuc 0)) (norm env t)
    ∙ ap (λ v. R.mul v (value R env (norm env t))) (constant_value R env (negsuc 0)) ∙ ap (λ v. R.mul (R.num (negsuc 0)) v) (norm_value R env t)
    ∙ sym (R.neg_is (eval R env t))

-- ---- a polynomial whose coefficients are all zero
both : (a b : Bool) → (a && b) ≡ true → (a ≡ true) × (b ≡ true)
both true b e = (refl, e)
both false b e = absurd (subst (λ t. cond t ⊥ (⊥ → ⊥)) e (λ z. z))

nought : (c : ℤ) → is_nought c ≡ true → c ≡ pos 0
nought (pos zero) e = refl
nought (pos (suc n)) e = absurd (subst (λ t. cond t ⊥ (⊥ → ⊥)) e (λ z. z))
nought (negsuc n) e = absurd (subst (λ t. cond t ⊥ (⊥ → ⊥)) e (λ z. z))

all_zero : {C P : Type 0} (R : Ring C) (f : P → C) (x : C) (test : P → Bool) (h : (c : P) → test c ≡ true → f c ≡ R.num (pos 0))
    (p : List P) → list_all test p ≡ true → horner R f x p ≡ R.num (pos 0)
all_zero R f x test h [] e = refl
all_zero R f x test h (c ∷ p) e =
    let b = both (test c) (list_all test p) e in
    ap (λ t. R.add t (R.mul x (horner R f x p))) (h c b.0)
    ∙ zero_add R (R.mul x (horner R f x p))
    ∙ ap (λ t. R.mul x t) (all_zero R f x test h p b.1)
    ∙ R.mul_zero x

zero_value : {C : Type 0} (R : Ring C) (env : List C) (p : Poly env) → is_zero env p ≡ true → value R env p ≡ R.num (pos 0)
zero_value R [] p e = ap R.num (nought p e)
zero_value R (x ∷ xs) p e = all_zero R (value R xs) x (is_zero xs) (zero_value R xs) p e

-- x - y is zero only where x is y
no_difference : {C : Type 0} (R : Ring C) (x y : C) → R.add x (R.mul (R.num (negsuc 0)) y) ≡ R.num (pos 0) → x ≡ y
no_difference R x y e =
    sym (R.add_zero x)
    ∙ ap (λ t. R.add x t) (sym (R.mul_zero y) ∙ ap (λ t. R.mul y t) (R.num_add (negsuc 0) (pos 1)) ∙ R.dist y (R.num (negsuc 0)) (R.num (pos 1)) ∙ ap (λ t. R.add (R.mul y (R.num (negsuc 0))) t) (R.mul_one y))
    ∙ sym (R.add_assoc x (R.mul y (R.num (negsuc 0))) y)
    ∙ ap (λ t. R.add (R.add x t) y) (R.mul_comm y (R.num (negsuc 0)))
    ∙ ap (λ t. R.add t y) e
    ∙ zero_add R y

-- Two terms are equal where the polynomial of their difference has no coefficient but zero: the last argument is `refl`.
pub solve : {C : Type 0} (R : Ring C) (env : List C) (s t : Term) → is_zero env (norm env (s ⊕ (n_ (negsuc 0) ⊗ t))) ≡ true → eval R env s ≡ eval R env t
solve R env s t e =
    no_difference R (eval R env s) (eval R env t)
    (sym (norm_value R env (s ⊕ (n_ (negsuc 0) ⊗ t))) ∙ zero_value R env (norm env (s ⊕ (n_ (negsuc 0) ⊗ t))) e)
