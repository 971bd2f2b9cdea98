-- Equations between the numbers of three half-planes at a point.
use Rattle.std.specs.Prelude.{◌≡◌, ℕ, List, [], ◌∷◌, refl}
use Rattle.wt_golden.specs.Whole.{Whole, plus, minus, times, opposite}
use Rattle.wt_ring.proofs.Ring.{Term, x_, ◌⊕◌, ◌⊗◌, ⊖_, solve}
use Rattle.wt_golden.proofs.WholeRing.{golden}
use Rattle.wt_plane.specs.HalfPlanes.{Half}
use Rattle.wt_plane.specs.Clash.{cross, dot, weighted, gap}

-- the number of a half-plane at (x / d, y / d), times d, for any number d
abbrev pub at : Half → Whole → Whole → Whole → Whole
at h x y d = plus (plus (times h.p x) (times h.q y)) (times h.r d)

-- ---- terms: the half-planes are 0 to 2, 3 to 5 and 6 to 8, and the other three numbers are 9, 10 and 11
abbrev numbers : Half → Half → Half → Whole → Whole → Whole → List Whole
numbers f g h x y d = f.p ∷ f.q ∷ f.r ∷ g.p ∷ g.q ∷ g.r ∷ h.p ∷ h.q ∷ h.r ∷ x ∷ y ∷ d ∷ []

abbrev cross_t : ℕ → ℕ → ℕ → ℕ → Term
cross_t p q p' q' = x_ p ⊗ x_ q' ⊕ ⊖_ (x_ q ⊗ x_ p')

abbrev dot_t : ℕ → ℕ → ℕ → ℕ → Term
dot_t p q p' q' = x_ p ⊗ x_ p' ⊕ x_ q ⊗ x_ q'

abbrev at_t : ℕ → ℕ → ℕ → Term → Term → Term → Term
at_t p q r x y d = x_ p ⊗ x ⊕ x_ q ⊗ y ⊕ x_ r ⊗ d

abbrev fg : Term
fg = cross_t 0 1 3 4

abbrev gh : Term
gh = cross_t 3 4 6 7

abbrev hf : Term
hf = cross_t 6 7 0 1

abbrev weighted_t : Term
weighted_t = gh ⊗ x_ 2 ⊕ hf ⊗ x_ 5 ⊕ fg ⊗ x_ 8

abbrev gap_t : Term
gap_t = dot_t 0 1 0 1 ⊗ x_ 5 ⊕ ⊖_ (dot_t 0 1 3 4 ⊗ x_ 2)

-- the weighted numbers add up to the weighted constants
pub weights : (f g h : Half) (x y d : Whole)
    → plus (plus (times (cross g h) (at f x y d)) (times (cross h f) (at g x y d))) (times (cross f g) (at h x y d)) ≡ times (weighted f g h) d
unfolding cross weighted
weights f g h x y d = solve golden (numbers f g h x y d)
    (gh ⊗ at_t 0 1 2 (x_ 9) (x_ 10) (x_ 11) ⊕ hf ⊗ at_t 3 4 5 (x_ 9) (x_ 10) (x_ 11) ⊕ fg ⊗ at_t 6 7 8 (x_ 9) (x_ 10) (x_ 11))
    (weighted_t ⊗ x_ 11) refl

-- ---- the point at which f is u / s and g is v / s
abbrev pub meet_x : Half → Half → Whole → Whole → Whole → Whole
meet_x f g u v s = minus (times (minus u (times f.r s)) g.q) (times (minus v (times g.r s)) f.q)

abbrev pub meet_y : Half → Half → Whole → Whole → Whole → Whole
meet_y f g u v s = minus (times f.p (minus v (times g.r s))) (times g.p (minus u (times f.r s)))

abbrev pub meet_d : Half → Half → Whole → Whole
meet_d f g s = times (cross f g) s

abbrev meet_x_t : Term
meet_x_t = (x_ 9 ⊕ ⊖_ (x_ 2 ⊗ x_ 11)) ⊗ x_ 4 ⊕ ⊖_ ((x_ 10 ⊕ ⊖_ (x_ 5 ⊗ x_ 11)) ⊗ x_ 1)

abbrev meet_y_t : Term
meet_y_t = x_ 0 ⊗ (x_ 10 ⊕ ⊖_ (x_ 5 ⊗ x_ 11)) ⊕ ⊖_ (x_ 3 ⊗ (x_ 9 ⊕ ⊖_ (x_ 2 ⊗ x_ 11)))

pub meet_first : (f g : Half) (u v s : Whole) → at f (meet_x f g u v s) (meet_y f g u v s) (meet_d f g s) ≡ times (cross f g) u
unfolding cross
meet_first f g u v s = solve golden (numbers f g f u v s) (at_t 0 1 2 meet_x_t meet_y_t (fg ⊗ x_ 11)) (fg ⊗ x_ 9) refl

pub meet_second : (f g : Half) (u v s : Whole) → at g (meet_x f g u v s) (meet_y f g u v s) (meet_d f g s) ≡ times (cross f g) v
unfolding cross
meet_second f g u v s = solve golden (numbers f g f u v s) (at_t 3 4 5 meet_x_t meet_y_t (fg ⊗ x_ 11)) (fg ⊗ x_ 10) refl

pub meet_third : (f g h : Half) (u v s : Whole) → at h (meet_x f g u v s) (meet_y f g u v s) (meet_d f g s)
    ≡ minus (minus (times (weighted f g h) s) (times (cross g h) u)) (times (cross h f) v)
unfolding cross weighted
meet_third f g h u v s = solve golden (numbers f g h u v s) (at_t 6 7 8 meet_x_t meet_y_t (fg ⊗ x_ 11))
    (weighted_t ⊗ x_ 11 ⊕ ⊖_ (gh ⊗ x_ 9) ⊕ ⊖_ (hf ⊗ x_ 10)) refl

-- ---- parallel directions
pub parallel : (f g : Half) (x y d : Whole) → times (dot f f) (at g x y d)
    ≡ plus (plus (times (dot f g) (at f x y d)) (times (gap f g) d)) (times (cross f g) (minus (times f.p y) (times f.q x)))
unfolding cross dot gap
parallel f g x y d = solve golden (numbers f g f x y d)
    (dot_t 0 1 0 1 ⊗ at_t 3 4 5 (x_ 9) (x_ 10) (x_ 11))
    (dot_t 0 1 3 4 ⊗ at_t 0 1 2 (x_ 9) (x_ 10) (x_ 11) ⊕ gap_t ⊗ x_ 11 ⊕ fg ⊗ (x_ 0 ⊗ x_ 10 ⊕ ⊖_ (x_ 1 ⊗ x_ 9))) refl

-- the point along f's direction at which f is u / s
abbrev pub along_x : Half → Whole → Whole → Whole
along_x f u s = times (minus u (times f.r s)) f.p

abbrev pub along_y : Half → Whole → Whole → Whole
along_y f u s = times (minus u (times f.r s)) f.q

abbrev pub along_d : Half → Whole → Whole
along_d f s = times (dot f f) s

pub along_first : (f : Half) (u s : Whole) → at f (along_x f u s) (along_y f u s) (along_d f s) ≡ times (dot f f) u
unfolding dot
along_first f u s = solve golden (numbers f f f u u s)
    (at_t 0 1 2 ((x_ 9 ⊕ ⊖_ (x_ 2 ⊗ x_ 11)) ⊗ x_ 0) ((x_ 9 ⊕ ⊖_ (x_ 2 ⊗ x_ 11)) ⊗ x_ 1) (dot_t 0 1 0 1 ⊗ x_ 11)) (dot_t 0 1 0 1 ⊗ x_ 9) refl

pub along_second : (f g : Half) (u s : Whole) → at g (along_x f u s) (along_y f u s) (along_d f s) ≡ plus (times (dot f g) u) (times (gap f g) s)
unfolding dot gap
along_second f g u s = solve golden (numbers f g f u u s)
    (at_t 3 4 5 ((x_ 9 ⊕ ⊖_ (x_ 2 ⊗ x_ 11)) ⊗ x_ 0) ((x_ 9 ⊕ ⊖_ (x_ 2 ⊗ x_ 11)) ⊗ x_ 1) (dot_t 0 1 0 1 ⊗ x_ 11))
    (dot_t 0 1 3 4 ⊗ x_ 9 ⊕ gap_t ⊗ x_ 11) refl

-- ---- directions
pub lagrange : (f g : Half) → times (dot f f) (dot g g) ≡ plus (times (dot f g) (dot f g)) (times (cross f g) (cross f g))
unfolding dot cross
lagrange f g = solve golden (numbers f g f f.p f.p f.p) (dot_t 0 1 0 1 ⊗ dot_t 3 4 3 4)
    (dot_t 0 1 3 4 ⊗ dot_t 0 1 3 4 ⊕ fg ⊗ fg) refl

pub dots : (f g h : Half) → times (dot f f) (dot g h) ≡ plus (times (dot f g) (dot f h)) (times (cross f g) (cross f h))
unfolding dot cross
dots f g h = solve golden (numbers f g h f.p f.p f.p) (dot_t 0 1 0 1 ⊗ dot_t 3 4 6 7)
    (dot_t 0 1 3 4 ⊗ dot_t 0 1 6 7 ⊕ fg ⊗ cross_t 0 1 6 7) refl

pub dot_comm : (f g : Half) → dot f g ≡ dot g f
unfolding dot
dot_comm f g = solve golden (numbers f g f f.p f.p f.p) (dot_t 0 1 3 4) (dot_t 3 4 0 1) refl

pub cross_swap : (f g : Half) → cross f g ≡ opposite (cross g f)
unfolding cross
cross_swap f g = solve golden (numbers f g f f.p f.p f.p) (cross_t 0 1 3 4) (⊖_ (cross_t 3 4 0 1)) refl
