-- The test by signs is exact: where it holds no point lies in all three half-planes, and where it doesn't a point is made from their numbers.
use Rattle.std.specs.Prelude.{◌≡◌, ◌⊎◌, Bool, true, false, not, ◌&&◌, ◌||◌, if◌then◌else◌, pos, [], ◌∷◌, refl}
use Rattle.std.proofs.Common.{sym, ◌∙◌, ap, subst, inl, inr}
use Rattle.std.specs.Bool.{MatchBool}
use Rattle.std.specs.Ordering.{MatchOrdering, match_ordering}
use Rattle.std.specs.declared.cmp.Ordering.{Ordering}
use Rattle.std.specs.declared.cmp.Ordering.TheVariants.{Less, Equal, Greater}
use Rattle.wt_golden.specs.Whole.{Whole, whole, plus, minus, times, opposite, sign, is_positive, IsPositive}
use Rattle.wt_ring.proofs.Ring.{x_, n_, ◌⊕◌, ◌⊗◌, ⊖_, solve}
use Rattle.wt_golden.proofs.WholeRing.{golden, times_zero, times_comm}
use Rattle.wt_golden.proofs.Order.{positive_plus, positive_times, positive_or_not, positive_never_both, positive_not_zero, positive_whole, positive_factor, never_positive, sign_says, has_whole}
use Rattle.wt_plane.specs.HalfPlanes.{Half, Spot, IsSpot, value, Holds, HasDirection, HasCommonSpot}
use Rattle.wt_plane.specs.Clash.{cross, dot, weighted, gap, closes, faces, level, clashes}
use Rattle.wt_plane.proofs.Weights.{at, weights, meet_x, meet_y, meet_d, meet_first, meet_second, meet_third, parallel, along_x, along_y, along_d, along_first, along_second, lagrange, dots, dot_comm, cross_swap}

-- ---- signs
one_above : IsPositive (whole (pos 1))
one_above = positive_whole (pos 1) (record { lt = tt })

-- x is not below 0, as a fact that sums and products keep
abbrev NotLess : Whole → Type 0
NotLess x = IsPositive (opposite x) → ⊥

plus_not_less : (x y : Whole) → IsPositive x → NotLess y → IsPositive (plus x y)
plus_not_less x y f n = elim (positive_or_not y) as (λ _. IsPositive (plus x y)) [
  | inl e ↦ subst IsPositive (sym (ap (plus x) e ∙ solve golden (x ∷ []) (x_ 0 ⊕ n_ (pos 0)) (x_ 0) refl)) f
  | inr s ↦ elim s as (λ _. IsPositive (plus x y)) [ inl g ↦ positive_plus x y f g | inr g ↦ absurd (n g) ]
]

times_not_less : (x y : Whole) → NotLess x → IsPositive y → NotLess (times x y)
times_not_less x y n f p = n (positive_factor y (opposite x) f
    (subst IsPositive (solve golden (x ∷ y ∷ []) (⊖_ (x_ 0 ⊗ x_ 1)) (x_ 1 ⊗ ⊖_ (x_ 0)) refl) p))

-- a sum above 0 with a summand not above 0
other_above : (x y : Whole) → (IsPositive x → ⊥) → IsPositive (plus x y) → IsPositive y
other_above x y n f = elim (positive_or_not y) as (λ _. IsPositive y) [
  | inl e ↦ absurd (n (subst IsPositive (ap (plus x) e ∙ solve golden (x ∷ []) (x_ 0 ⊕ n_ (pos 0)) (x_ 0) refl) f))
  | inr s ↦ elim s as (λ _. IsPositive y) [
    | inl g ↦ g
    | inr g ↦ absurd (n (subst IsPositive (solve golden (x ∷ y ∷ []) ((x_ 0 ⊕ x_ 1) ⊕ ⊖_ (x_ 1)) (x_ 0) refl) (positive_plus (plus x y) (opposite y) f g)))
  ]
]

-- something above 0 that is above -x too
pub record AboveBoth (x : Whole) : Type 0 where
  pub number : Whole
  pub above : IsPositive number
  pub sum : IsPositive (plus number x)

pub above_both : (x : Whole) → AboveBoth x
above_both x = elim (positive_or_not x) as (λ _. AboveBoth x) [
  | inl e ↦ record {
    number = whole (pos 1);
    above = one_above;
    sum = subst IsPositive (sym (ap (plus (whole (pos 1))) e ∙ solve golden [] (n_ (pos 1) ⊕ n_ (pos 0)) (n_ (pos 1)) refl)) one_above;
  }
  | inr s ↦ elim s as (λ _. AboveBoth x) [
    | inl f ↦ record { number = whole (pos 1); above = one_above; sum = positive_plus (whole (pos 1)) x one_above f }
    | inr f ↦ record {
      number = plus (whole (pos 1)) (opposite x);
      above = positive_plus (whole (pos 1)) (opposite x) one_above f;
      sum = subst IsPositive (sym (solve golden (x ∷ []) (n_ (pos 1) ⊕ ⊖_ (x_ 0) ⊕ x_ 0) (n_ (pos 1)) refl)) one_above;
    }
  ]
]

-- ---- a point whose denominator is a golden number
pub common_spot : (f g h : Half) (x y d : Whole) → IsPositive d → IsPositive (at f x y d) → IsPositive (at g x y d) → IsPositive (at h x y d) → HasCommonSpot f g h
common_spot f g h x y d p pf pg ph =
    let k = has_whole d p in
    let scaled : (h : Half) → IsPositive (at h x y d) → Holds h (record { x = times x k.factor; y = times y k.factor; d = k.number }) =
    λ h q. subst IsPositive
    (solve golden (h.p ∷ h.q ∷ h.r ∷ x ∷ y ∷ d ∷ k.factor ∷ []) ((x_ 0 ⊗ x_ 3 ⊕ x_ 1 ⊗ x_ 4 ⊕ x_ 2 ⊗ x_ 5) ⊗ x_ 6) (x_ 0 ⊗ (x_ 3 ⊗ x_ 6) ⊕ x_ 1 ⊗ (x_ 4 ⊗ x_ 6) ⊕ x_ 2 ⊗ (x_ 5 ⊗ x_ 6)) refl
    ∙ ap (λ t. plus (plus (times h.p (times x k.factor)) (times h.q (times y k.factor))) (times h.r t)) k.is)
    (positive_times (at h x y d) k.factor q k.factor_above) in
    (record { x = times x k.factor; y = times y k.factor; d = k.number }, record { divisor = k.number_above }, scaled f pf, scaled g pg, scaled h ph)

pub spot_above : (z : Spot) → IsSpot z → IsPositive (whole z.d)
spot_above z s = positive_whole z.d s.divisor

-- ---- g to the left of f
closed_empty : (f g h : Half) → IsPositive (cross f g) → NotLess (cross g h) → NotLess (cross h f) → (IsPositive (weighted f g h) → ⊥) → HasCommonSpot f g h → ⊥
closed_empty f g h p n1 n2 w c =
    let z = c.0 in
    let d = spot_above z c.1 in
    let f1 = times_not_less (cross g h) (value f z) n1 c.2 in
    let f2 = times_not_less (cross h f) (value g z) n2 c.3 in
    let f3 = positive_times (cross f g) (value h z) p c.4 in
    let total : IsPositive (plus (plus (times (cross g h) (value f z)) (times (cross h f) (value g z))) (times (cross f g) (value h z))) =
    subst IsPositive (solve golden (times (cross f g) (value h z) ∷ times (cross h f) (value g z) ∷ times (cross g h) (value f z) ∷ []) (x_ 0 ⊕ x_ 1 ⊕ x_ 2) (x_ 2 ⊕ x_ 1 ⊕ x_ 0) refl)
    (plus_not_less _ (times (cross g h) (value f z)) (plus_not_less (times (cross f g) (value h z)) (times (cross h f) (value g z)) f3 f2) f1) in
    let all : IsPositive (times (weighted f g h) (whole z.d)) = subst IsPositive (weights f g h z.x z.y (whole z.d)) total in
    w (positive_factor (whole z.d) (weighted f g h) d (subst IsPositive (times_comm (weighted f g h) (whole z.d)) all))

met : (f g h : Half) (u v s : Whole) → IsPositive (cross f g) → IsPositive u → IsPositive v → IsPositive s
    → IsPositive (minus (minus (times (weighted f g h) s) (times (cross g h) u)) (times (cross h f) v)) → HasCommonSpot f g h
met f g h u v s p pu pv ps r = common_spot f g h (meet_x f g u v s) (meet_y f g u v s) (meet_d f g s)
    (positive_times (cross f g) s p ps)
    (subst IsPositive (sym (meet_first f g u v s)) (positive_times (cross f g) u p pu))
    (subst IsPositive (sym (meet_second f g u v s)) (positive_times (cross f g) v p pv))
    (subst IsPositive (sym (meet_third f g h u v s)) r)

-- near the corner of f and g
met_near : (f g h : Half) → IsPositive (cross f g) → IsPositive (weighted f g h) → HasCommonSpot f g h
met_near f g h p w =
    let a = above_both (opposite (plus (cross g h) (cross h f))) in
    met f g h (weighted f g h) (weighted f g h) a.number p w w a.above
    (subst IsPositive (solve golden (weighted f g h ∷ a.number ∷ cross g h ∷ cross h f ∷ [])
    (x_ 0 ⊗ (x_ 1 ⊕ ⊖_ (x_ 2 ⊕ x_ 3))) (x_ 0 ⊗ x_ 1 ⊕ ⊖_ (x_ 2 ⊗ x_ 0) ⊕ ⊖_ (x_ 3 ⊗ x_ 0)) refl)
    (positive_times (weighted f g h) (plus a.number (opposite (plus (cross g h) (cross h f)))) w a.sum))

-- far off, where f is great
met_first : (f g h : Half) → IsPositive (cross f g) → IsPositive (opposite (cross g h)) → HasCommonSpot f g h
met_first f g h p n =
    let k = opposite (cross g h) in
    let a = above_both (minus (weighted f g h) (cross h f)) in
    met f g h a.number k k p a.above n n
    (subst IsPositive (solve golden (cross g h ∷ a.number ∷ weighted f g h ∷ cross h f ∷ [])
    (⊖_ (x_ 0) ⊗ (x_ 1 ⊕ (x_ 2 ⊕ ⊖_ (x_ 3)))) (x_ 2 ⊗ ⊖_ (x_ 0) ⊕ ⊖_ (x_ 0 ⊗ x_ 1) ⊕ ⊖_ (x_ 3 ⊗ ⊖_ (x_ 0))) refl)
    (positive_times k (plus a.number (minus (weighted f g h) (cross h f))) n a.sum))

-- far off, where g is great
met_second : (f g h : Half) → IsPositive (cross f g) → IsPositive (opposite (cross h f)) → HasCommonSpot f g h
met_second f g h p n =
    let k = opposite (cross h f) in
    let a = above_both (minus (weighted f g h) (cross g h)) in
    met f g h k a.number k p n a.above n
    (subst IsPositive (solve golden (cross h f ∷ a.number ∷ weighted f g h ∷ cross g h ∷ [])
    (⊖_ (x_ 0) ⊗ (x_ 1 ⊕ (x_ 2 ⊕ ⊖_ (x_ 3)))) (x_ 2 ⊗ ⊖_ (x_ 0) ⊕ ⊖_ (x_ 3 ⊗ ⊖_ (x_ 0)) ⊕ ⊖_ (x_ 0 ⊗ x_ 1)) refl)
    (positive_times k (plus a.number (minus (weighted f g h) (cross g h))) n a.sum))

-- ---- g and h opposite to f
gap_ends : (f g : Half) → IsPositive (dot f f) → cross f g ≡ whole (pos 0) → IsPositive (opposite (dot f g)) → (IsPositive (gap f g) → ⊥)
    → (z : Spot) → IsSpot z → Holds f z → Holds g z → ⊥
gap_ends f g p e n m z s zf zg =
    let left : IsPositive (times (dot f f) (value g z)) = positive_times (dot f f) (value g z) p zg in
    let rest : times (cross f g) (minus (times f.p z.y) (times f.q z.x)) ≡ whole (pos 0) =
    ap (λ t. times t (minus (times f.p z.y) (times f.q z.x))) e ∙ solve golden (minus (times f.p z.y) (times f.q z.x) ∷ []) (n_ (pos 0) ⊗ x_ 0) (n_ (pos 0)) refl in
    let right : IsPositive (plus (times (dot f g) (value f z)) (times (gap f g) (whole z.d))) =
    subst IsPositive (parallel f g z.x z.y (whole z.d) ∙ ap (λ t. plus (plus (times (dot f g) (value f z)) (times (gap f g) (whole z.d))) t) rest
    ∙ solve golden (times (dot f g) (value f z) ∷ times (gap f g) (whole z.d) ∷ []) (x_ 0 ⊕ x_ 1 ⊕ n_ (pos 0)) (x_ 0 ⊕ x_ 1) refl) left in
    let below : IsPositive (opposite (times (dot f g) (value f z))) =
    subst IsPositive (solve golden (dot f g ∷ value f z ∷ []) (⊖_ (x_ 0) ⊗ x_ 1) (⊖_ (x_ 0 ⊗ x_ 1)) refl) (positive_times (opposite (dot f g)) (value f z) n zf) in
    let some : IsPositive (times (gap f g) (whole z.d)) =
    other_above (times (dot f g) (value f z)) (times (gap f g) (whole z.d)) (λ q. positive_never_both (times (dot f g) (value f z)) q below) right in
    m (positive_factor (whole z.d) (gap f g) (spot_above z s) (subst IsPositive (times_comm (gap f g) (whole z.d)) some))

along : (f g h : Half) (u s : Whole) → IsPositive (dot f f) → IsPositive u → IsPositive s
    → IsPositive (plus (times (dot f g) u) (times (gap f g) s)) → IsPositive (plus (times (dot f h) u) (times (gap f h) s)) → HasCommonSpot f g h
along f g h u s p pu ps pg ph = common_spot f g h (along_x f u s) (along_y f u s) (along_d f s)
    (positive_times (dot f f) s p ps)
    (subst IsPositive (sym (along_first f u s)) (positive_times (dot f f) u p pu))
    (subst IsPositive (sym (along_second f g u s)) pg)
    (subst IsPositive (sym (along_second f h u s)) ph)

-- between them
between : (f g h : Half) → IsPositive (dot f f) → IsPositive (opposite (dot f g)) → IsPositive (opposite (dot f h)) → IsPositive (gap f g) → IsPositive (gap f h) → HasCommonSpot f g h
between f g h p ng nh pg ph =
    let s = plus (whole (pos 1)) (plus (times (opposite (dot f g)) (gap f h)) (times (opposite (dot f h)) (gap f g))) in
    let gh_above = positive_times (opposite (dot f g)) (gap f h) ng ph in
    let hg_above = positive_times (opposite (dot f h)) (gap f g) nh pg in
    along f g h (times (gap f g) (gap f h)) s p (positive_times (gap f g) (gap f h) pg ph)
    (positive_plus (whole (pos 1)) _ one_above (positive_plus _ _ gh_above hg_above))
    (subst IsPositive (solve golden (dot f g ∷ dot f h ∷ gap f g ∷ gap f h ∷ [])
    (x_ 2 ⊗ (n_ (pos 1) ⊕ ⊖_ (x_ 1) ⊗ x_ 2)) (x_ 0 ⊗ (x_ 2 ⊗ x_ 3) ⊕ x_ 2 ⊗ (n_ (pos 1) ⊕ (⊖_ (x_ 0) ⊗ x_ 3 ⊕ ⊖_ (x_ 1) ⊗ x_ 2))) refl)
    (positive_times (gap f g) _ pg (positive_plus (whole (pos 1)) _ one_above hg_above)))
    (subst IsPositive (solve golden (dot f g ∷ dot f h ∷ gap f g ∷ gap f h ∷ [])
    (x_ 3 ⊗ (n_ (pos 1) ⊕ ⊖_ (x_ 0) ⊗ x_ 3)) (x_ 1 ⊗ (x_ 2 ⊗ x_ 3) ⊕ x_ 3 ⊗ (n_ (pos 1) ⊕ (⊖_ (x_ 0) ⊗ x_ 3 ⊕ ⊖_ (x_ 1) ⊗ x_ 2))) refl)
    (positive_times (gap f h) _ ph (positive_plus (whole (pos 1)) _ one_above gh_above)))

-- far along the direction of all three
far : (f g h : Half) → IsPositive (dot f f) → IsPositive (dot f g) → IsPositive (dot f h) → HasCommonSpot f g h
far f g h p pg ph =
    let a = above_both (times (gap f g) (dot f h)) in
    let b = above_both (times (gap f h) (dot f g)) in
    along f g h (plus a.number b.number) (times (dot f g) (dot f h)) p (positive_plus _ _ a.above b.above) (positive_times _ _ pg ph)
    (subst IsPositive (solve golden (dot f g ∷ dot f h ∷ gap f g ∷ a.number ∷ b.number ∷ [])
    (x_ 0 ⊗ ((x_ 3 ⊕ x_ 2 ⊗ x_ 1) ⊕ x_ 4)) (x_ 0 ⊗ (x_ 3 ⊕ x_ 4) ⊕ x_ 2 ⊗ (x_ 0 ⊗ x_ 1)) refl)
    (positive_times (dot f g) _ pg (positive_plus _ _ a.sum b.above)))
    (subst IsPositive (solve golden (dot f g ∷ dot f h ∷ gap f h ∷ a.number ∷ b.number ∷ [])
    (x_ 1 ⊗ ((x_ 4 ⊕ x_ 2 ⊗ x_ 0) ⊕ x_ 3)) (x_ 1 ⊗ (x_ 3 ⊕ x_ 4) ⊕ x_ 2 ⊗ (x_ 0 ⊗ x_ 1)) refl)
    (positive_times (dot f h) _ ph (positive_plus _ _ b.sum a.above)))

-- ---- the test
-- the answer b to "no common point" is right
abbrev pub Settles : Bool → Half → Half → Half → Type 0
Settles b f g h = MatchBool b (HasCommonSpot f g h → ⊥) (HasCommonSpot f g h)

carry : (b : Bool) (f g h f' g' h' : Half) → (HasCommonSpot f g h → HasCommonSpot f' g' h') → (HasCommonSpot f' g' h' → HasCommonSpot f g h)
    → Settles b f g h → Settles b f' g' h'
carry true f g h f' g' h' to from n = λ c. n (from c)
carry false f g h f' g' h' to from c = to c

swapped : (f g h : Half) → HasCommonSpot f g h → HasCommonSpot g f h
swapped f g h c = (c.0, c.1, c.3, c.2, c.4)

turned : (f g h : Half) → HasCommonSpot f g h → HasCommonSpot g h f
turned f g h c = (c.0, c.1, c.3, c.4, c.2)

back : (f g h : Half) → HasCommonSpot f g h → HasCommonSpot h f g
back f g h c = (c.0, c.1, c.4, c.2, c.3)

closes_by : (f g h : Half) → IsPositive (cross f g) → (a b c : Bool)
    → is_positive (opposite (cross g h)) ≡ a → is_positive (opposite (cross h f)) ≡ b → is_positive (weighted f g h) ≡ c → Settles (not a && not b && not c) f g h
closes_by f g h p true b c ea eb ec = met_first f g h p (record { above = ea })
closes_by f g h p false true c ea eb ec = met_second f g h p (record { above = eb })
closes_by f g h p false false true ea eb ec = met_near f g h p (record { above = ec })
closes_by f g h p false false false ea eb ec =
    closed_empty f g h p (never_positive (opposite (cross g h)) ea) (never_positive (opposite (cross h f)) eb) (never_positive (weighted f g h) ec)

closes_settles : (f g h : Half) → IsPositive (cross f g) → Settles (closes f g h) f g h
closes_settles f g h p = closes_by f g h p (is_positive (opposite (cross g h))) (is_positive (opposite (cross h f))) (is_positive (weighted f g h)) refl refl refl

faces_by : (f g h : Half) → IsPositive (dot f f) → cross f g ≡ whole (pos 0) → cross f h ≡ whole (pos 0) → IsPositive (opposite (dot f g)) → IsPositive (opposite (dot f h))
    → (a b : Bool) → is_positive (gap f g) ≡ a → is_positive (gap f h) ≡ b → Settles (not a || not b) f g h
faces_by f g h p eg eh ng nh true true ea eb = between f g h p ng nh (record { above = ea }) (record { above = eb })
faces_by f g h p eg eh ng nh true false ea eb = λ c. gap_ends f h p eh nh (never_positive (gap f h) eb) c.0 c.1 c.2 c.4
faces_by f g h p eg eh ng nh false b ea eb = λ c. gap_ends f g p eg ng (never_positive (gap f g) ea) c.0 c.1 c.2 c.3

faces_settles : (f g h : Half) → IsPositive (dot f f) → cross f g ≡ whole (pos 0) → cross f h ≡ whole (pos 0) → IsPositive (opposite (dot f g)) → IsPositive (opposite (dot f h))
    → Settles (faces f g h) f g h
faces_settles f g h p eg eh ng nh = faces_by f g h p eg eh ng nh (is_positive (gap f g)) (is_positive (gap f h)) refl refl

-- ---- directions
square_above : (x : Whole) → (x ≡ whole (pos 0)) ⊎ IsPositive (times x x)
square_above x = elim (positive_or_not x) as (λ _. (x ≡ whole (pos 0)) ⊎ IsPositive (times x x)) [
  | inl e ↦ inl e
  | inr s ↦ elim s as (λ _. (x ≡ whole (pos 0)) ⊎ IsPositive (times x x)) [
    | inl f ↦ inr (positive_times x x f f)
    | inr f ↦ inr (subst IsPositive (solve golden (x ∷ []) (⊖_ (x_ 0) ⊗ ⊖_ (x_ 0)) (x_ 0 ⊗ x_ 0) refl) (positive_times (opposite x) (opposite x) f f))
  ]
]

square_zero : (x : Whole) → x ≡ whole (pos 0) → times x x ≡ whole (pos 0)
square_zero x e = ap (times x) e ∙ times_zero x

two_squares : (x y : Whole) → ((x ≡ whole (pos 0)) × (y ≡ whole (pos 0)) → ⊥) → IsPositive (plus (times x x) (times y y))
two_squares x y n = elim (square_above x) as (λ _. IsPositive (plus (times x x) (times y y))) [
  | inl e ↦ elim (square_above y) as (λ _. IsPositive (plus (times x x) (times y y))) [
    | inl e' ↦ absurd (n (e, e'))
    | inr f ↦ subst IsPositive (solve golden (times y y ∷ []) (x_ 0) (n_ (pos 0) ⊕ x_ 0) refl ∙ ap (λ t. plus t (times y y)) (sym (square_zero x e))) f
  ]
  | inr f ↦ elim (square_above y) as (λ _. IsPositive (plus (times x x) (times y y))) [
    | inl e ↦ subst IsPositive (solve golden (times x x ∷ []) (x_ 0) (x_ 0 ⊕ n_ (pos 0)) refl ∙ ap (plus (times x x)) (sym (square_zero y e))) f
    | inr f' ↦ positive_plus (times x x) (times y y) f f'
  ]
]

pub length_above : (f : Half) → HasDirection f → IsPositive (dot f f)
unfolding dot
length_above f d = two_squares f.p f.q d

-- parallel directions are the same or opposite
dot_signed : (f g : Half) → HasDirection f → HasDirection g → cross f g ≡ whole (pos 0) → is_positive (dot f g) ≡ false → IsPositive (opposite (dot f g))
dot_signed f g df dg e n = elim (positive_or_not (dot f g)) as (λ _. IsPositive (opposite (dot f g))) [
  | inl z ↦ absurd (positive_not_zero (subst IsPositive
      (lagrange f g ∙ ap (λ t. plus t (times (cross f g) (cross f g))) (square_zero (dot f g) z) ∙ ap (plus (whole (pos 0))) (square_zero (cross f g) e)
      ∙ solve golden [] (n_ (pos 0) ⊕ n_ (pos 0)) (n_ (pos 0)) refl)
      (positive_times (dot f f) (dot g g) (length_above f df) (length_above g dg))))
  | inr s ↦ elim s as (λ _. IsPositive (opposite (dot f g))) [
    | inl p ↦ absurd (never_positive (dot f g) n p)
    | inr p ↦ p
  ]
]

-- one with f and one against f are against each other
dot_third : (f g h : Half) → HasDirection f → cross f g ≡ whole (pos 0) → IsPositive (dot f g) → IsPositive (opposite (dot f h)) → IsPositive (opposite (dot g h))
dot_third f g h d e p n = positive_factor (dot f f) (opposite (dot g h)) (length_above f d)
    (subst IsPositive
    (solve golden (dot f g ∷ dot f h ∷ cross f h ∷ []) (x_ 0 ⊗ ⊖_ (x_ 1)) (⊖_ (x_ 0 ⊗ x_ 1 ⊕ n_ (pos 0) ⊗ x_ 2)) refl
    ∙ ap (λ t. opposite (plus (times (dot f g) (dot f h)) (times t (cross f h)))) (sym e)
    ∙ ap opposite (sym (dots f g h))
    ∙ solve golden (dot f f ∷ dot g h ∷ []) (⊖_ (x_ 0 ⊗ x_ 1)) (x_ 0 ⊗ ⊖_ (x_ 1)) refl)
    (positive_times (dot f g) (opposite (dot f h)) p n))

cross_turned : (f g : Half) → cross f g ≡ whole (pos 0) → cross g f ≡ whole (pos 0)
cross_turned f g e = cross_swap g f ∙ ap opposite e ∙ solve golden [] (⊖_ (n_ (pos 0))) (n_ (pos 0)) refl

flipped_dot : (f g : Half) → IsPositive (opposite (dot f g)) → IsPositive (opposite (dot g f))
flipped_dot f g n = subst (λ t. IsPositive (opposite t)) (dot_comm f g) n

level_by : (f g h : Half) → HasDirection f → HasDirection g → HasDirection h → cross f g ≡ whole (pos 0) → cross g h ≡ whole (pos 0) → cross h f ≡ whole (pos 0)
    → (a b : Bool) → is_positive (dot f g) ≡ a → is_positive (dot f h) ≡ b
    → Settles (if a then (if b then false else faces h f g) else (if b then faces g f h else faces f g h)) f g h
level_by f g h df dg dh fg gh hf true true ea eb = far f g h (length_above f df) (record { above = ea }) (record { above = eb })
level_by f g h df dg dh fg gh hf true false ea eb =
    let n = dot_signed f h df dh (cross_turned h f hf) eb in
    carry (faces h f g) h f g f g h (turned h f g) (back f g h)
    (faces_settles h f g (length_above h dh) hf (cross_turned g h gh) (flipped_dot f h n) (flipped_dot g h (dot_third f g h df fg (record { above = ea }) n)))
level_by f g h df dg dh fg gh hf false true ea eb =
    let n = dot_signed f g df dg fg ea in
    carry (faces g f h) g f h f g h (swapped g f h) (swapped f g h)
    (faces_settles g f h (length_above g dg) (cross_turned f g fg) gh (flipped_dot f g n) (flipped_dot h g (dot_third f h g df (cross_turned h f hf) (record { above = eb }) n)))
level_by f g h df dg dh fg gh hf false false ea eb =
    faces_settles f g h (length_above f df) fg (cross_turned h f hf) (dot_signed f g df dg fg ea) (dot_signed f h df dh (cross_turned h f hf) eb)

level_settles : (f g h : Half) → HasDirection f → HasDirection g → HasDirection h → cross f g ≡ whole (pos 0) → cross g h ≡ whole (pos 0) → cross h f ≡ whole (pos 0)
    → Settles (level f g h) f g h
level_settles f g h df dg dh fg gh hf = level_by f g h df dg dh fg gh hf (is_positive (dot f g)) (is_positive (dot f h)) refl refl

-- ---- all together
left_of : (f g : Half) → IsPositive (opposite (cross f g)) → IsPositive (cross g f)
left_of f g n = subst IsPositive (sym (cross_swap g f)) n

clashes_by : (f g h : Half) → HasDirection f → HasDirection g → HasDirection h
    → (o1 o2 o3 : Ordering)
    → MatchOrdering o1 (IsPositive (opposite (cross f g))) (cross f g ≡ whole (pos 0)) (IsPositive (cross f g))
    → MatchOrdering o2 (IsPositive (opposite (cross g h))) (cross g h ≡ whole (pos 0)) (IsPositive (cross g h))
    → MatchOrdering o3 (IsPositive (opposite (cross h f))) (cross h f ≡ whole (pos 0)) (IsPositive (cross h f))
    → Settles (match_ordering o1 (closes g f h) (match_ordering o2 (closes h g f) (match_ordering o3 (closes f h g) (level f g h) (closes h f g)) (closes g h f)) (closes f g h)) f g h
clashes_by f g h df dg dh Less o2 o3 s1 s2 s3 = carry (closes g f h) g f h f g h (swapped g f h) (swapped f g h) (closes_settles g f h (left_of f g s1))
clashes_by f g h df dg dh Greater o2 o3 s1 s2 s3 = closes_settles f g h s1
clashes_by f g h df dg dh Equal Less o3 s1 s2 s3 =
    carry (closes h g f) h g f f g h (λ c. swapped g f h (turned h g f c)) (λ c. back g f h (swapped f g h c)) (closes_settles h g f (left_of g h s2))
clashes_by f g h df dg dh Equal Greater o3 s1 s2 s3 = carry (closes g h f) g h f f g h (back g h f) (turned f g h) (closes_settles g h f s2)
clashes_by f g h df dg dh Equal Equal Less s1 s2 s3 =
    carry (closes f h g) f h g f g h (λ c. back g h f (swapped h g f (turned f h g c))) (λ c. back h g f (swapped g h f (turned f g h c))) (closes_settles f h g (left_of h f s3))
clashes_by f g h df dg dh Equal Equal Equal s1 s2 s3 = level_settles f g h df dg dh s1 s2 s3
clashes_by f g h df dg dh Equal Equal Greater s1 s2 s3 = carry (closes h f g) h f g f g h (turned h f g) (back f g h) (closes_settles h f g s3)

pub clashes_settle : (f g h : Half) → HasDirection f → HasDirection g → HasDirection h → Settles (clashes f g h) f g h
unfolding clashes
clashes_settle f g h df dg dh =
    clashes_by f g h df dg dh (sign (cross f g)) (sign (cross g h)) (sign (cross h f)) (sign_says (cross f g)) (sign_says (cross g h)) (sign_says (cross h f))
