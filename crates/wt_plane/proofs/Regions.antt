-- What is dropped doesn't count: the points of a region stay.
use Rattle.std.specs.Prelude.{◌≡◌, ◌↔◌, Bool, true, false, if◌then◌else◌, pos, List, [], ◌∷◌, ◌++◌, refl}
use Rattle.std.proofs.Common.{sym, ◌∙◌, ap, subst, inl, inr}
use Rattle.std.proofs.lemmas.Bool.{or_cases, both_ways}
use Rattle.std.proofs.lemmas.List.{append-nil}
use Rattle.std.specs.Bool.{MatchBool}
use Rattle.wt_golden.specs.Whole.{Whole, whole, plus, minus, times, opposite, IsPositive}
use Rattle.wt_ring.proofs.Ring.{Term, x_, n_, ◌⊕◌, ◌⊗◌, ⊖_, solve}
use Rattle.wt_golden.proofs.WholeRing.{golden}
use Rattle.wt_golden.proofs.Order.{positive_plus, positive_times, positive_or_not}
use Rattle.wt_plane.specs.HalfPlanes.{Half, Spot, IsSpot, value, Holds, HasDirection, HasCommonSpot, opposite_half, IsInside, AllDirected}
use Rattle.wt_plane.specs.Clash.{dot, clashes}
use Rattle.wt_plane.specs.Regions.{clash_with, clash_with_two, reduced}
use Rattle.wt_plane.proofs.Weights.{at}
use Rattle.wt_plane.proofs.Meeting.{above_both, common_spot, length_above, clashes_settle, spot_above}

-- the point moved against h's direction, by e, over s
abbrev moved : Whole → Whole → Whole → Whole → Whole
moved x p s e = minus (times x s) (times p e)

abbrev numbers : Half → Half → Whole → Whole → Whole → Whole → Whole → List Whole
numbers h g x y d s e = h.p ∷ h.q ∷ h.r ∷ g.p ∷ g.q ∷ g.r ∷ x ∷ y ∷ d ∷ s ∷ e ∷ []

abbrev at_t : Term → Term → Term → Term → Term → Term → Term
at_t p q r x y d = p ⊗ x ⊕ q ⊗ y ⊕ r ⊗ d

abbrev x_t : Term
x_t = x_ 6 ⊗ x_ 9 ⊕ ⊖_ (x_ 0 ⊗ x_ 10)

abbrev y_t : Term
y_t = x_ 7 ⊗ x_ 9 ⊕ ⊖_ (x_ 1 ⊗ x_ 10)

moved_opposite : (h : Half) (x y d s e : Whole)
    → at (opposite_half h) (moved x h.p s e) (moved y h.q s e) (times d s) ≡ plus (times e (dot h h)) (opposite (times (at h x y d) s))
unfolding dot
moved_opposite h x y d s e = solve golden (numbers h h x y d s e)
    (at_t (⊖_ (x_ 0)) (⊖_ (x_ 1)) (⊖_ (x_ 2)) x_t y_t (x_ 8 ⊗ x_ 9))
    (x_ 10 ⊗ (x_ 0 ⊗ x_ 0 ⊕ x_ 1 ⊗ x_ 1) ⊕ ⊖_ (at_t (x_ 0) (x_ 1) (x_ 2) (x_ 6) (x_ 7) (x_ 8) ⊗ x_ 9)) refl

moved_other : (h g : Half) (x y d s e : Whole)
    → at g (moved x h.p s e) (moved y h.q s e) (times d s) ≡ minus (times (at g x y d) s) (times (dot h g) e)
unfolding dot
moved_other h g x y d s e = solve golden (numbers h g x y d s e)
    (at_t (x_ 3) (x_ 4) (x_ 5) x_t y_t (x_ 8 ⊗ x_ 9))
    (at_t (x_ 3) (x_ 4) (x_ 5) (x_ 6) (x_ 7) (x_ 8) ⊗ x_ 9 ⊕ ⊖_ ((x_ 0 ⊗ x_ 3 ⊕ x_ 1 ⊗ x_ 4) ⊗ x_ 10)) refl

-- a point on the border of h, inside g and k, has a point beyond the border beside it
pub nudged : (h g k : Half) (z : Spot) → IsSpot z → HasDirection h → value h z ≡ whole (pos 0) → Holds g z → Holds k z → HasCommonSpot (opposite_half h) g k
nudged h g k z sz d zero pg pk =
    let vg = value g z in
    let vk = value k z in
    let a = above_both (opposite (times (dot h g) vk)) in
    let b = above_both (opposite (times (dot h k) vg)) in
    let s = plus a.number b.number in
    let e = times vg vk in
    common_spot (opposite_half h) g k (moved z.x h.p s e) (moved z.y h.q s e) (times (whole z.d) s)
    (positive_times (whole z.d) s (spot_above z sz) (positive_plus a.number b.number a.above b.above))
    (subst IsPositive
    (solve golden (e ∷ dot h h ∷ s ∷ []) (x_ 0 ⊗ x_ 1) (x_ 0 ⊗ x_ 1 ⊕ ⊖_ (n_ (pos 0) ⊗ x_ 2)) refl
    ∙ ap (λ t. plus (times e (dot h h)) (opposite (times t s))) (sym zero) ∙ sym (moved_opposite h z.x z.y (whole z.d) s e))
    (positive_times e (dot h h) (positive_times vg vk pg pk) (length_above h d)))
    (subst IsPositive
    (solve golden (vg ∷ vk ∷ dot h g ∷ a.number ∷ b.number ∷ [])
    (x_ 0 ⊗ ((x_ 3 ⊕ ⊖_ (x_ 2 ⊗ x_ 1)) ⊕ x_ 4)) (x_ 0 ⊗ (x_ 3 ⊕ x_ 4) ⊕ ⊖_ (x_ 2 ⊗ (x_ 0 ⊗ x_ 1))) refl
    ∙ sym (moved_other h g z.x z.y (whole z.d) s e))
    (positive_times vg (plus (plus a.number (opposite (times (dot h g) vk))) b.number) pg (positive_plus (plus a.number (opposite (times (dot h g) vk))) b.number a.sum b.above)))
    (subst IsPositive
    (solve golden (vg ∷ vk ∷ dot h k ∷ a.number ∷ b.number ∷ [])
    (x_ 1 ⊗ ((x_ 4 ⊕ ⊖_ (x_ 2 ⊗ x_ 0)) ⊕ x_ 3)) (x_ 1 ⊗ (x_ 3 ⊕ x_ 4) ⊕ ⊖_ (x_ 2 ⊗ (x_ 0 ⊗ x_ 1))) refl
    ∙ sym (moved_other h k z.x z.y (whole z.d) s e))
    (positive_times vk (plus (plus b.number (opposite (times (dot h k) vg))) a.number) pk (positive_plus (plus b.number (opposite (times (dot h k) vg))) a.number b.sum a.above)))

opposite_value : (h : Half) (z : Spot) → opposite (value h z) ≡ value (opposite_half h) z
opposite_value h z = solve golden (h.p ∷ h.q ∷ h.r ∷ z.x ∷ z.y ∷ whole z.d ∷ [])
    (⊖_ (at_t (x_ 0) (x_ 1) (x_ 2) (x_ 3) (x_ 4) (x_ 5))) (at_t (⊖_ (x_ 0)) (⊖_ (x_ 1)) (⊖_ (x_ 2)) (x_ 3) (x_ 4) (x_ 5)) refl

zero_of : (x : Whole) → opposite x ≡ whole (pos 0) → x ≡ whole (pos 0)
zero_of x e = solve golden (x ∷ []) (x_ 0) (⊖_ (⊖_ (x_ 0))) refl ∙ ap opposite e ∙ solve golden [] (⊖_ (n_ (pos 0))) (n_ (pos 0)) refl

pub opposite_direction : (h : Half) → HasDirection h → HasDirection (opposite_half h)
opposite_direction h d e = d (zero_of h.p e.0, zero_of h.q e.1)

-- g and k in which the opposite of h clashes leave only points of h
covers : (h g k : Half) → HasDirection h → HasDirection g → HasDirection k → clashes (opposite_half h) g k ≡ true
    → (z : Spot) → IsSpot z → Holds g z → Holds k z → Holds h z
covers h g k dh dg dk c z sz pg pk =
    let none : HasCommonSpot (opposite_half h) g k → ⊥ =
    subst (λ b. MatchBool b (HasCommonSpot (opposite_half h) g k → ⊥) (HasCommonSpot (opposite_half h) g k)) c
    (clashes_settle (opposite_half h) g k (opposite_direction h dh) dg dk) in
    elim (positive_or_not (value h z)) as (λ _. Holds h z) [
      | inl e ↦ absurd (none (nudged h g k z sz dh e pg pk))
      | inr s ↦ elim s as (λ _. Holds h z) [
        | inl f ↦ f
        | inr f ↦ absurd (none (z, sz, subst IsPositive (opposite_value h z) f, pg, pk))
      ]
    ]

-- ---- lists
covers_with : (h g : Half) (ks : List Half) → HasDirection h → HasDirection g → AllDirected ks → clash_with (opposite_half h) g ks ≡ true
    → (z : Spot) → IsSpot z → Holds g z → IsInside ks z → Holds h z
covers_with h g [] dh dg dk c z sz pg pk = absurd (both_ways false refl c)
covers_with h g (k ∷ ks) dh dg dk c z sz pg pk = elim (or_cases (clashes (opposite_half h) g k) (clash_with (opposite_half h) g ks) c) as (λ _. Holds h z) [
  | inl e ↦ covers h g k dh dg dk.0 e z sz pg pk.0
  | inr e ↦ covers_with h g ks dh dg dk.1 e z sz pg pk.1
]

covers_two : (h : Half) (gs : List Half) → HasDirection h → AllDirected gs → clash_with_two (opposite_half h) gs ≡ true
    → (z : Spot) → IsSpot z → IsInside gs z → Holds h z
covers_two h [] dh dg c z sz p = absurd (both_ways false refl c)
covers_two h (g ∷ gs) dh dg c z sz p = elim (or_cases (clash_with (opposite_half h) g (g ∷ gs)) (clash_with_two (opposite_half h) gs) c) as (λ _. Holds h z) [
  | inl e ↦ covers_with h g (g ∷ gs) dh dg.0 dg e z sz p.0 p
  | inr e ↦ covers_two h gs dh dg.1 e z sz p.1
]

drop_one : (z : Spot) (kept : List Half) (h : Half) (rest : List Half) → IsInside (kept ++ h ∷ rest) z → IsInside (kept ++ rest) z
drop_one z [] h rest p = p.1
drop_one z (k ∷ kept) h rest p = (p.0, drop_one z kept h rest p.1)

put_one : (z : Spot) (kept : List Half) (h : Half) (rest : List Half) → Holds h z → IsInside (kept ++ rest) z → IsInside (kept ++ h ∷ rest) z
put_one z [] h rest f p = (f, p)
put_one z (k ∷ kept) h rest f p = (p.0, put_one z kept h rest f p.1)

drop_direction : (kept : List Half) (h : Half) (rest : List Half) → AllDirected (kept ++ h ∷ rest) → AllDirected (kept ++ rest)
drop_direction [] h rest p = p.1
drop_direction (k ∷ kept) h rest p = (p.0, drop_direction kept h rest p.1)

its_direction : (kept : List Half) (h : Half) (rest : List Half) → AllDirected (kept ++ h ∷ rest) → HasDirection h
its_direction [] h rest p = p.0
its_direction (k ∷ kept) h rest p = its_direction kept h rest p.1

moved_over : (kept : List Half) (h : Half) (rest : List Half) → (kept ++ (h ∷ [])) ++ rest ≡ kept ++ h ∷ rest
moved_over [] h rest = refl
moved_over (k ∷ kept) h rest = ap (λ t. k ∷ t) (moved_over kept h rest)

stays_by : (kept rest : List Half) (h : Half) (z : Spot) → IsSpot z → AllDirected (kept ++ h ∷ rest) → (b : Bool) → clash_with_two (opposite_half h) (kept ++ rest) ≡ b
    → (AllDirected (kept ++ rest) → IsInside (reduced kept rest) z ↔ IsInside (kept ++ rest) z)
    → (AllDirected ((kept ++ (h ∷ [])) ++ rest) → IsInside (reduced (kept ++ (h ∷ [])) rest) z ↔ IsInside ((kept ++ (h ∷ [])) ++ rest) z)
    → IsInside (if b then reduced kept rest else reduced (kept ++ (h ∷ [])) rest) z ↔ IsInside (kept ++ h ∷ rest) z
stays_by kept rest h z sz d true e one two =
    let w = one (drop_direction kept h rest d) in (
      λ p. put_one z kept h rest (covers_two h (kept ++ rest) (its_direction kept h rest d) (drop_direction kept h rest d) e z sz (w.0 p)) (w.0 p),
      λ p. w.1 (drop_one z kept h rest p),
    )
stays_by kept rest h z sz d false e one two =
    subst (λ l. IsInside (reduced (kept ++ (h ∷ [])) rest) z ↔ IsInside l z) (moved_over kept h rest) (two (subst AllDirected (sym (moved_over kept h rest)) d))

pub reduced_stays : (kept rest : List Half) (z : Spot) → IsSpot z → AllDirected (kept ++ rest) → IsInside (reduced kept rest) z ↔ IsInside (kept ++ rest) z
reduced_stays kept [] z sz d = subst (λ l. IsInside kept z ↔ IsInside l z) (sym (append-nil kept)) ((λ p. p, λ p. p))
reduced_stays kept (h ∷ rest) z sz d = stays_by kept rest h z sz d (clash_with_two (opposite_half h) (kept ++ rest)) refl
    (λ d'. reduced_stays kept rest z sz d') (λ d'. reduced_stays (kept ++ (h ∷ [])) rest z sz d')

pub reduced_all : (all : List Half) (z : Spot) → IsSpot z → AllDirected all → IsInside (reduced [] all) z ↔ IsInside all z
reduced_all all z sz d = reduced_stays [] all z sz d
