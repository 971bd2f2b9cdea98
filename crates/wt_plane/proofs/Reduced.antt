-- Half-planes and points without a common divisor.
use Rattle.std.specs.Prelude.{◌≡◌, ℕ, zero, suc, ◌<◌, ◌≤◌, ◌⊎◌, ◌↔◌, ℤ, pos, negsuc, unsigned_abs, [], ◌∷◌, refl}
use Rattle.std.proofs.Common.{sym, ◌∙◌, ap, subst, inl, inr, arith}
use Rattle.std.specs.Int.{◌∣◌}
use Rattle.std.proofs.lemmas.Int.{ints}
use Rattle.std.proofs.lemmas.Nat.Gcd.{le_of_dvd}
use Rattle.std.proofs.Math.Nat.{pos_of_dvd_of_pos}
use Rattle.wt_golden.specs.Whole.{Whole, whole, plus, times, IsPositive}
use Rattle.wt_golden.specs.Sizes.{IsBelow}
use Rattle.wt_golden.specs.Fractions.{common_of}
use Rattle.wt_ring.proofs.Ring.{x_, n_, ◌⊕◌, ◌⊗◌, solve}
use Rattle.wt_golden.proofs.WholeRing.{golden, same_whole}
use Rattle.wt_golden.proofs.Order.{positive_times, positive_factor, positive_whole}
use Rattle.wt_golden.proofs.Sizes.{times_whole}
use Rattle.wt_golden.proofs.Divisors.{common_divides, common_quotients, quotient_one, quotient_times}
use Rattle.wt_plane.specs.HalfPlanes.{Half, Spot, value, Holds, divided, reduced_half, numbers_of, HasDirection, IsSmallHalf, IsHalfPlane}
use Rattle.wt_plane.proofs.Opposites.{same_half}

zero_or_not : (n : ℤ) → (n ≡ pos 0) ⊎ (0 < unsigned_abs n)
zero_or_not (pos zero) = inl refl
zero_or_not (pos (suc n)) = inr (omega arith)
zero_or_not (negsuc n) = inr (omega arith)

record Bounded (m c : ℕ) : Type 0 where
  above : 0 < c
  small : c ≤ m

bounded_by : (n : ℤ) (m c : ℕ) → c ∣ unsigned_abs n → 0 < unsigned_abs n → unsigned_abs n ≤ m → Bounded m c
bounded_by n m c d h s = record { above = pos_of_dvd_of_pos d h; small = omega (arith, le_of_dvd h d) }

bounded : (h : Half) (m : ℕ) → HasDirection h → IsBelow h.p m → IsBelow h.q m → Bounded m (common_of (numbers_of h))
bounded h m d sp sq =
    let v = common_divides (numbers_of h) in
    elim (zero_or_not h.p.a) as (λ _. Bounded m (common_of (numbers_of h))) [
      | inr s ↦ bounded_by h.p.a m (common_of (numbers_of h)) v.0 s sp.a
      | inl pa ↦ elim (zero_or_not h.p.b) as (λ _. Bounded m (common_of (numbers_of h))) [
        | inr s ↦ bounded_by h.p.b m (common_of (numbers_of h)) v.1.0 s sp.b
        | inl pb ↦ elim (zero_or_not h.q.a) as (λ _. Bounded m (common_of (numbers_of h))) [
          | inr s ↦ bounded_by h.q.a m (common_of (numbers_of h)) v.1.1.0 s sq.a
          | inl qa ↦ elim (zero_or_not h.q.b) as (λ _. Bounded m (common_of (numbers_of h))) [
            | inr s ↦ bounded_by h.q.b m (common_of (numbers_of h)) v.1.1.1.0 s sq.b
            | inl qb ↦ absurd (d (same_whole h.p (whole (pos 0)) pa pb, same_whole h.q (whole (pos 0)) qa qb))
          ]
        ]
      ]
    ]

pub half_above : (h : Half) (m : ℕ) → HasDirection h → IsBelow h.p m → IsBelow h.q m → 0 < common_of (numbers_of h)
half_above h m d sp sq = (bounded h m d sp sq).above

pub half_at_most : (h : Half) (m : ℕ) → HasDirection h → IsBelow h.p m → IsBelow h.q m → common_of (numbers_of h) ≤ m
half_at_most h m d sp sq = (bounded h m d sp sq).small

-- ---- what stays
pub whole_again : (x : Whole) (g : ℕ) → g ∣ unsigned_abs x.a → g ∣ unsigned_abs x.b → times (divided x g) (whole (pos g)) ≡ x
whole_again x g da db = times_whole (divided x g) (pos g) ∙ same_whole _ x (quotient_times x.a g da) (quotient_times x.b g db)

record Again (h : Half) (g : ℕ) : Type 0 where
  p : times (divided h.p g) (whole (pos g)) ≡ h.p
  q : times (divided h.q g) (whole (pos g)) ≡ h.q
  r : times (divided h.r g) (whole (pos g)) ≡ h.r

again : (h : Half) → Again h (common_of (numbers_of h))
again h =
    let v = common_divides (numbers_of h) in
    record {
      p = whole_again h.p (common_of (numbers_of h)) v.0 v.1.0;
      q = whole_again h.q (common_of (numbers_of h)) v.1.1.0 v.1.1.1.0;
      r = whole_again h.r (common_of (numbers_of h)) v.1.1.1.1.0 v.1.1.1.1.1.0;
    }

none : (x y : Whole) (g : ℕ) → x ≡ whole (pos 0) → times x (whole (pos g)) ≡ y → y ≡ whole (pos 0)
none x y g e f = sym f ∙ ap (λ t. times t (whole (pos g))) e ∙ solve golden (whole (pos g) ∷ []) (n_ (pos 0) ⊗ x_ 0) (n_ (pos 0)) refl

pub reduced_direction : (h : Half) → HasDirection h → HasDirection (reduced_half h)
unfolding reduced_half
reduced_direction h d e =
    let w = again h in
    let g = common_of (numbers_of h) in
    d (none (divided h.p g) h.p g e.0 w.p, none (divided h.q g) h.q g e.1 w.q)

pub divided_one : (x : Whole) → divided x 1 ≡ x
divided_one x = same_whole _ x (quotient_one x.a) (quotient_one x.b)

common_once : (h : Half) → 0 < common_of (numbers_of h) → common_of (numbers_of (reduced_half h)) ≡ 1
unfolding reduced_half
common_once h p = common_quotients (numbers_of h) p

by_one : (h : Half) → common_of (numbers_of h) ≡ 1 → reduced_half h ≡ h
unfolding reduced_half
by_one h e = same_half _ h
    (ap (divided h.p) e ∙ divided_one h.p) (ap (divided h.q) e ∙ divided_one h.q) (ap (divided h.r) e ∙ divided_one h.r)

pub reduced_is_half_plane : (h f : Half) (m : ℕ) → HasDirection h → IsBelow h.p m → IsBelow h.q m → f ≡ reduced_half h → IsSmallHalf f → IsHalfPlane f
reduced_is_half_plane h f m d sp sq e s = record {
  direction = subst HasDirection (sym e) (reduced_direction h d);
  small = s;
  lowest = subst (λ t. reduced_half t ≡ t) (sym e) (by_one (reduced_half h) (common_once h (half_above h m d sp sq)));
}

-- the reduced half-plane has the same points
scaled_value : (h : Half) (z : Spot) → times (whole (pos (common_of (numbers_of h)))) (value (reduced_half h) z) ≡ value h z
unfolding reduced_half
scaled_value h z =
    let w = again h in
    let g = common_of (numbers_of h) in
    solve golden (divided h.p g ∷ divided h.q g ∷ divided h.r g ∷ z.x ∷ z.y ∷ whole z.d ∷ whole (pos g) ∷ [])
    (x_ 6 ⊗ (x_ 0 ⊗ x_ 3 ⊕ x_ 1 ⊗ x_ 4 ⊕ x_ 2 ⊗ x_ 5)) ((x_ 0 ⊗ x_ 6) ⊗ x_ 3 ⊕ (x_ 1 ⊗ x_ 6) ⊗ x_ 4 ⊕ (x_ 2 ⊗ x_ 6) ⊗ x_ 5) refl
    ∙ ap (λ t. plus (plus (times t z.x) (times (times (divided h.q g) (whole (pos g))) z.y)) (times (times (divided h.r g) (whole (pos g))) (whole z.d))) w.p
    ∙ ap (λ t. plus (plus (times h.p z.x) (times t z.y)) (times (times (divided h.r g) (whole (pos g))) (whole z.d))) w.q
    ∙ ap (λ t. plus (plus (times h.p z.x) (times h.q z.y)) (times t (whole z.d))) w.r

pub reduced_holds : (h : Half) (z : Spot) → 0 < common_of (numbers_of h) → Holds (reduced_half h) z ↔ Holds h z
reduced_holds h z p =
    let g = positive_whole (pos (common_of (numbers_of h))) (omega (arith, ints)) in (
      λ f. subst IsPositive (scaled_value h z) (positive_times (whole (pos (common_of (numbers_of h)))) (value (reduced_half h) z) g f),
      λ f. positive_factor (whole (pos (common_of (numbers_of h)))) (value (reduced_half h) z) g (subst IsPositive (sym (scaled_value h z)) f),
    )

pub half_from : (h k : Half) (a b c d e f : ℤ) → a ≡ k.p.a → b ≡ k.p.b → c ≡ k.q.a → d ≡ k.q.b → e ≡ k.r.a → f ≡ k.r.b → k ≡ reduced_half h
    → record { p = record { a = a; b = b }; q = record { a = c; b = d }; r = record { a = e; b = f } } ≡ reduced_half h
half_from h k a b c d e f ea eb ec ed ee ef is = same_half _ k (same_whole _ k.p ea eb) (same_whole _ k.q ec ed) (same_whole _ k.r ee ef) ∙ is

pub half_plane_from : (h k : Half) (a b c d e f : ℤ) (m : ℕ) → a ≡ k.p.a → b ≡ k.p.b → c ≡ k.q.a → d ≡ k.q.b → e ≡ k.r.a → f ≡ k.r.b
    → HasDirection h → IsBelow h.p m → IsBelow h.q m → k ≡ reduced_half h → IsSmallHalf k
    → IsHalfPlane (record { p = record { a = a; b = b }; q = record { a = c; b = d }; r = record { a = e; b = f } })
half_plane_from h k a b c d e f m ea eb ec ed ee ef dir sp sq is small =
    subst IsHalfPlane (sym (same_half _ k (same_whole _ k.p ea eb) (same_whole _ k.q ec ed) (same_whole _ k.r ee ef)))
    (reduced_is_half_plane h k m dir sp sq is small)
