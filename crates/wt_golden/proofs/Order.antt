-- The order of the whole golden numbers: by the norm, and by the definition.
use Rattle.std.specs.Prelude.{◌≡◌, zero, suc, ◌⊎◌, Bool, true, false, ◌&&◌, ◌||◌, ℤ, pos, negsuc, ◌+ℤ◌, ◌*ℤ◌, neg_ℤ, ◌<ℤ◌, ◌≤ℤ◌, int_lt, int_le, [], ◌∷◌, refl}
use Rattle.std.proofs.Common.{sym, ◌∙◌, ap, subst, inl, inr, arith}
use Rattle.std.proofs.lemmas.Int.{ints, by_lt_z}
use Rattle.std.proofs.Math.IntN.{*ℤ-zero}
use Rattle.std.proofs.lemmas.Bool.{or_left, or_right, or_cases, and_parts, and_from, cases_Bool, both_ways}
use borrow.Author.Differences.{true_is_lt, true_is_le}
use Rattle.wt_golden.specs.Whole.{Whole, whole, plus, times, opposite, above_zero, is_positive, sign, IsPositive}
use Rattle.std.specs.Ordering.{int_eq, MatchOrdering}
use Rattle.std.specs.declared.cmp.Ordering.TheVariants.{Less, Equal, Greater}
use Rattle.wt_ring.proofs.Ring.{x_, n_, ◌⊕◌, ◌⊗◌, ⊖_, solve}
use Rattle.wt_ring.proofs.Integers.{integers}
use Rattle.wt_golden.proofs.Products.{mul_above, mul_not_below, square_not_below, outweighs, no_root}
use Rattle.wt_golden.proofs.WholeRing.{golden, same_whole, times_comm, plus_comm, times_zero, times_a, times_b, norm_of, twice, norm_times, norm_opposite, twice_opposite, norm_squares, twice_times, b_times, norm_plus, twice_plus, uv_square, ud_square}
use Rattle.wt_golden.proofs.Signs.{lt_yes, le_yes}

-- Above 0, by the norm: where it is positive, 2 a + b decides, and where it is negative, b.
pub record Outer (x : Whole) : Type 0 where
  pub norm : pos 0 <ℤ norm_of x
  pub twice : pos 0 <ℤ twice x

pub record Inner (x : Whole) : Type 0 where
  pub norm : norm_of x <ℤ pos 0
  pub b : pos 0 <ℤ x.b

abbrev pub Above : Whole → Type 0
Above x = Outer x ⊎ Inner x

opposite_b : (x : Whole) → x.b <ℤ pos 0 → pos 0 <ℤ (opposite x).b
unfolding opposite
opposite_b x h = omega (arith, ints, h)

b_plus : (x y : Whole) → pos 0 <ℤ x.b → pos 0 <ℤ y.b → pos 0 <ℤ (plus x y).b
unfolding plus
b_plus x y h k = omega (arith, ints, h, k)

both_neg : (x y : ℤ) → x *ℤ y ≡ neg_ℤ x *ℤ neg_ℤ y
both_neg x y = solve integers (x ∷ y ∷ []) (x_ 0 ⊗ x_ 1) (⊖_ (x_ 0) ⊗ ⊖_ (x_ 1)) refl

root_zero : (x : ℤ) → x *ℤ x ≡ pos 0 → x ≡ pos 0
root_zero (pos zero) e = refl
root_zero (pos (suc n)) e = absurd (omega (arith, ints))
root_zero (negsuc n) e = absurd (omega (arith, ints))

not_root : (x : ℤ) → pos 0 <ℤ (x *ℤ x) → x ≤ℤ pos 0 → x <ℤ pos 0
not_root (pos zero) s h = absurd (omega (arith, ints))
not_root (pos (suc n)) s h = absurd (omega (arith, ints))
not_root (negsuc n) s h = omega (arith, ints)

root_above : (x : ℤ) → pos 0 <ℤ (x *ℤ x) → pos 0 ≤ℤ x → pos 0 <ℤ x
root_above (pos zero) s h = absurd (omega (arith, ints))
root_above (pos (suc n)) s h = omega (arith, ints)
root_above (negsuc n) s h = absurd (omega (arith, ints))

nothing_above : (u b : ℤ) → u ≡ pos 0 → b ≡ pos 0 → (pos 0 <ℤ u) ⊎ (pos 0 <ℤ b) → ⊥
nothing_above u b eu eb (inl h) = omega (arith, ints)
nothing_above u b eu eb (inr h) = omega (arith, ints)

-- ---- products
square_above : (x : ℤ) → pos 0 <ℤ x → pos 0 <ℤ (x *ℤ x)
square_above x h = mul_above x x h h

weighs : (x y : ℤ) → pos 0 <ℤ x → (y *ℤ y) <ℤ (x *ℤ x) → (pos 0 <ℤ (x +ℤ y)) × (pos 0 <ℤ (x +ℤ neg_ℤ y))
weighs x y h s = (outweighs x y h s, outweighs x (neg_ℤ y) h (omega (arith, ints, solve integers (y ∷ []) (⊖_ (x_ 0) ⊗ ⊖_ (x_ 0)) (x_ 0 ⊗ x_ 0) refl, s)))

neg_times : (x y : ℤ) → neg_ℤ x *ℤ y ≡ neg_ℤ (x *ℤ y)
neg_times x y = solve integers (x ∷ y ∷ []) (⊖_ (x_ 0) ⊗ x_ 1) (⊖_ (x_ 0 ⊗ x_ 1)) refl

times_neg : (x y : ℤ) → x *ℤ neg_ℤ y ≡ neg_ℤ (x *ℤ y)
times_neg x y = solve integers (x ∷ y ∷ []) (x_ 0 ⊗ ⊖_ (x_ 1)) (⊖_ (x_ 0 ⊗ x_ 1)) refl

outer_weighs : (x y : Whole) → Outer x → Outer y
    → (pos 0 <ℤ (twice x *ℤ twice y +ℤ pos 5 *ℤ (x.b *ℤ y.b))) × (pos 0 <ℤ (twice x *ℤ twice y +ℤ neg_ℤ (pos 5 *ℤ (x.b *ℤ y.b))))
outer_weighs x y f g =
    let one = mul_above (norm_of x) (twice y *ℤ twice y) f.norm (square_above (twice y) g.twice) in
    let two = mul_not_below (x.b *ℤ x.b) (norm_of y) (square_not_below x.b) (omega (arith, ints, g.norm)) in
    weighs (twice x *ℤ twice y) (pos 5 *ℤ (x.b *ℤ y.b)) (mul_above (twice x) (twice y) f.twice g.twice)
    (omega (arith, ints, uv_square x y, one, two))

inner_weighs : (x y : Whole) → Inner x → Inner y
    → (pos 0 <ℤ (pos 5 *ℤ (x.b *ℤ y.b) +ℤ twice x *ℤ twice y)) × (pos 0 <ℤ (pos 5 *ℤ (x.b *ℤ y.b) +ℤ neg_ℤ (twice x *ℤ twice y)))
inner_weighs x y f g =
    let one = mul_not_below (neg_ℤ (norm_of x)) (twice y *ℤ twice y) (omega (arith, ints, f.norm)) (square_not_below (twice y)) in
    let two = mul_above (x.b *ℤ x.b) (neg_ℤ (norm_of y)) (square_above x.b f.b) (omega (arith, ints, g.norm)) in
    let five = mul_above (pos 5) (x.b *ℤ y.b) (omega (arith, ints)) (mul_above x.b y.b f.b g.b) in
    weighs (pos 5 *ℤ (x.b *ℤ y.b)) (twice x *ℤ twice y) five
    (omega (arith, ints, uv_square x y, neg_times (norm_of x) (twice y *ℤ twice y), times_neg (x.b *ℤ x.b) (norm_of y), one, two))

mixed_weighs : (x y : Whole) → Outer x → Inner y → pos 0 <ℤ (twice x *ℤ y.b +ℤ x.b *ℤ twice y)
mixed_weighs x y f g =
    let one = mul_above (norm_of x) (y.b *ℤ y.b) f.norm (square_above y.b g.b) in
    let two = mul_not_below (x.b *ℤ x.b) (neg_ℤ (norm_of y)) (square_not_below x.b) (omega (arith, ints, g.norm)) in
    (weighs (twice x *ℤ y.b) (x.b *ℤ twice y) (mul_above (twice x) y.b f.twice g.b) (omega (arith, ints, ud_square x y, one, two))).0

outer_times : (x y : Whole) → Outer x → Outer y → Outer (times x y)
outer_times x y f g = record {
  norm = subst (λ n. pos 0 <ℤ n) (sym (norm_times x y)) (mul_above (norm_of x) (norm_of y) f.norm g.norm);
  twice = omega (arith, ints, twice_times x y, (outer_weighs x y f g).0);
}

inner_times : (x y : Whole) → Inner x → Inner y → Outer (times x y)
inner_times x y f g = record {
  norm = subst (λ n. pos 0 <ℤ n) (sym (norm_times x y ∙ both_neg (norm_of x) (norm_of y)))
      (mul_above (neg_ℤ (norm_of x)) (neg_ℤ (norm_of y)) (omega (arith, ints, f.norm)) (omega (arith, ints, g.norm)));
  twice = omega (arith, ints, twice_times x y, (inner_weighs x y f g).0);
}

mixed_times : (x y : Whole) → Outer x → Inner y → Inner (times x y)
mixed_times x y f g = record {
  norm = subst (λ n. n <ℤ pos 0) (sym (norm_times x y))
      (omega (arith, ints, times_neg (norm_of x) (norm_of y), mul_above (norm_of x) (neg_ℤ (norm_of y)) f.norm (omega (arith, ints, g.norm))));
  b = omega (arith, ints, b_times x y, mixed_weighs x y f g);
}

above_times : (x y : Whole) → Above x → Above y → Above (times x y)
above_times x y (inl f) (inl g) = inl (outer_times x y f g)
above_times x y (inl f) (inr g) = inr (mixed_times x y f g)
above_times x y (inr f) (inl g) = inr (subst Inner (times_comm y x) (mixed_times y x g f))
above_times x y (inr f) (inr g) = inl (inner_times x y f g)

-- ---- sums
outer_plus : (x y : Whole) → Outer x → Outer y → Outer (plus x y)
outer_plus x y f g = record {
  norm = omega (arith, ints, norm_plus x y, f.norm, g.norm, (outer_weighs x y f g).1);
  twice = omega (arith, ints, twice_plus x y, f.twice, g.twice);
}

inner_plus : (x y : Whole) → Inner x → Inner y → Inner (plus x y)
inner_plus x y f g = record {
  norm = omega (arith, ints, norm_plus x y, f.norm, g.norm, (inner_weighs x y f g).1);
  b = b_plus x y f.b g.b;
}

-- ---- each number is 0 or has a sign, and only one
of_norm_zero : (x : Whole) → norm_of x ≡ pos 0 → x ≡ whole (pos 0)
of_norm_zero x e =
    let b = no_root (twice x) x.b (omega (arith, ints, norm_squares x, e)) in
    let t : twice x *ℤ twice x ≡ pos 0 = omega (arith, ints, norm_squares x, e, ap (λ (z : ℤ). z *ℤ z) b) in
    same_whole x (whole (pos 0)) (omega (arith, ints, root_zero (twice x) t, b)) b

split_sign : (x : Whole) → (x ≡ whole (pos 0)) ⊎ (Above x ⊎ Above (opposite x))
split_sign x =
    by_lt_z (pos 0) (norm_of x)
    (λ n. by_lt_z (pos 0) (twice x)
    (λ t. inr (inl (inl (record { norm = n; twice = t }))))
    (λ t. inr (inr (inl (record {
      norm = omega (arith, ints, norm_opposite x, n);
      twice = omega (arith, ints, twice_opposite x, not_root (twice x) (omega (arith, ints, norm_squares x, n, square_not_below x.b)) t);
    })))))
    (λ n. by_lt_z (norm_of x) (pos 0)
    (λ m. by_lt_z (pos 0) x.b
    (λ t. inr (inl (inr (record { norm = m; b = t }))))
    (λ t. inr (inr (inr (record {
      norm = omega (arith, ints, norm_opposite x, m);
      b = opposite_b x (not_root x.b (omega (arith, ints, norm_squares x, m, square_not_below (twice x))) t);
    })))))
    (λ m. inl (of_norm_zero x (omega (arith, ints, n, m)))))

opposite_twice : (x : Whole) → opposite (opposite x) ≡ x
opposite_twice x = solve golden (x ∷ []) (⊖_ (⊖_ (x_ 0))) (x_ 0) refl

b_opposite : (x : Whole) → (opposite x).b ≡ neg_ℤ x.b
unfolding opposite
b_opposite x = refl

never_both : (x : Whole) → Above x → Above (opposite x) → ⊥
never_both x (inl f) (inl g) = omega (arith, ints, twice_opposite x, f.twice, g.twice)
never_both x (inl f) (inr g) = omega (arith, ints, norm_opposite x, f.norm, g.norm)
never_both x (inr f) (inl g) = omega (arith, ints, norm_opposite x, f.norm, g.norm)
never_both x (inr f) (inr g) = omega (arith, ints, b_opposite x, f.b, g.b)

zero_not_above : Above (whole (pos 0)) → ⊥
zero_not_above (inl f) = omega (arith, ints, f.norm)
zero_not_above (inr f) = omega (arith, ints, f.norm)

mixed_plus : (x y : Whole) → Outer x → Inner y → Above (plus x y)
mixed_plus x y f g = elim (split_sign (plus x y)) as (λ _. Above (plus x y)) [
  | inl zero_sum ↦
      let is_y : y ≡ opposite x = solve golden (x ∷ y ∷ []) (x_ 1) (x_ 0 ⊕ x_ 1 ⊕ ⊖_ (x_ 0)) refl ∙ ap (λ s. plus s (opposite x)) zero_sum ∙ solve golden (x ∷ []) (n_ (pos 0) ⊕ ⊖_ (x_ 0)) (⊖_ (x_ 0)) refl in
      absurd (omega (arith, ints, f.norm, g.norm, ap norm_of is_y, norm_opposite x))
  | inr signed ↦ elim signed as (λ _. Above (plus x y)) [
    | inl above ↦ above
    | inr below ↦ elim below as (λ _. Above (plus x y)) [
      | inl o ↦
          let less : plus (opposite (plus x y)) x ≡ opposite y = solve golden (x ∷ y ∷ []) (⊖_ (x_ 0 ⊕ x_ 1) ⊕ x_ 0) (⊖_ (x_ 1)) refl in
          absurd (omega (arith, ints, g.norm, norm_opposite y, ap norm_of less, (outer_plus (opposite (plus x y)) x o f).norm))
      | inr i ↦
          let less : plus (opposite (plus x y)) y ≡ opposite x = solve golden (x ∷ y ∷ []) (⊖_ (x_ 0 ⊕ x_ 1) ⊕ x_ 1) (⊖_ (x_ 0)) refl in
          absurd (omega (arith, ints, f.norm, norm_opposite x, ap norm_of less, (inner_plus (opposite (plus x y)) y i g).norm))
    ]
  ]
]

above_plus : (x y : Whole) → Above x → Above y → Above (plus x y)
above_plus x y (inl f) (inl g) = inl (outer_plus x y f g)
above_plus x y (inl f) (inr g) = mixed_plus x y f g
above_plus x y (inr f) (inl g) = subst Above (plus_comm y x) (mixed_plus y x g f)
above_plus x y (inr f) (inr g) = inr (inner_plus x y f g)

-- ---- the definition says the same
below_of : (x y : ℤ) → int_lt x y ≡ true → x <ℤ y
below_of x y e = omega (arith, ints)

at_most_of : (x y : ℤ) → int_le x y ≡ true → x ≤ℤ y
at_most_of x y e = omega (arith, ints)

some_above : (u b : ℤ) → (int_lt (pos 0) u || int_lt (pos 0) b) ≡ true → (pos 0 <ℤ u) ⊎ (pos 0 <ℤ b)
some_above u b h = elim (or_cases (int_lt (pos 0) u) (int_lt (pos 0) b) h) as (λ _. (pos 0 <ℤ u) ⊎ (pos 0 <ℤ b)) [ inl e ↦ inl (below_of _ _ e) | inr e ↦ inr (below_of _ _ e) ]

from_both : (u b n : ℤ) → pos 4 *ℤ n +ℤ pos 5 *ℤ (b *ℤ b) ≡ u *ℤ u → pos 0 ≤ℤ u → pos 0 ≤ℤ b → (pos 0 <ℤ u) ⊎ (pos 0 <ℤ b)
    → ((pos 0 <ℤ n) × (pos 0 <ℤ u)) ⊎ ((n <ℤ pos 0) × (pos 0 <ℤ b))
from_both u b n e hu hb some =
    by_lt_z (pos 0) n
    (λ l. inl (l, root_above u (omega (arith, ints, square_not_below b)) hu))
    (λ m. by_lt_z n (pos 0)
    (λ l. inr (l, root_above b (omega (arith, ints, square_not_below u)) hb))
    (λ k.
    let b_zero = no_root u b (omega (arith, ints)) in
    let u_zero = root_zero u (omega (arith, ints, ap (λ (z : ℤ). z *ℤ z) b_zero)) in
    absurd (nothing_above u b u_zero b_zero some)))

-- the three cases of the definition
abbrev way_one : ℤ → ℤ → Bool
way_one u b = int_le (pos 0) u && int_le (pos 0) b && (int_lt (pos 0) u || int_lt (pos 0) b)

abbrev way_two : ℤ → ℤ → Bool
way_two u b = int_lt (pos 0) u && int_lt b (pos 0) && int_lt (pos 5 *ℤ (b *ℤ b)) (u *ℤ u)

abbrev way_three : ℤ → ℤ → Bool
way_three u b = int_lt u (pos 0) && int_lt (pos 0) b && int_lt (u *ℤ u) (pos 5 *ℤ (b *ℤ b))

from_definition : (u b n : ℤ) → pos 4 *ℤ n +ℤ pos 5 *ℤ (b *ℤ b) ≡ u *ℤ u → above_zero u b ≡ true
    → ((pos 0 <ℤ n) × (pos 0 <ℤ u)) ⊎ ((n <ℤ pos 0) × (pos 0 <ℤ b))
from_definition u b n e h = elim (or_cases (way_one u b || way_two u b) (way_three u b) h) as (λ _. ((pos 0 <ℤ n) × (pos 0 <ℤ u)) ⊎ ((n <ℤ pos 0) × (pos 0 <ℤ b))) [
  | inl h' ↦ elim (or_cases (way_one u b) (way_two u b) h') as (λ _. ((pos 0 <ℤ n) × (pos 0 <ℤ u)) ⊎ ((n <ℤ pos 0) × (pos 0 <ℤ b))) [
    | inl k ↦
        let r = and_parts _ _ k in
        let s = and_parts _ _ r.0 in
        from_both u b n e (at_most_of (pos 0) u s.0) (at_most_of (pos 0) b s.1) (some_above u b r.1)
    | inr k ↦
        let r = and_parts _ _ k in
        let s = and_parts _ _ r.0 in
        inl (omega (arith, ints, e, below_of (pos 5 *ℤ (b *ℤ b)) (u *ℤ u) r.1), below_of (pos 0) u s.0)
  ]
  | inr k ↦
      let r = and_parts _ _ k in
      let s = and_parts _ _ r.0 in
      inr (omega (arith, ints, e, below_of (u *ℤ u) (pos 5 *ℤ (b *ℤ b)) r.1), below_of (pos 0) b s.1)
]

to_definition : (u b n : ℤ) → pos 4 *ℤ n +ℤ pos 5 *ℤ (b *ℤ b) ≡ u *ℤ u
    → ((pos 0 <ℤ n) × (pos 0 <ℤ u)) ⊎ ((n <ℤ pos 0) × (pos 0 <ℤ b)) → above_zero u b ≡ true
to_definition u b n e (inl o) =
    by_lt_z b (pos 0)
    (λ l. or_left _ _ (or_right _ _ (and_from _ _ (and_from _ _ (lt_yes (pos 0) u o.1) (lt_yes b (pos 0) l))
    (lt_yes (pos 5 *ℤ (b *ℤ b)) (u *ℤ u) (omega (arith, ints, e, o.0))))))
    (λ l. or_left _ _ (or_left _ _ (and_from _ _ (and_from _ _ (le_yes (pos 0) u (omega (arith, ints, o.1))) (le_yes (pos 0) b l))
    (or_left _ _ (lt_yes (pos 0) u o.1)))))
to_definition u b n e (inr i) =
    by_lt_z u (pos 0)
    (λ l. or_right _ _ (and_from _ _ (and_from _ _ (lt_yes u (pos 0) l) (lt_yes (pos 0) b i.1))
    (lt_yes (u *ℤ u) (pos 5 *ℤ (b *ℤ b)) (omega (arith, ints, e, i.0)))))
    (λ l. or_left _ _ (or_left _ _ (and_from _ _ (and_from _ _ (le_yes (pos 0) u l) (le_yes (pos 0) b (omega (arith, ints, i.1))))
    (or_right _ _ (lt_yes (pos 0) b i.1)))))

pub to_above : (x : Whole) → IsPositive x → Above x
unfolding is_positive
to_above x h = elim (from_definition (twice x) x.b (norm_of x) (norm_squares x) h.above) as (λ _. Above x) [
  | inl o ↦ inl (record { norm = o.0; twice = o.1 })
  | inr i ↦ inr (record { norm = i.0; b = i.1 })
]

pub from_above : (x : Whole) → Above x → IsPositive x
unfolding is_positive
from_above x (inl o) = record { above = to_definition (twice x) x.b (norm_of x) (norm_squares x) (inl (o.norm, o.twice)) }
from_above x (inr i) = record { above = to_definition (twice x) x.b (norm_of x) (norm_squares x) (inr (i.norm, i.b)) }

-- ---- what the crates above use
pub positive_plus : (x y : Whole) → IsPositive x → IsPositive y → IsPositive (plus x y)
positive_plus x y f g = from_above (plus x y) (above_plus x y (to_above x f) (to_above y g))

pub positive_times : (x y : Whole) → IsPositive x → IsPositive y → IsPositive (times x y)
positive_times x y f g = from_above (times x y) (above_times x y (to_above x f) (to_above y g))

pub positive_or_not : (x : Whole) → (x ≡ whole (pos 0)) ⊎ (IsPositive x ⊎ IsPositive (opposite x))
positive_or_not x = elim (split_sign x) as (λ _. (x ≡ whole (pos 0)) ⊎ (IsPositive x ⊎ IsPositive (opposite x))) [
  | inl e ↦ inl e
  | inr s ↦ elim s as (λ _. (x ≡ whole (pos 0)) ⊎ (IsPositive x ⊎ IsPositive (opposite x))) [
    | inl f ↦ inr (inl (from_above x f))
    | inr f ↦ inr (inr (from_above (opposite x) f))
  ]
]

pub positive_never_both : (x : Whole) → IsPositive x → IsPositive (opposite x) → ⊥
positive_never_both x f g = never_both x (to_above x f) (to_above (opposite x) g)

pub positive_not_zero : IsPositive (whole (pos 0)) → ⊥
positive_not_zero f = zero_not_above (to_above (whole (pos 0)) f)

opposite_not_zero : (x : Whole) → x ≡ whole (pos 0) → IsPositive (opposite x) → ⊥
opposite_not_zero x e f = positive_not_zero (subst IsPositive (ap opposite e ∙ solve golden [] (⊖_ (n_ (pos 0))) (n_ (pos 0)) refl) f)

pub positive_whole : (n : ℤ) → pos 0 <ℤ n → IsPositive (whole n)
positive_whole n h = from_above (whole n) (inl (record {
  norm = omega (arith, ints, mul_above n n h h, *ℤ-zero n);
  twice = omega (arith, ints, h);
}))

pub whole_positive : (n : ℤ) → IsPositive (whole n) → pos 0 <ℤ n
whole_positive n f = by_lt_z (pos 0) n (λ l. l) (λ l. absurd (elim (to_above (whole n) f) as (λ _. ⊥) [
  | inl o ↦ omega (arith, ints, o.twice, l)
  | inr i ↦ omega (arith, ints, i.b)
]))

-- ---- the sign
pub not_positive : (x : Whole) → (IsPositive x → ⊥) → is_positive x ≡ false
not_positive x n = elim (cases_Bool (is_positive x)) as (λ _. is_positive x ≡ false) [ inl e ↦ absurd (n (record { above = e })) | inr e ↦ e ]

pub never_positive : (x : Whole) → is_positive x ≡ false → IsPositive x → ⊥
never_positive x e f = both_ways (is_positive x) e f.above

pub sign_greater : (x : Whole) → IsPositive x → sign x ≡ Greater
unfolding sign
sign_greater x f = rw f.above refl

pub sign_equal : (x : Whole) → x ≡ whole (pos 0) → sign x ≡ Equal
unfolding sign is_positive
sign_equal x e = subst (λ y. sign y ≡ Equal) (sym e) refl

int_eq_zero : (a : ℤ) → int_eq a (pos 0) ≡ true → a ≡ pos 0
int_eq_zero a e = grind (arith, ints)

pub sign_less : (x : Whole) → IsPositive (opposite x) → sign x ≡ Less
unfolding sign
sign_less x f =
    let e : is_positive x ≡ false = not_positive x (λ g. positive_never_both x g f) in
    let z : (int_eq x.a (pos 0) && int_eq x.b (pos 0)) ≡ false = elim (cases_Bool (int_eq x.a (pos 0) && int_eq x.b (pos 0))) as (λ _. (int_eq x.a (pos 0) && int_eq x.b (pos 0)) ≡ false) [
      | inl t ↦
          let r = and_parts (int_eq x.a (pos 0)) (int_eq x.b (pos 0)) t in
          absurd (opposite_not_zero x (same_whole x (whole (pos 0)) (int_eq_zero x.a r.0) (int_eq_zero x.b r.1)) f)
      | inr t ↦ t
    ] in
    rw e (rw z refl)

-- what each answer of the sign says
pub sign_says : (x : Whole) → MatchOrdering (sign x) (IsPositive (opposite x)) (x ≡ whole (pos 0)) (IsPositive x)
sign_says x = elim (positive_or_not x) as (λ _. MatchOrdering (sign x) (IsPositive (opposite x)) (x ≡ whole (pos 0)) (IsPositive x)) [
  | inl e ↦ subst (λ o. MatchOrdering o (IsPositive (opposite x)) (x ≡ whole (pos 0)) (IsPositive x)) (sym (sign_equal x e)) e
  | inr s ↦ elim s as (λ _. MatchOrdering (sign x) (IsPositive (opposite x)) (x ≡ whole (pos 0)) (IsPositive x)) [
    | inl f ↦ subst (λ o. MatchOrdering o (IsPositive (opposite x)) (x ≡ whole (pos 0)) (IsPositive x)) (sym (sign_greater x f)) f
    | inr f ↦ subst (λ o. MatchOrdering o (IsPositive (opposite x)) (x ≡ whole (pos 0)) (IsPositive x)) (sym (sign_less x f)) f
  ]
]

-- ---- each positive number has a positive multiple that is a whole number
conjugate : Whole → Whole
unfolding plus
conjugate x = record { a = x.a +ℤ x.b; b = neg_ℤ x.b }

times_conjugate : (x : Whole) → times x (conjugate x) ≡ whole (norm_of x)
unfolding times conjugate
times_conjugate x = same_whole _ _
    (solve integers (x.a ∷ x.b ∷ []) (times_a (x_ 0) (x_ 1) (x_ 0 ⊕ x_ 1) (⊖_ (x_ 1))) (x_ 0 ⊗ x_ 0 ⊕ x_ 0 ⊗ x_ 1 ⊕ ⊖_ (x_ 1 ⊗ x_ 1)) refl)
    (solve integers (x.a ∷ x.b ∷ []) (times_b (x_ 0) (x_ 1) (x_ 0 ⊕ x_ 1) (⊖_ (x_ 1))) (n_ (pos 0)) refl)

-- where x and x y are positive, y is
pub positive_factor : (x y : Whole) → IsPositive x → IsPositive (times x y) → IsPositive y
positive_factor x y f g = elim (positive_or_not y) as (λ _. IsPositive y) [
  | inl e ↦ absurd (positive_not_zero (subst IsPositive (ap (times x) e ∙ times_zero x) g))
  | inr s ↦ elim s as (λ _. IsPositive y) [
    | inl h ↦ h
    | inr h ↦ absurd (positive_never_both (times x y) g
        (subst IsPositive (solve golden (x ∷ y ∷ []) (x_ 0 ⊗ ⊖_ (x_ 1)) (⊖_ (x_ 0 ⊗ x_ 1)) refl) (positive_times x (opposite y) f h)))
  ]
]

pub record HasWhole (x : Whole) : Type 0 where
  pub factor : Whole
  pub number : ℤ
  pub factor_above : IsPositive factor
  pub number_above : pos 0 <ℤ number
  pub is : times x factor ≡ whole number

with_factor : (x y : Whole) (n : ℤ) → IsPositive x → pos 0 <ℤ n → times x y ≡ whole n → HasWhole x
with_factor x y n f h e = record {
  factor = y;
  number = n;
  number_above = h;
  is = e;
  factor_above = positive_factor x y f (subst IsPositive (sym e) (positive_whole n h));
}

opposite_whole : (n : ℤ) → opposite (whole n) ≡ whole (neg_ℤ n)
unfolding opposite
opposite_whole n = refl

pub has_whole : (x : Whole) → IsPositive x → HasWhole x
has_whole x f = elim (to_above x f) as (λ _. HasWhole x) [
  | inl o ↦ with_factor x (conjugate x) (norm_of x) f o.norm (times_conjugate x)
  | inr i ↦ with_factor x (opposite (conjugate x)) (neg_ℤ (norm_of x)) f (omega (arith, ints, i.norm))
      (solve golden (x ∷ conjugate x ∷ []) (x_ 0 ⊗ ⊖_ (x_ 1)) (⊖_ (x_ 0 ⊗ x_ 1)) refl ∙ ap opposite (times_conjugate x) ∙ opposite_whole (norm_of x))
]
