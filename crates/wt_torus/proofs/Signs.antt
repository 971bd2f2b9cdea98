-- A product with φ has the sign of the number.
use Rattle.std.proofs.Common.{arith, ◌≡◌, ℕ, ◌+◌, ◌<◌, ◌≤◌, Bool, true, false, ◌&&◌, ◌||◌, refl, sym, ap, subst, ◌∙◌, ◌⊎◌, inl, inr}
use Rattle.std.specs.Prelude.{ℤ, pos, ◌+ℤ◌, ◌*ℤ◌, ◌<ℤ◌, ◌≤ℤ◌, unsigned_abs, int_lt, int_le, [], ◌∷◌}
use Rattle.std.proofs.lemmas.Int.{ints}
use Rattle.std.proofs.lemmas.Bool.{and_parts}
use Rattle.wt_golden.specs.Whole.{Whole, times, opposite, is_positive, IsPositive}
use Rattle.wt_ring.proofs.Ring.{x_, ◌⊗◌, ⊖_, n_, solve}
use Rattle.wt_golden.proofs.WholeRing.{golden, same_whole}
use Rattle.wt_golden.proofs.Order.{to_above, positive_times, positive_or_not, positive_never_both, positive_not_zero}
use Rattle.wt_golden.proofs.Signs.{above_both}
use Rattle.wt_torus.specs.Signs.{number_at, IsMixed, IsPlain, has_both_signs, mixed_size}
use Rattle.wt_torus.proofs.Rotation.{flag, both}

phi : Whole
phi = record { a = pos 0; b = pos 1 }

phi_positive : IsPositive phi
unfolding is_positive phi
phi_positive = record { above = refl }

phi_times : (a b : ℤ) → times phi (number_at a b) ≡ number_at b (a +ℤ b)
unfolding times phi
phi_times a b = same_whole _ _ (omega (arith, ints)) (omega (arith, ints))

turned : (x : Whole) → is_positive (times phi x) ≡ is_positive x
turned x = elim (flag (is_positive x)) [
  | inl e ↦ (positive_times phi x phi_positive (record { above = e })).above ∙ sym e
  | inr e ↦ elim (flag (is_positive (times phi x))) [
    | inr f ↦ f ∙ sym e
    | inl f ↦ elim (positive_or_not x) [
      | inl z ↦ absurd (positive_not_zero (subst IsPositive (ap (times phi) z ∙ solve golden (phi ∷ []) (x_ 0 ⊗ n_ (pos 0)) (n_ (pos 0)) refl) (record { above = f })))
      | inr (inl p) ↦ both (is_positive x) p.above e
      | inr (inr p) ↦ absurd (positive_never_both (times phi x) (record { above = f })
          (subst IsPositive (solve golden (phi ∷ x ∷ []) (x_ 0 ⊗ ⊖_ (x_ 1)) (⊖_ (x_ 0 ⊗ x_ 1)) refl) (positive_times phi (opposite x) phi_positive p)))
    ]
  ]
]

pub turned_signs : (a b s : ℤ) → s ≡ a +ℤ b → is_positive (number_at b s) ≡ is_positive (number_at a b)
turned_signs a b s e = ap is_positive (ap (number_at b) e ∙ sym (phi_times a b)) ∙ turned (number_at a b)

below_zero : (x : ℤ) → x <ℤ pos 0 → int_lt x (pos 0) ≡ true
below_zero x h = grind (arith, ints)

above_zero_is : (x : ℤ) → pos 0 <ℤ x → int_lt (pos 0) x ≡ true
above_zero_is x h = grind (arith, ints)

not_below : (x : ℤ) → pos 0 <ℤ x → int_lt x (pos 0) ≡ false
not_below x h = grind (arith, ints)

not_above : (x : ℤ) → x <ℤ pos 0 → int_lt (pos 0) x ≡ false
not_above x h = grind (arith, ints)

zero_below : (x : ℤ) → int_lt x (pos 0) ≡ true → x <ℤ pos 0
zero_below x h = grind (arith, ints)

zero_above : (x : ℤ) → int_lt (pos 0) x ≡ true → pos 0 <ℤ x
zero_above x h = grind (arith, ints)

or_cases_of : (a b c d : Bool) → ((a && b) || (c && d)) ≡ true → ((a ≡ true) × (b ≡ true)) ⊎ ((c ≡ true) × (d ≡ true))
or_cases_of true true c d e = inl (refl, refl)
or_cases_of true false c d e = inr (and_parts c d e)
or_cases_of false b c d e = inr (and_parts c d e)

mixed_from : (a b : ℤ) → has_both_signs a b ≡ true → IsMixed a b
mixed_from a b e = elim (or_cases_of (int_lt (pos 0) a) (int_lt b (pos 0)) (int_lt a (pos 0)) (int_lt (pos 0) b) e) [
  | inl t ↦ inl (zero_above a t.0, zero_below b t.1)
  | inr t ↦ inr (zero_below a t.0, zero_above b t.1)
]

from_mixed : (a b : ℤ) → IsMixed a b → mixed_size a b ≡ unsigned_abs a + unsigned_abs b
unfolding mixed_size
from_mixed a b (inl p) = rw (above_zero_is a p.0, below_zero b p.1) refl
from_mixed a b (inr p) = rw (not_above a p.0, below_zero a p.0, above_zero_is b p.1) refl

less_size : (a b s : ℤ) → s ≡ a +ℤ b → IsMixed a b → IsMixed b s → unsigned_abs b + unsigned_abs s < unsigned_abs a + unsigned_abs b
less_size a b s e (inl p) (inl q) = absurd (omega (arith, ints))
less_size a b s e (inl p) (inr q) = omega (arith, ints)
less_size a b s e (inr p) (inl q) = omega (arith, ints)
less_size a b s e (inr p) (inr q) = absurd (omega (arith, ints))

some_size : (a b : ℤ) → IsMixed a b → 0 < unsigned_abs a + unsigned_abs b
some_size a b (inl p) = omega (arith, ints)
some_size a b (inr p) = omega (arith, ints)

no_size : (a b : ℤ) → has_both_signs a b ≡ false → mixed_size a b ≡ 0
unfolding mixed_size
no_size a b e = rw e refl

pub turned_smaller : (a b s : ℤ) → s ≡ a +ℤ b → IsMixed a b → mixed_size b s < mixed_size a b
turned_smaller a b s e m = elim (flag (has_both_signs b s)) [
  | inl t ↦ let n = mixed_from b s t in let x = from_mixed b s n in let y = from_mixed a b m in let z = less_size a b s e m n in omega arith
  | inr t ↦ let x = no_size b s t in let y = from_mixed a b m in let z = some_size a b m in omega arith
]

pub turned_below : (a b s : ℤ) (m : ℕ) → s ≡ a +ℤ b → IsMixed a b → unsigned_abs a ≤ m → unsigned_abs b ≤ m → unsigned_abs s ≤ m
turned_below a b s m e (inl p) h k = omega (arith, ints)
turned_below a b s m e (inr p) h k = omega (arith, ints)

low : (a b : ℤ) → (a ≤ℤ pos 0) → (b ≤ℤ pos 0) → is_positive (number_at a b) ≡ false
low a b p q = elim (flag (is_positive (number_at a b))) [
  | inr e ↦ e
  | inl e ↦ elim (to_above (number_at a b) (record { above = e })) [
    | inl o ↦ absurd (let t = o.twice in omega (arith, ints))
    | inr i ↦ absurd (let t = i.b in omega (arith, ints))
  ]
]

high : (a b : ℤ) → (pos 0 ≤ℤ a) → (pos 0 ≤ℤ b) → is_positive (number_at a b) ≡ (int_lt (pos 0) (pos 2 *ℤ a +ℤ b) || int_lt (pos 0) b)
unfolding is_positive
high a b p q = above_both (pos 2 *ℤ a +ℤ b) b (omega (arith, ints)) q

or_true : (x : Bool) → (x || true) ≡ true
or_true true = refl
or_true false = refl

and_none : (x y : Bool) → (x && y && (false || false)) ≡ false
and_none true true = refl
and_none true false = refl
and_none false y = refl

no_above : (x : ℤ) → x ≤ℤ pos 0 → int_lt (pos 0) x ≡ false
no_above x h = grind (arith, ints)

is_from : (x : ℤ) → pos 0 ≤ℤ x → int_le (pos 0) x ≡ true
is_from x h = grind (arith, ints)

lt_from : (x : ℤ) → int_lt (pos 0) x ≡ true → pos 0 <ℤ x
lt_from x h = grind (arith, ints)

not_from : (x : ℤ) → int_lt (pos 0) x ≡ false → x ≤ℤ pos 0
not_from x h = grind (arith, ints)

from_lt : (x : ℤ) → pos 0 <ℤ x → int_lt (pos 0) x ≡ true
from_lt x h = grind (arith, ints)

same_above : (a b : ℤ) → pos 0 ≤ℤ a → pos 0 ≤ℤ b → (int_lt (pos 0) a || int_lt (pos 0) b) ≡ (int_lt (pos 0) (pos 2 *ℤ a +ℤ b) || int_lt (pos 0) b)
same_above a b p q = elim (flag (int_lt (pos 0) b)) [
  | inl e ↦ rw e (or_true (int_lt (pos 0) a) ∙ sym (or_true (int_lt (pos 0) (pos 2 *ℤ a +ℤ b))))
  | inr e ↦
      let none = not_from b e in
      elim (flag (int_lt (pos 0) a)) [
        | inl f ↦ let some = lt_from a f in let g = from_lt (pos 2 *ℤ a +ℤ b) (omega (arith, ints)) in rw (f, g) refl
        | inr f ↦ let no = not_from a f in let g = no_above (pos 2 *ℤ a +ℤ b) (omega (arith, ints)) in rw (f, g) refl
      ]
]

pub plain_signs : (a b : ℤ) (r : Bool) → IsPlain a b → r ≡ (int_le (pos 0) a && int_le (pos 0) b && (int_lt (pos 0) a || int_lt (pos 0) b)) → r ≡ is_positive (number_at a b)
plain_signs a b r (inl p) e = e ∙ (rw (is_from a p.0, is_from b p.1) (same_above a b p.0 p.1) ∙ sym (high a b p.0 p.1))
plain_signs a b r (inr p) e = e ∙ (rw (no_above a p.0, no_above b p.1) (and_none (int_le (pos 0) a) (int_le (pos 0) b)) ∙ sym (low a b p.0 p.1))
