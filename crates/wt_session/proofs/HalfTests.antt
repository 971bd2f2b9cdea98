-- Six numbers that are those of a half-plane, as the call that makes one tells.
use Rattle.std.proofs.lemmas.Int.{ints}
use Rattle.std.proofs.Common.{arith, ◌≡◌, ◌≤◌, ℕ, zero, suc, ℤ, pos, negsuc, true, false, Option, None, Some, refl, sym, ap, ◌∙◌}
use Rattle.std.specs.Prelude.{Bool, not, ◌&&◌, nat_eq, nat_le, unsigned_abs, if◌then◌else◌}
use Rattle.std.proofs.lemmas.Bool.Decides.{nat_tests}
use Rattle.std.proofs.lemmas.Bool.{and_parts, le-leb, leb-true}
use Rattle.wt_golden.specs.Whole.{Whole, whole}
use Rattle.wt_plane.specs.HalfPlanes.{Half, HasDirection, half_limit, reduced_half, IsSmallHalf, IsHalfPlane}
use Rattle.wt_induce.specs.Faults.{are_within, is_small_half}
use Rattle.wt_session.specs.Partitions.{is_zero, is_plane, half_from}

zero_from : (z : ℤ) → nat_eq (unsigned_abs z) 0 ≡ true → z ≡ pos 0
zero_from z e = let n : unsigned_abs z ≡ 0 = grind (arith, nat_tests, e) in omega (arith, ints, n)

made : ℤ → ℤ → Whole
made a b = record { a = a; b = b }

whole_zero : (x : Whole) → is_zero x ≡ true → x ≡ whole (pos 0)
unfolding made
whole_zero x e =
    let p = and_parts (nat_eq (unsigned_abs x.a) 0) (nat_eq (unsigned_abs x.b) 0) e in
    ap (λ (a : ℤ). made a x.b) (zero_from x.a p.0) ∙ ap (λ (b : ℤ). made (pos 0) b) (zero_from x.b p.1)

zero_whole : (x : Whole) → x ≡ whole (pos 0) → is_zero x ≡ true
zero_whole x e = rw e refl

no_way : (h : Half) → (HasDirection h → ⊥) → (is_zero h.p && is_zero h.q) ≡ true
no_way h none = by (is_zero h.p && is_zero h.q) refl
  where
    by : (b : Bool) → (is_zero h.p && is_zero h.q) ≡ b → (is_zero h.p && is_zero h.q) ≡ true
    by true e = e
    by false e = absurd (none (λ pq. let t : (is_zero h.p && is_zero h.q) ≡ true = rw (zero_whole h.p pq.0, zero_whole h.q pq.1) refl in absurd cc))

some_way : (h : Half) → ((HasDirection h → ⊥) → ⊥) → (is_zero h.p && is_zero h.q) ≡ false
some_way h some = by (is_zero h.p && is_zero h.q) refl
  where
    by : (b : Bool) → (is_zero h.p && is_zero h.q) ≡ b → (is_zero h.p && is_zero h.q) ≡ false
    by false e = e
    by true e = absurd (some (λ direction. let p = and_parts (is_zero h.p) (is_zero h.q) e in direction (whole_zero h.p p.0, whole_zero h.q p.1)))

within_yes : (x : Whole) → unsigned_abs x.a ≤ half_limit → unsigned_abs x.b ≤ half_limit → are_within x ≡ true
within_yes x a b = rw (le-leb (unsigned_abs x.a) half_limit a, le-leb (unsigned_abs x.b) half_limit b) refl

small_yes : (f : Half) → IsSmallHalf f → is_small_half f ≡ true
small_yes f s = rw (within_yes f.p s.p.a s.p.b, within_yes f.q s.q.a s.q.b, within_yes f.r s.r.a s.r.b) refl

small_no : (f : Half) → (IsSmallHalf f → ⊥) → is_small_half f ≡ false
small_no f none = by (is_small_half f) refl
  where
    by : (b : Bool) → is_small_half f ≡ b → is_small_half f ≡ false
    by false e = e
    by true e =
        let h = and_parts (are_within f.p && are_within f.q) (are_within f.r) e in
        let g = and_parts (are_within f.p) (are_within f.q) h.0 in
        let p = and_parts (nat_le (unsigned_abs f.p.a) half_limit) (nat_le (unsigned_abs f.p.b) half_limit) g.0 in
        let q = and_parts (nat_le (unsigned_abs f.q.a) half_limit) (nat_le (unsigned_abs f.q.b) half_limit) g.1 in
        let r = and_parts (nat_le (unsigned_abs f.r.a) half_limit) (nat_le (unsigned_abs f.r.b) half_limit) h.1 in
        absurd (none (record {
          p = record { a = leb-true (unsigned_abs f.p.a) half_limit p.0; b = leb-true (unsigned_abs f.p.b) half_limit p.1 };
          q = record { a = leb-true (unsigned_abs f.q.a) half_limit q.0; b = leb-true (unsigned_abs f.q.b) half_limit q.1 };
          r = record { a = leb-true (unsigned_abs f.r.a) half_limit r.0; b = leb-true (unsigned_abs f.r.b) half_limit r.1 };
        }))

-- a half-plane that was made of h
pub is_made : (h f : Half) → ((HasDirection h → ⊥) → ⊥) → f ≡ reduced_half h → IsHalfPlane f → Some f ≡ half_from h
unfolding half_from
is_made h f way e is =
    let small : is_small_half (reduced_half h) ≡ true = rw (sym e) (small_yes f is.small) in
    rw (some_way h way, small) (ap (λ (g : Half). Some g) e)

-- six numbers without a direction
pub no_direction : (h : Half) → (HasDirection h → ⊥) → None ≡ half_from h
unfolding half_from
no_direction h none = rw (no_way h none) refl

-- six numbers that are too large
pub too_large : (h : Half) → (IsSmallHalf (reduced_half h) → ⊥) → None ≡ half_from h
unfolding half_from
too_large h none = by (not (is_zero h.p && is_zero h.q)) refl
  where
    by : (b : Bool) → not (is_zero h.p && is_zero h.q) ≡ b → None ≡ half_from h
    by false e = rw e refl
    by true e = rw (e, small_no (reduced_half h) none) refl
