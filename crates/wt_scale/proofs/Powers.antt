-- The least power of two that is large enough.
use Rattle.std.proofs.Common.{arith, ◌≡◌, ◌≤◌, ◌<◌, ◌+◌, ◌^◌, ℕ, zero, suc, Bool, true, false, nat_le, cond, refl, sym, subst}
use Rattle.std.proofs.lemmas.Bool.Decides.{nat_tests}
use Rattle.wt_scale.specs.Pick.{power_from, power_for}
use Rattle.wt_scale.proofs.NoPeriods.{doubled}

below_power : (k : ℕ) → k < 2 ^ k
below_power zero = let e : 2 ^ 0 ≡ 1 = refl in omega arith
below_power (suc k) = let r = below_power k in let e = doubled k in omega (arith, r, e)

module _ (n : ℕ) where
  -- one of the tries has a power of n or more, so the first such is found
  enough_from : (k tries : ℕ) → n ≤ 2 ^ (k + tries) → n ≤ 2 ^ power_from n k tries
  enough_from k zero h = let z : k + 0 ≡ k = omega arith in subst (λ (m : ℕ). n ≤ 2 ^ m) z h
  enough_from k (suc tries) h =
      let z : k + suc tries ≡ k + 1 + tries = omega arith in
      go (nat_le n (2 ^ k)) refl (enough_from (k + 1) tries (subst (λ (m : ℕ). n ≤ 2 ^ m) z h))
    where
      go : (b : Bool) → nat_le n (2 ^ k) ≡ b → n ≤ 2 ^ power_from n (k + 1) tries → n ≤ 2 ^ cond b k (power_from n (k + 1) tries)
      go true e r = grind (arith, nat_tests, e)
      go false e r = r

  -- and no lesser one, from the first try on
  least_from : (k tries j : ℕ) → k ≤ j → n ≤ 2 ^ j → power_from n k tries ≤ j
  least_from k zero j l h = l
  least_from k (suc tries) j l h = go (nat_le n (2 ^ k)) refl (λ more. least_from (k + 1) tries j more h)
    where
      other : nat_le n (2 ^ k) ≡ false → k ≡ j → ⊥
      other e same = let s : n ≤ 2 ^ k = subst (λ (m : ℕ). n ≤ 2 ^ m) (sym same) h in grind (arith, nat_tests, e, s)

      go : (b : Bool) → nat_le n (2 ^ k) ≡ b → (k + 1 ≤ j → power_from n (k + 1) tries ≤ j) → cond b k (power_from n (k + 1) tries) ≤ j
      go true e r = l
      go false e r = let o = other e in r (omega (arith, l, o))

pub enough : (n : ℕ) → n ≤ 2 ^ power_for n
enough n = let z : n ≡ 0 + n = omega arith in let b = below_power n in enough_from n 0 n (subst (λ (m : ℕ). n ≤ 2 ^ m) z (omega (arith, b)))

pub least : (n k : ℕ) → n ≤ 2 ^ k → power_for n ≤ k
least n k h = least_from n 0 n k (omega arith) h
