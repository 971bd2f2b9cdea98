-- A sum over numbers in another order is the same.
use Rattle.std.proofs.Common.{arith, ◌≡◌, ◌<◌, ◌+◌, ℕ, zero, suc, Bool, true, false, nat_eq, if◌then◌else◌, refl, sym, ◌∙◌, ap, inl, inr}
use Rattle.std.proofs.lemmas.Bool.{cases_lt, cases_eq}
use Rattle.std.proofs.lemmas.Bool.Decides.{nat_tests}
use Rattle.wt_bijection.specs.Labels.{sum_below}

pub total_same : (h k : ℕ → ℕ) (n : ℕ) → ((i : ℕ) → i < n → h i ≡ k i) → sum_below h n ≡ sum_below k n
total_same h k zero e = refl
total_same h k (suc n) e =
    let p = total_same h k n (λ i lt. e i (omega arith)) in
    let q = e n (omega arith) in
    omega (arith, p, q)

-- r with the value v at k
abbrev pub moved : (ℕ → ℕ) → ℕ → ℕ → ℕ → ℕ
moved r k v i = if nat_eq i k then v else r i

moved_at : (r : ℕ → ℕ) (k v i : ℕ) → i ≡ k → moved r k v i ≡ v
moved_at r k v i e = let s : nat_eq i k ≡ true = grind (arith, nat_tests, e) in rw s refl

moved_off : (r : ℕ → ℕ) (k v i : ℕ) → (i ≡ k → ⊥) → moved r k v i ≡ r i
moved_off r k v i d = go (nat_eq i k) refl
  where
    go : (b : Bool) → nat_eq i k ≡ b → (if b then v else r i) ≡ r i
    go true e = absurd (d (grind (arith, nat_tests, e)))
    go false e = refl

total_moved : (h r : ℕ → ℕ) (k v n : ℕ) → k < n → sum_below (λ i. h (moved r k v i)) n + h (r k) ≡ sum_below (λ i. h (r i)) n + h v
total_moved h r k v zero lt = absurd (omega arith)
total_moved h r k v (suc n) lt = elim (cases_lt k n) [
  | inl l ↦
      let p = total_moved h r k v n l in
      let q = ap h (moved_off r k v n (λ e. omega arith)) in
      omega (arith, p, q)
  | inr ge ↦
      let same : n ≡ k = omega arith in
      let p = total_same (λ i. h (moved r k v i)) (λ i. h (r i)) n (λ i l. ap h (moved_off r k v i (λ e. omega arith))) in
      let q = ap h (moved_at r k v n same) in
      let s = ap (λ i. h (r i)) same in
      omega (arith, p, q, s)
]

-- the numbers below n are carried one to one onto themselves
pub record IsPermuted (n : ℕ) (r : ℕ → ℕ) : Type 0 where
  pub below : (i : ℕ) → i < n → r i < n
  pub apart : (i j : ℕ) → i < n → j < n → r i ≡ r j → i ≡ j
  pub onto : (t : ℕ) → t < n → (i : ℕ) × (i < n) × (r i ≡ t)

-- the last number stays where it is
fixed_last : (n : ℕ) (r : ℕ → ℕ) → IsPermuted (suc n) r → r n ≡ n → IsPermuted n r
fixed_last n r p e = record {
  below = λ i lt.
      let b = p.below i (omega arith) in
      let d : r i ≡ n → ⊥ = λ s. let same = p.apart i n (omega arith) (omega arith) (s ∙ sym e) in omega arith in
      elim (cases_lt (r i) n) [ inl l ↦ l | inr ge ↦ absurd (d (omega arith)) ];
  apart = λ i j li lj s. p.apart i j (omega arith) (omega arith) s;
  onto = λ t lt.
      let o = p.onto t (omega arith) in
      let d : o.0 ≡ n → ⊥ = λ s. let same : t ≡ n = sym o.2 ∙ (ap r s ∙ e) in omega arith in
      elim (cases_lt o.0 n) [ inl l ↦ (o.0, l, o.2) | inr ge ↦ absurd (d (let b = o.1 in omega arith)) ];
}

by_place : {A : Type 0} (i k : ℕ) → (i ≡ k → A) → ((i ≡ k → ⊥) → A) → A
by_place i k a b = elim (cases_eq i k) [ inl e ↦ a e | inr d ↦ b d ]

-- the last number is what k is carried onto, and k is given the partner of the last
moved_last : (n : ℕ) (r : ℕ → ℕ) (k : ℕ) → IsPermuted (suc n) r → k < n → r k ≡ n → IsPermuted n (moved r k (r n))
moved_last n r k p lt e =
    let free : (i : ℕ) → i < suc n → (i ≡ k → ⊥) → r i < n = λ i l d.
    let b = p.below i l in
    elim (cases_lt (r i) n) [ inl s ↦ s | inr ge ↦ absurd (d (p.apart i k l (omega arith) (let s : r i ≡ n = omega arith in s ∙ sym e))) ] in
    let last : r n < n = free n (omega arith) (λ s. omega arith) in
    record {
      below = λ i l. by_place i k (λ s. let m = moved_at r k (r n) i s in rw m last) (λ d. let m = moved_off r k (r n) i d in rw m (free i (omega arith) d));
      apart = λ i j li lj s. by_place i k
          (λ a. by_place j k (λ b. a ∙ sym b) (λ b. let f : r n ≡ r j = sym (moved_at r k (r n) i a) ∙ (s ∙ moved_off r k (r n) j b) in let g = p.apart n j (omega arith) (omega arith) f in absurd (omega arith)))
          (λ a. by_place j k (λ b. let f : r i ≡ r n = sym (moved_off r k (r n) i a) ∙ (s ∙ moved_at r k (r n) j b) in let g = p.apart i n (omega arith) (omega arith) f in absurd (omega arith))
          (λ b. p.apart i j (omega arith) (omega arith) (sym (moved_off r k (r n) i a) ∙ (s ∙ moved_off r k (r n) j b))));
      onto = λ t l.
          let o = p.onto t (omega arith) in
          let ob = o.1 in
          let off : o.0 ≡ k → ⊥ = λ s. let same : t ≡ n = sym o.2 ∙ (ap r s ∙ e) in omega arith in
          elim (cases_lt o.0 n) [
            | inl s ↦ (o.0, s, moved_off r k (r n) o.0 off ∙ o.2)
            | inr ge ↦ (k, lt, let same : n ≡ o.0 = omega arith in moved_at r k (r n) k refl ∙ (ap r same ∙ o.2))
          ];
    }

pub total_permuted : (h : ℕ → ℕ) (n : ℕ) (r : ℕ → ℕ) → IsPermuted n r → sum_below (λ i. h (r i)) n ≡ sum_below h n
total_permuted h zero r p = refl
total_permuted h (suc n) r p =
    let o = p.onto n (omega arith) in
    let ob = o.1 in
    elim (cases_lt o.0 n) [
      | inl lt ↦
          let q = total_permuted h n (moved r o.0 (r n)) (moved_last n r o.0 p lt o.2) in
          let m = total_moved h r o.0 (r n) n lt in
          let s = ap h o.2 in
          omega (arith, q, m, s)
      | inr ge ↦
          let same : o.0 ≡ n = omega arith in
          let e : r n ≡ n = ap r (sym same) ∙ o.2 in
          let q = total_permuted h n r (fixed_last n r p e) in
          let s = ap h e in
          omega (arith, q, s)
    ]
