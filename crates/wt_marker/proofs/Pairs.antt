-- Pairs that are listed.
use Rattle.std.proofs.Common.{arith, ◌≡◌, ℕ, ◌<◌, Bool, true, false, nat_eq, nat_lt, refl}
use Rattle.std.proofs.lemmas.Bool.{and_parts}
use Rattle.std.specs.List.{list_any}
use Rattle.std.proofs.lemmas.Bool.Decides.{nat_tests}
use Rattle.wt_grid.specs.Order.{in_order}
use Rattle.wt_grid.specs.Pairs.{pairs_follow, pair_fits, is_this_pair}
use Rattle.wt_marker.specs.Gather.{pair_at, row_of, pairs_of}
use Rattle.wt_marker.proofs.Listed.{Each, Sorted, each_gather, each_only, each_imp, has_each, has_gather, has_only, sorted_gather, sorted_only, ordered}

-- a pair that is listed: it is below n, and passes
pub record Listed (p : ℕ → ℕ → Bool) (n : ℕ) (q : ℕ × ℕ) : Type 0 where
  pub first : q.0 < n
  pub second : q.1 < n
  pub passes : p q.0 q.1 ≡ true

pub is_pair_same : (a b : ℕ) (q : ℕ × ℕ) → is_this_pair a b q ≡ true → (q.0 ≡ a) × (q.1 ≡ b)
is_pair_same a b q e = let g = and_parts (nat_eq q.0 a) (nat_eq q.1 b) e in (grind (arith, nat_tests, g.0), grind (arith, nat_tests, g.1))

pub own_pair : (a b : ℕ) → is_this_pair a b (a, b) ≡ true
own_pair a b =
    let e : nat_eq a a ≡ true = grind (arith, nat_tests) in
    let f : nat_eq b b ≡ true = grind (arith, nat_tests) in rw (e, f) refl

module _ (p : ℕ → ℕ → Bool) (n : ℕ) where
  pub each_listed : Each (Listed p n) (pairs_of p n)
  each_listed = each_gather (Listed p n) (row_of p n) 0 n (λ a lo hi.
      each_gather (Listed p n) (pair_at p a) 0 n (λ b lo' hi'.
      each_only (Listed p n) (p a b) (a, b) (λ e. record { first = omega arith; second = omega arith; passes = e })))

  -- what is found among them
  pub pair_found : (q : ℕ × ℕ → Bool) → list_any q (pairs_of p n) ≡ true → (x : ℕ × ℕ) × Listed p n x × (q x ≡ true)
  pair_found q e = has_each (Listed p n) q (pairs_of p n) each_listed e

  pub passes_listed : (a b : ℕ) → list_any (is_this_pair a b) (pairs_of p n) ≡ true → (a < n) × (b < n) × (p a b ≡ true)
  passes_listed a b e =
      let r = pair_found (is_this_pair a b) e in
      let s = is_pair_same a b r.0 r.2 in
      let l = r.1 in
      (rw s.0 at l.first, rw s.1 at l.second, rw (s.0, s.1) at l.passes)

  pub is_listed : (a b : ℕ) → a < n → b < n → p a b ≡ true → list_any (is_this_pair a b) (pairs_of p n) ≡ true
  is_listed a b la lb e =
      has_gather (is_this_pair a b) (row_of p n) 0 n a (omega arith) (omega arith)
      (has_gather (is_this_pair a b) (pair_at p a) 0 n b (omega arith) (omega arith)
      (has_only (is_this_pair a b) (p a b) (a, b) e (own_pair a b)))

  behind : (a k l : ℕ) → k < l → pairs_follow (a, k) (a, l) ≡ true
  behind a k l lt =
      let e : nat_lt a a ≡ false = grind (arith, nat_tests) in
      let f : nat_eq a a ≡ true = grind (arith, nat_tests) in
      let g : nat_lt k l ≡ true = grind (arith, nat_tests) in rw (e, f, g) refl

  above : (a b c d : ℕ) → a < c → pairs_follow (a, b) (c, d) ≡ true
  above a b c d lt = let e : nat_lt a c ≡ true = grind (arith, nat_tests) in rw e refl

  pub pairs_sorted : Sorted pairs_follow (pairs_of p n)
  pairs_sorted = sorted_gather pairs_follow (row_of p n) 0 n
      (λ a. sorted_gather pairs_follow (pair_at p a) 0 n (λ b. sorted_only pairs_follow (p a b) (a, b))
      (λ k l lt. each_only (λ x. Each (λ y. pairs_follow x y ≡ true) (pair_at p a l)) (p a k) (a, k)
      (λ e. each_only (λ y. pairs_follow (a, k) y ≡ true) (p a l) (a, l) (λ f. behind a k l lt))))
      (λ k l lt. each_gather (λ x. Each (λ y. pairs_follow x y ≡ true) (row_of p n l)) (pair_at p k) 0 n (λ b lo hi.
      each_only (λ x. Each (λ y. pairs_follow x y ≡ true) (row_of p n l)) (p k b) (k, b) (λ e.
      each_gather (λ y. pairs_follow (k, b) y ≡ true) (pair_at p l) 0 n (λ d lo' hi'.
      each_only (λ y. pairs_follow (k, b) y ≡ true) (p l d) (l, d) (λ f. above k b l d lt)))))

  fits_listed : (q : ℕ × ℕ) → Listed p n q → pair_fits n q ≡ true
  fits_listed q l =
      let f = l.first in let s = l.second in
      let e : nat_lt q.0 n ≡ true = grind (arith, nat_tests) in
      let g : nat_lt q.1 n ≡ true = grind (arith, nat_tests) in rw (e, g) refl

  pub pairs_fit : in_order (pair_fits n) pairs_follow (pairs_of p n) ≡ true
  pairs_fit = ordered (pair_fits n) pairs_follow (pairs_of p n) (each_imp (Listed p n) (λ q. pair_fits n q ≡ true) (pairs_of p n) fits_listed each_listed) pairs_sorted
