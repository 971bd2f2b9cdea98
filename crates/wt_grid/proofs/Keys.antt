-- Lists in order by several numbers are split at each key.
use Rattle.std.proofs.Common.{arith, ◌≡◌, ◌⊎◌, ◌<◌, ℕ, List, Bool, true, false, ◌&&◌, ◌||◌, nat_eq, nat_lt, refl, inl, inr}
use Rattle.std.proofs.lemmas.Bool.{and_parts}
use Rattle.std.proofs.lemmas.Bool.Decides.{nat_tests}
use Rattle.wt_grid.specs.Order.{in_order, IsSplit}
use Rattle.wt_grid.proofs.Order.{split}
use Rattle.wt_grid.specs.Pairs.{pair_before, is_this_pair, pairs_follow, pair_fits}

-- by a number, and where that is the same by p
abbrev pub first_by : ℕ → ℕ → Bool → Bool
first_by x y p = nat_lt x y || (nat_eq x y && p)

pub by_cases : (x y : ℕ) (p : Bool) → first_by x y p ≡ true → (x < y) ⊎ ((x ≡ y) × (p ≡ true))
by_cases x y p e = go (nat_lt x y) (nat_eq x y) refl refl
  where
    go : (b c : Bool) → nat_lt x y ≡ b → nat_eq x y ≡ c → (x < y) ⊎ ((x ≡ y) × (p ≡ true))
    go true c l m = inl (grind (arith, nat_tests, l))
    go false true l m = let f = rw (l, m) at e in inr (grind (arith, nat_tests, m), f)
    go false false l m = let f = rw (l, m) at e in absurd (cc f)

pub by_less : (x y : ℕ) (p : Bool) → x < y → first_by x y p ≡ true
by_less x y p lt = let e : nat_lt x y ≡ true = grind (arith, nat_tests) in rw e refl

pub by_same : (x y : ℕ) (p : Bool) → x ≡ y → p ≡ true → first_by x y p ≡ true
by_same x y p s e = go (nat_lt x y) refl
  where
    go : (b : Bool) → nat_lt x y ≡ b → first_by x y p ≡ true
    go true l = rw l refl
    go false l = let m : nat_eq x y ≡ true = grind (arith, nat_tests, s) in rw (l, m, e) refl

pub by_both : (x y z : ℕ) (p q r : Bool) → first_by x y p ≡ true → first_by y z q ≡ true → (p ≡ true → q ≡ true → r ≡ true) → first_by x z r ≡ true
by_both x y z p q r e f h = elim (by_cases x y p e) [
  | inl lt ↦ elim (by_cases y z q f) [
    | inl lt' ↦ by_less x z r (omega arith)
    | inr s' ↦ by_less x z r (let k : y ≡ z = s'.0 in omega arith)
  ]
  | inr s ↦ elim (by_cases y z q f) [
    | inl lt' ↦ by_less x z r (let k : x ≡ y = s.0 in omega arith)
    | inr s' ↦ by_same x z r (let k : x ≡ y = s.0 in let k' : y ≡ z = s'.0 in omega arith) (h s.1 s'.1)
  ]
]

pub by_hit : (x y z : ℕ) (p q r : Bool) → first_by x y p ≡ true → (nat_eq y z && q) ≡ true → (p ≡ true → q ≡ true → r ≡ true) → first_by x z r ≡ true
by_hit x y z p q r e f h =
    let g = and_parts (nat_eq y z) q f in
    let k : y ≡ z = grind (arith, nat_tests, g.0) in
    elim (by_cases x y p e) [
      | inl lt ↦ by_less x z r (omega arith)
      | inr s ↦ by_same x z r (let k' : x ≡ y = s.0 in omega arith) (h s.1 g.1)
    ]

pub by_apart : (x y : ℕ) (p q : Bool) → first_by x y p ≡ true → (p ≡ true → q ≡ false) → (nat_eq x y && q) ≡ false
by_apart x y p q e h = elim (by_cases x y p e) [
  | inl lt ↦ let m : nat_eq x y ≡ false = grind (arith, nat_tests) in rw m refl
  | inr s ↦ let m : nat_eq x y ≡ true = (let k : x ≡ y = s.0 in grind (arith, nat_tests)) in rw (m, h s.1) refl
]

less_both : (x y z : ℕ) → nat_lt x y ≡ true → nat_lt y z ≡ true → nat_lt x z ≡ true
less_both x y z e f = grind (arith, nat_tests)

less_hit : (x y z : ℕ) → nat_lt x y ≡ true → nat_eq y z ≡ true → nat_lt x z ≡ true
less_hit x y z e f = grind (arith, nat_tests)

less_apart : (x y : ℕ) → nat_lt x y ≡ true → nat_eq x y ≡ false
less_apart x y e = grind (arith, nat_tests)

pub pairs_onward : (a b : ℕ) (x y : ℕ × ℕ) → pairs_follow x y ≡ true → pair_before a b y ≡ true → pair_before a b x ≡ true
pairs_onward a b x y e f = by_both x.0 y.0 a (nat_lt x.1 y.1) (nat_lt y.1 b) (nat_lt x.1 b) e f (less_both x.1 y.1 b)

pub pairs_up_to : (a b : ℕ) (x y : ℕ × ℕ) → pairs_follow x y ≡ true → is_this_pair a b y ≡ true → pair_before a b x ≡ true
pairs_up_to a b x y e f = by_hit x.0 y.0 a (nat_lt x.1 y.1) (nat_eq y.1 b) (nat_lt x.1 b) e f (less_hit x.1 y.1 b)

pub pairs_apart : (a b : ℕ) (x : ℕ × ℕ) → pair_before a b x ≡ true → is_this_pair a b x ≡ false
pairs_apart a b x e = by_apart x.0 a (nat_lt x.1 b) (nat_eq x.1 b) e (less_apart x.1 b)

pub pairs_split : (n a b : ℕ) (ps : List (ℕ × ℕ)) → in_order (pair_fits n) pairs_follow ps ≡ true → IsSplit (pair_before a b) (is_this_pair a b) ps
pairs_split n a b ps e = split (pair_before a b) (is_this_pair a b) (pair_fits n) pairs_follow (pairs_onward a b) (pairs_up_to a b) (pairs_apart a b) ps e
