-- What a plan's tables and class say of its tiles.
use Rattle.std.proofs.Common.{arith, ◌≡◌, ℕ, suc, ◌+◌, ◌<◌, ◌≤◌, Bool, true, false, ◌&&◌, not, nat_eq, nat_lt, List, [], ◌∷◌, length, refl, sym, subst, inl, inr}
use Rattle.wt_grid.specs.Axes.{other}
use Rattle.wt_grid.specs.declared.axis.Axis.TheVariants.{One, Two}
use Rattle.wt_grid.specs.declared.axis.Axis.{Axis}
use Rattle.std.proofs.lemmas.Bool.{cases_lt, and_parts, or_cases, or_left, or_right, false_from_ne_true}
use Rattle.std.specs.Cmp.{both_ways}
use Rattle.std.proofs.lemmas.Bool.Decides.{nat_tests}
use Rattle.wt_tile.specs.declared.tile.Tile.{Tile}
use Rattle.wt_tile.specs.Matching.{matches}
use Rattle.wt_grid.specs.Grid.{Grid, at, along, across}
use Rattle.wt_grid.specs.Parts.{AllBelow}
use Rattle.wt_grid.specs.Order.{in_order, leads, is_below, agree, comes_before}
use Rattle.wt_pattern.specs.Windows.{IsSurroundable}
use Rattle.wt_window.proofs.Outcomes.{matched}
use Rattle.wt_marker.specs.Classes.{is_in, touches, AreJoined}
use Rattle.wt_marker.specs.Derived.{Plan, IsPlan, dominoes, tiles_of}
use Rattle.wt_marker.proofs.Truth.{not_both}

-- Lists of numbers that ascend.

pub above_all : (n x : ℕ) (xs : List ℕ) → in_order (is_below n) comes_before (x ∷ xs) ≡ true → length xs + x < n
above_all n x [] e = let g = and_parts (nat_lt x n && true) true e in let h = and_parts (nat_lt x n) true g.0 in grind (arith, nat_tests, h.0)
above_all n x (y ∷ ys) e =
    let g = and_parts (nat_lt x n && nat_lt x y) (in_order (is_below n) comes_before (y ∷ ys)) e in
    let h = and_parts (nat_lt x n) (nat_lt x y) g.0 in
    let lt : x < y = grind (arith, nat_tests, h.1) in
    let r = above_all n y ys g.1 in omega arith

-- a number that isn't there leaves room
pub room : (n i u : ℕ) (xs : List ℕ) → in_order (is_below n) comes_before xs ≡ true → ((x : ℕ) → is_in xs x ≡ true → i ≤ x) → i ≤ u → u < n → is_in xs u ≡ false → length xs + i < n
room n i u [] e low lo hi none = omega arith
room n i u (x ∷ xs) e low lo hi none =
    let own : nat_eq x x ≡ true = grind (arith, nat_tests) in
    let ix : i ≤ x = low x (rw own refl) in
    elim (cases_lt x u) [
      | inl lt ↦
          let t = rest x xs e in
          let r = room n (x + 1) u xs t (λ y m. let k = rises x xs e y m in omega arith) (omega arith) hi (tail_out u x xs none) in omega arith
      | inr le ↦ elim (cases_lt u x) [
        | inl lt ↦ let r = above_all n x xs e in omega arith
        | inr ge ↦ let same : u ≡ x = omega arith in absurd (not_both (is_in (x ∷ xs) x) (rw own refl) (subst (λ (k : ℕ). is_in (x ∷ xs) k ≡ false) same none))
      ]
    ]
  where
    rest : (x : ℕ) (xs : List ℕ) → in_order (is_below n) comes_before (x ∷ xs) ≡ true → in_order (is_below n) comes_before xs ≡ true
    rest x xs e = (and_parts (nat_lt x n && leads comes_before x xs) (in_order (is_below n) comes_before xs) e).1

    tail_out : (u x : ℕ) (xs : List ℕ) → is_in (x ∷ xs) u ≡ false → is_in xs u ≡ false
    tail_out u x xs none = false_from_ne_true (is_in xs u) (λ h. not_both (is_in (x ∷ xs) u) (or_right (nat_eq u x) (is_in xs u) h) none)

    rises : (x : ℕ) (xs : List ℕ) → in_order (is_below n) comes_before (x ∷ xs) ≡ true → (y : ℕ) → is_in xs y ≡ true → x < y
    rises x [] e y m = absurd cc
    rises x (z ∷ zs) e y m =
        let g = and_parts (nat_lt x n && nat_lt x z) (in_order (is_below n) comes_before (z ∷ zs)) e in
        let h = and_parts (nat_lt x n) (nat_lt x z) g.0 in
        let lt : x < z = grind (arith, nat_tests, h.1) in
        elim (or_cases (nat_eq y z) (is_in zs y) m) [
          | inl t ↦ let same : y ≡ z = grind (arith, nat_tests, t) in omega arith
          | inr t ↦ let k = rises z zs g.1 y t in omega arith
        ]

pub in_below : (n : ℕ) (xs : List ℕ) → in_order (is_below n) comes_before xs ≡ true → (x : ℕ) → is_in xs x ≡ true → x < n
in_below n [] e x m = absurd cc
in_below n (y ∷ ys) e x m =
    let g = and_parts (nat_lt y n && leads comes_before y ys) (in_order (is_below n) comes_before ys) e in
    let h = and_parts (nat_lt y n) (leads comes_before y ys) g.0 in
    elim (or_cases (nat_eq x y) (is_in ys x) m) [
      | inl t ↦ grind (arith, nat_tests, t, h.0)
      | inr t ↦ in_below n ys g.1 x t
    ]

in_some : (xs : List ℕ) (x : ℕ) → is_in xs x ≡ true → 0 < length xs
in_some [] x m = absurd cc
in_some (y ∷ ys) x m = omega arith

-- one step of a walk
pub one_step : (n : ℕ) (f : ℕ → ℕ → Bool) (a b : ℕ) → b < n → touches f a b ≡ true → AreJoined n f a b
one_step n f a b lt e = (b ∷ [], (lt, e, refl))

module _ (p : Plan) (h : IsPlan p) where
  pub domino : (axis : Axis) (a b : ℕ) → dominoes p axis a b ≡ true → (a < tiles_of p) × (b < tiles_of p) × (matches p.fine.tiles axis a b ≡ true)
  domino axis a b e = matched p.fine.tiles axis a b p.radius ((h.tells axis a b).0 e)

  -- two tiles of the class are no domino of the axis
  pub no_two : (a b : ℕ) → dominoes p p.axis a b ≡ true → not (is_in p.class a && is_in p.class b) ≡ true
  no_two a b e = go (is_in p.class a) (is_in p.class b) refl refl
    where
      go : (x y : Bool) → is_in p.class a ≡ x → is_in p.class b ≡ y → not (x && y) ≡ true
      go true true s t = absurd (not_both (dominoes p p.axis a b) e (h.kept.apart a b s t))
      go true false s t = refl
      go false y s t = refl

  agrees : (x y : Bool) → x ≡ y → agree x y ≡ true
  agrees true y e = sym e
  agrees false true e = absurd cc
  agrees false false e = refl

  -- a domino of the other axis is in the class or outside
  pub both_or_none : (a b : ℕ) → dominoes p (other p.axis) a b ≡ true → agree (is_in p.class a) (is_in p.class b) ≡ true
  both_or_none a b e =
      let d = domino (other p.axis) a b e in
      let f = dominoes p (other p.axis) in
      agrees (is_in p.class a) (is_in p.class b)
      (both_ways (is_in p.class a) (is_in p.class b)
      (λ m. (h.kept.whole a b m d.1).1 (one_step (tiles_of p) f a b d.1 (or_left (f a b) (f b a) e)))
      (λ m. (h.kept.whole b a m d.0).1 (one_step (tiles_of p) f b a d.0 (or_right (f b a) (f a b) e))))

  pub some_marker : 0 < length p.class
  some_marker = in_some p.class h.kept.entered.1 h.kept.entered.4

  pub some_other : length p.class < tiles_of p
  some_other = let w = h.kept.entered in let r = room (tiles_of p) 0 w.0 p.class h.kept.ascending (λ x m. omega arith) (omega arith) w.2 w.3 in omega arith
