-- A list without a fault is a renaming, and a renaming has no fault.
use Rattle.std.proofs.Common.{arith, ◌≡◌, ◌<◌, ◌≤◌, ◌+◌, ℕ, zero, suc, List, [], ◌∷◌, length, take, get_or, slice_index, Option, None, Some, Bool, true, false, ◌&&◌, ◌||◌, not, nat_eq, nat_lt, if◌then◌else◌, refl, sym, ◌∙◌, ap, inl, inr}
use Rattle.wt_grid.proofs.Order.{agreed, agrees}
use Rattle.std.specs.List.{list_any}
use Rattle.std.proofs.lemmas.Bool.{cases_lt, and_parts, not-true, and_from}
use Rattle.std.proofs.lemmas.Bool.Decides.{nat_tests}
use Rattle.wt_tile.specs.declared.tile.Tile.{Tile}
use Rattle.wt_tile.specs.Matching.{tile_at}
use Rattle.wt_grid.specs.First.{first_from}
use Rattle.wt_grid.proofs.First.{none_from}
use Rattle.wt_bijection.specs.Renaming.{all_from, pairs_up, tiles_pair_up, colours_fit_at, colours_fit, partner_fits, wrong_at, first_wrong, renaming_fault}
use Rattle.wt_bijection.specs.Carried.{CarriesColours, IsRenaming}
use Rattle.wt_bijection.proofs.Lengths.{no_fault}
use Rattle.wt_bijection.proofs.Onto.{onto}
use Rattle.wt_bijection.proofs.Colours.{stands, first_is, second_is}

-- Booleans.

pub equal_test : (a b : ℕ) → a ≡ b → nat_eq a b ≡ true
equal_test a b e = grind (arith, nat_tests, e)

pub test_equal : (a b : ℕ) → nat_eq a b ≡ true → a ≡ b
test_equal a b e = grind (arith, nat_tests, e)

-- What pairs up: equal colours have equal partners, and the other way round.

up : (a b c d : ℕ) → pairs_up a b c d ≡ true → a ≡ b → c ≡ d
up a b c d h e = test_equal c d (sym (agreed (nat_eq a b) (nat_eq c d) h) ∙ equal_test a b e)

down : (a b c d : ℕ) → pairs_up a b c d ≡ true → c ≡ d → a ≡ b
down a b c d h e = test_equal a b (agreed (nat_eq a b) (nat_eq c d) h ∙ equal_test c d e)

pair_up : (a b c d : ℕ) → (a ≡ b → c ≡ d) → (c ≡ d → a ≡ b) → pairs_up a b c d ≡ true
pair_up a b c d there back = agrees (nat_eq a b) (nat_eq c d) (go (nat_eq a b) (nat_eq c d) refl refl)
  where
    go : (x y : Bool) → nat_eq a b ≡ x → nat_eq c d ≡ y → nat_eq a b ≡ nat_eq c d
    go true true s t = s ∙ sym t
    go true false s t = let e : c ≡ d = there (test_equal a b s) in absurd (let f = equal_test c d e in cc)
    go false true s t = let e : a ≡ b = back (test_equal c d t) in absurd (let f = equal_test a b e in cc)
    go false false s t = s ∙ sym t

record PairUp (t u v w : Tile) : Type 0 where
  ee : pairs_up t.east u.east v.east w.east ≡ true
  ew : pairs_up t.east u.west v.east w.west ≡ true
  we : pairs_up t.west u.east v.west w.east ≡ true
  ww : pairs_up t.west u.west v.west w.west ≡ true
  nn : pairs_up t.north u.north v.north w.north ≡ true
  ns : pairs_up t.north u.south v.north w.south ≡ true
  sn : pairs_up t.south u.north v.south w.north ≡ true
  ss : pairs_up t.south u.south v.south w.south ≡ true

eight : (a b c d e f g h : Bool) → (a && b && c && d && e && f && g && h) ≡ true
    → (a ≡ true) × (b ≡ true) × (c ≡ true) × (d ≡ true) × (e ≡ true) × (f ≡ true) × (g ≡ true) × (h ≡ true)
eight a b c d e f g h s =
    let p = and_parts (a && b && c && d && e && f && g) h s in
    let q = and_parts (a && b && c && d && e && f) g p.0 in
    let r = and_parts (a && b && c && d && e) f q.0 in
    let t = and_parts (a && b && c && d) e r.0 in
    let u = and_parts (a && b && c) d t.0 in
    let v = and_parts (a && b) c u.0 in
    let w = and_parts a b v.0 in
    (w.0, w.1, v.1, u.1, t.1, r.1, q.1, p.1)

paired : (t u v w : Tile) → tiles_pair_up t u v w ≡ true → PairUp t u v w
paired t u v w s =
    let e = eight (pairs_up t.east u.east v.east w.east) (pairs_up t.east u.west v.east w.west) (pairs_up t.west u.east v.west w.east) (pairs_up t.west u.west v.west w.west)
    (pairs_up t.north u.north v.north w.north) (pairs_up t.north u.south v.north w.south) (pairs_up t.south u.north v.south w.north) (pairs_up t.south u.south v.south w.south) s in
    record { ee = e.0; ew = e.1; we = e.2; ww = e.3; nn = e.4; ns = e.5; sn = e.6; ss = e.7 }

unpaired : (t u v w : Tile) → PairUp t u v w → tiles_pair_up t u v w ≡ true
unpaired t u v w h = rw (h.ee, h.ew, h.we, h.ww, h.nn, h.ns, h.sn, h.ss) refl

all_at : (p : ℕ → Bool) (i n k : ℕ) → all_from p i n ≡ true → i ≤ k → k < i + n → p k ≡ true
all_at p i zero k e low high = absurd (omega arith)
all_at p i (suc n) k e low high =
    let b = and_parts (p i) (all_from p (i + 1) n) e in
    elim (cases_lt i k) [
      | inl lt ↦ all_at p (i + 1) n k b.1 (omega arith) (omega arith)
      | inr le ↦ let same : k ≡ i = omega arith in rw same b.0
    ]

at_all : (p : ℕ → Bool) (i n : ℕ) → ((k : ℕ) → i ≤ k → k < i + n → p k ≡ true) → all_from p i n ≡ true
at_all p i zero h = refl
at_all p i (suc n) h = and_from (p i) (all_from p (i + 1) n) (h i (omega arith) (omega arith)) (at_all p (i + 1) n (λ k lo hi. h k (omega arith) (omega arith)))

-- Numbers that came before.

came : (xs : List ℕ) (i j a : ℕ) → i < j → i < length xs → get_or xs i 0 ≡ a → list_any (nat_eq a) (take j xs) ≡ true
came [] i j a lt l e = absurd (omega arith)
came (x ∷ xs) i zero a lt l e = absurd (omega arith)
came (x ∷ xs) zero (suc j) a lt l e = let same : nat_eq a x ≡ true = equal_test a x (sym e) in rw same refl
came (x ∷ xs) (suc i) (suc j) a lt l e = right (nat_eq a x) (list_any (nat_eq a) (take j xs)) (came xs i j a (omega arith) (omega arith) e)
  where
    right : (b c : Bool) → c ≡ true → (b || c) ≡ true
    right true c h = refl
    right false c h = h

before : (xs : List ℕ) (j a : ℕ) → j ≤ length xs → list_any (nat_eq a) (take j xs) ≡ true → (i : ℕ) × (i < j) × (get_or xs i 0 ≡ a)
before [] j a le h = absurd (cc (let zero_is : j ≡ 0 = omega arith in rw zero_is at h))
before (x ∷ xs) zero a le h = absurd (cc h)
before (x ∷ xs) (suc j) a le h = go (nat_eq a x) refl (λ r. before xs j a (omega arith) r)
  where
    go : (b : Bool) → nat_eq a x ≡ b → (list_any (nat_eq a) (take j xs) ≡ true → (i : ℕ) × (i < j) × (get_or xs i 0 ≡ a)) → (i : ℕ) × (i < suc j) × (get_or (x ∷ xs) i 0 ≡ a)
    go true s r = (0, omega arith, sym (test_equal a x s))
    go false s r = let q = r (rw s at h) in (suc q.0, omega (arith, q.1), q.2)

-- From no fault to a renaming.

record Fits (from to : List Tile) (list : List ℕ) (i : ℕ) : Type 0 where
  inside : slice_index list i < length to
  fresh : list_any (nat_eq (slice_index list i)) (take i list) ≡ false
  colours : (j : ℕ) → j ≤ i → PairUp (tile_at from j) (tile_at from i) (tile_at to (slice_index list j)) (tile_at to (slice_index list i))

fits : (from to : List Tile) (list : List ℕ) (i : ℕ) → partner_fits from to list i ≡ true → Fits from to list i
fits from to list i e =
    let b = and_parts (nat_lt (slice_index list i) (length to) && not (list_any (nat_eq (slice_index list i)) (take i list))) (colours_fit from to list i) e in
    let c = and_parts (nat_lt (slice_index list i) (length to)) (not (list_any (nat_eq (slice_index list i)) (take i list))) b.0 in
    record {
      inside = grind (arith, nat_tests, c.0);
      fresh = not-true (list_any (nat_eq (slice_index list i)) (take i list)) c.1;
      colours = λ j le. paired (tile_at from j) (tile_at from i) (tile_at to (slice_index list j)) (tile_at to (slice_index list i))
          (all_at (colours_fit_at from to list i) 0 (i + 1) j b.1 (omega arith) (omega arith));
    }

unwrong : (b : Bool) (i : ℕ) → (if b then None else Some i) ≡ None → b ≡ true
unwrong true i e = refl
unwrong false i e = absurd (cc e)

all_fit : (from to : List Tile) (list : List ℕ) → first_wrong from to list ≡ None → (i : ℕ) → i < length from → Fits from to list i
all_fit from to list e i lt =
    fits from to list i (unwrong (partner_fits from to list i) i (none_from (wrong_at from to list) 0 (length from) i e (omega arith) (omega arith)))

-- two tiles and their partners, whichever comes first
pairs : (from to : List Tile) (list : List ℕ) → ((i : ℕ) → i < length from → Fits from to list i) → (i j : ℕ) → i < length from → j < length from
    → PairUp (tile_at from i) (tile_at from j) (tile_at to (slice_index list i)) (tile_at to (slice_index list j))
pairs from to list h i j li lj = elim (cases_lt j i) [
  | inl lt ↦ turned (tile_at from j) (tile_at from i) (tile_at to (slice_index list j)) (tile_at to (slice_index list i)) ((h i li).colours j (omega arith))
  | inr le ↦ (h j lj).colours i le
]
  where
    turn : (a b c d : ℕ) → pairs_up a b c d ≡ true → pairs_up b a d c ≡ true
    turn a b c d e = pair_up b a d c (λ s. sym (up a b c d e (sym s))) (λ s. sym (down a b c d e (sym s)))

    turned : (t u v w : Tile) → PairUp t u v w → PairUp u t w v
    turned t u v w p = record {
      ee = turn t.east u.east v.east w.east p.ee;
      ew = turn t.west u.east v.west w.east p.we;
      we = turn t.east u.west v.east w.west p.ew;
      ww = turn t.west u.west v.west w.west p.ww;
      nn = turn t.north u.north v.north w.north p.nn;
      ns = turn t.south u.north v.south w.north p.sn;
      sn = turn t.north u.south v.north w.south p.ns;
      ss = turn t.south u.south v.south w.south p.ss;
    }

module _ (f g : Tile → ℕ) (from to : List Tile) (list : List ℕ)
    (ff : (i j : ℕ) → i < length from → j < length from → pairs_up (f (tile_at from i)) (f (tile_at from j)) (f (tile_at to (slice_index list i))) (f (tile_at to (slice_index list j))) ≡ true)
    (fg : (i j : ℕ) → i < length from → j < length from → pairs_up (f (tile_at from i)) (g (tile_at from j)) (f (tile_at to (slice_index list i))) (g (tile_at to (slice_index list j))) ≡ true)
    (gg : (i j : ℕ) → i < length from → j < length from → pairs_up (g (tile_at from i)) (g (tile_at from j)) (g (tile_at to (slice_index list i))) (g (tile_at to (slice_index list j))) ≡ true) where
  carried : CarriesColours f g from to list
  carried =
      let p : ℕ → ℕ = λ i. f (tile_at from i) in
      let q : ℕ → ℕ = λ i. g (tile_at from i) in
      let p' : ℕ → ℕ = λ i. f (tile_at to (slice_index list i)) in
      let q' : ℕ → ℕ = λ i. g (tile_at to (slice_index list i)) in
      let n = length from in
      record {
        image = stands n p q p' q';
        origin = stands n p' q' p q;
        first = λ i lt. sym (first_is n p q p' q' (λ j k lj lk. up (p j) (p k) (p' j) (p' k) (ff j k lj lk)) (λ j k lj lk. up (p j) (q k) (p' j) (q' k) (fg j k lj lk)) (λ j k lj lk. up (q j) (q k) (q' j) (q' k) (gg j k lj lk)) i lt);
        second = λ i lt. sym (second_is n p q p' q' (λ j k lj lk. up (p j) (p k) (p' j) (p' k) (ff j k lj lk)) (λ j k lj lk. up (p j) (q k) (p' j) (q' k) (fg j k lj lk)) (λ j k lj lk. up (q j) (q k) (q' j) (q' k) (gg j k lj lk)) i lt);
        first_back = λ i lt. first_is n p' q' p q (λ j k lj lk. down (p j) (p k) (p' j) (p' k) (ff j k lj lk)) (λ j k lj lk. down (p j) (q k) (p' j) (q' k) (fg j k lj lk)) (λ j k lj lk. down (q j) (q k) (q' j) (q' k) (gg j k lj lk)) i lt;
        second_back = λ i lt. second_is n p' q' p q (λ j k lj lk. down (p j) (p k) (p' j) (p' k) (ff j k lj lk)) (λ j k lj lk. down (p j) (q k) (p' j) (q' k) (fg j k lj lk)) (λ j k lj lk. down (q j) (q k) (q' j) (q' k) (gg j k lj lk)) i lt;
      }

apart_by : (from to : List Tile) (list : List ℕ) → length from ≡ length list → ((i : ℕ) → i < length from → Fits from to list i)
    → (i j : ℕ) → i < length from → j < length from → slice_index list i ≡ slice_index list j → i ≡ j
apart_by from to list whole h i j li lj e = elim (cases_lt i j) [
  | inl lt ↦ absurd (clash (came list i j (slice_index list j) lt (omega arith) e) (h j lj).fresh)
  | inr le ↦ elim (cases_lt j i) [
    | inl lt ↦ absurd (clash (came list j i (slice_index list i) lt (omega arith) (sym e)) (h i li).fresh)
    | inr ge ↦ omega arith
  ]
]
  where
    clash : {b : Bool} → b ≡ true → b ≡ false → ⊥
    clash e f = cc

-- a list without a fault is a renaming
pub renaming : (from to : List Tile) (list : List ℕ) → renaming_fault from to list ≡ None → IsRenaming from to list
renaming from to list e =
    let whole = no_fault from to list e in
    let h = all_fit from to list whole.2 in
    let p = pairs from to list h in
    let apart = apart_by from to list whole.1 h in
    record {
      whole = sym whole.1;
      alike = sym whole.0;
      inside = λ i lt. (h i lt).inside;
      apart = apart;
      onto = λ t lt. let o = onto list (λ k l. let i = (h k (omega arith)).inside in omega arith) (λ i j li lj s. apart i j (omega arith) (omega arith) s) t (omega arith) in (o.0, omega (arith, o.1), o.2);
      colours1 = carried (λ t. t.east) (λ t. t.west) from to list (λ i j li lj. (p i j li lj).ee) (λ i j li lj. (p i j li lj).ew) (λ i j li lj. (p i j li lj).ww);
      colours2 = carried (λ t. t.north) (λ t. t.south) from to list (λ i j li lj. (p i j li lj).nn) (λ i j li lj. (p i j li lj).ns) (λ i j li lj. (p i j li lj).ss);
    }

-- From a renaming to no fault.

pub carry_ff : (f g : Tile → ℕ) (from to : List Tile) (list : List ℕ) → CarriesColours f g from to list → (i j : ℕ) → i < length from → j < length from
    → pairs_up (f (tile_at from i)) (f (tile_at from j)) (f (tile_at to (slice_index list i))) (f (tile_at to (slice_index list j))) ≡ true
carry_ff f g from to list c i j li lj = pair_up _ _ _ _
    (λ e. c.first i li ∙ (ap c.image e ∙ sym (c.first j lj)))
    (λ e. sym (c.first_back i li) ∙ (ap c.origin e ∙ c.first_back j lj))

pub carry_fg : (f g : Tile → ℕ) (from to : List Tile) (list : List ℕ) → CarriesColours f g from to list → (i j : ℕ) → i < length from → j < length from
    → pairs_up (f (tile_at from i)) (g (tile_at from j)) (f (tile_at to (slice_index list i))) (g (tile_at to (slice_index list j))) ≡ true
carry_fg f g from to list c i j li lj = pair_up _ _ _ _
    (λ e. c.first i li ∙ (ap c.image e ∙ sym (c.second j lj)))
    (λ e. sym (c.first_back i li) ∙ (ap c.origin e ∙ c.second_back j lj))

pub flipped : (f g : Tile → ℕ) (from to : List Tile) (list : List ℕ) → CarriesColours f g from to list → CarriesColours g f from to list
flipped f g from to list c =
    record { image = c.image; origin = c.origin; first = c.second; second = c.first; first_back = c.second_back; second_back = c.first_back }

pair_of_tiles : (from to : List Tile) (list : List ℕ) → IsRenaming from to list → (i j : ℕ) → i < length from → j < length from
    → PairUp (tile_at from i) (tile_at from j) (tile_at to (slice_index list i)) (tile_at to (slice_index list j))
pair_of_tiles from to list r i j li lj =
    let one = r.colours1 in
    let two = r.colours2 in
    let one' = flipped (λ t. t.east) (λ t. t.west) from to list one in
    let two' = flipped (λ t. t.north) (λ t. t.south) from to list two in
    record {
      ee = carry_ff (λ t. t.east) (λ t. t.west) from to list one i j li lj;
      ew = carry_fg (λ t. t.east) (λ t. t.west) from to list one i j li lj;
      we = carry_fg (λ t. t.west) (λ t. t.east) from to list one' i j li lj;
      ww = carry_ff (λ t. t.west) (λ t. t.east) from to list one' i j li lj;
      nn = carry_ff (λ t. t.north) (λ t. t.south) from to list two i j li lj;
      ns = carry_fg (λ t. t.north) (λ t. t.south) from to list two i j li lj;
      sn = carry_fg (λ t. t.south) (λ t. t.north) from to list two' i j li lj;
      ss = carry_ff (λ t. t.south) (λ t. t.north) from to list two' i j li lj;
    }

none_wrong : (f : ℕ → Option ℕ) (i k : ℕ) → ((j : ℕ) → i ≤ j → j < i + k → f j ≡ None) → first_from f i k ≡ None
none_wrong f i zero h = refl
none_wrong f i (suc k) h = rw (h i (omega arith) (omega arith)) (none_wrong f (i + 1) k (λ j lo hi. h j (omega arith) (omega arith)))

fresh_by : (from to : List Tile) (list : List ℕ) → IsRenaming from to list → (i : ℕ) → i < length from → list_any (nat_eq (slice_index list i)) (take i list) ≡ false
fresh_by from to list r i lt = go (list_any (nat_eq (slice_index list i)) (take i list)) refl
  where
    go : (b : Bool) → list_any (nat_eq (slice_index list i)) (take i list) ≡ b → b ≡ false
    go false e = refl
    go true e =
        let w = r.whole in
        let s = before list i (slice_index list i) (omega arith) e in
        let same : s.0 ≡ i = r.apart s.0 i (omega (arith, s.1)) lt s.2 in
        absurd (omega (arith, s.1))

right_at : (from to : List Tile) (list : List ℕ) → IsRenaming from to list → (i : ℕ) → i < length from → wrong_at from to list i ≡ None
right_at from to list r i lt =
    let inside : nat_lt (slice_index list i) (length to) ≡ true = let l = r.inside i lt in grind (arith, nat_tests, l) in
    let fresh : not (list_any (nat_eq (slice_index list i)) (take i list)) ≡ true = rw (fresh_by from to list r i lt) refl in
    let colours : colours_fit from to list i ≡ true = at_all (colours_fit_at from to list i) 0 (i + 1)
    (λ j lo hi. unpaired (tile_at from j) (tile_at from i) (tile_at to (slice_index list j)) (tile_at to (slice_index list i)) (pair_of_tiles from to list r j i (omega arith) lt)) in
    let all : partner_fits from to list i ≡ true =
    and_from (nat_lt (slice_index list i) (length to) && not (list_any (nat_eq (slice_index list i)) (take i list))) (colours_fit from to list i)
    (and_from (nat_lt (slice_index list i) (length to)) (not (list_any (nat_eq (slice_index list i)) (take i list))) inside fresh) colours in
    rw all refl

-- a renaming has no fault
pub right : (from to : List Tile) (list : List ℕ) → IsRenaming from to list → renaming_fault from to list ≡ None
unfolding renaming_fault
right from to list r =
    let w = r.whole in
    let l = r.alike in
    let a : nat_eq (length from) (length to) ≡ true = grind (arith, nat_tests) in
    let b : nat_eq (length from) (length list) ≡ true = grind (arith, nat_tests) in
    rw (a, b) (none_wrong (wrong_at from to list) 0 (length from) (λ i lo hi. right_at from to list r i (omega arith)))
