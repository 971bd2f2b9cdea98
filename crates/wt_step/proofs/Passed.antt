-- What a walk along a list in strict order sees of it at its place.
use Rattle.std.proofs.Common.{arith, ◌≡◌, ◌<◌, ◌≤◌, ◌+◌, ◌-◌, ℕ, zero, suc, List, [], ◌∷◌, length, get_or, Bool, true, false, ◌&&◌, ◌||◌, nat_eq, nat_lt, nat_le, if◌then◌else◌, Some, None, is_some, refl, sym, ◌∙◌, ap, inl, inr}
use Rattle.std.proofs.lemmas.Bool.{and_parts}
use Rattle.std.specs.List.{list_any, find}
use Rattle.wt_grid.specs.Axes.{axis_number}
use Rattle.wt_grid.specs.declared.axis.Axis.{Axis}
use Rattle.std.proofs.lemmas.Bool.Decides.{nat_tests}
use Rattle.wt_grid.specs.Order.{in_order, leads, AllAbove, IsSplit}
use Rattle.wt_grid.specs.Pairs.{pair_before, is_this_pair}
use Rattle.wt_grid.proofs.Keys.{first_by, by_cases, by_less}
use Rattle.wt_grid.proofs.Order.{has_found, above_none}
use Rattle.wt_refute.specs.declared.tree.Refuted.{Refuted}
use Rattle.wt_refute.specs.Entries.{entry_before, is_entry, entries_follow}
use Rattle.wt_refute.proofs.Entries.{entries_split}
use Rattle.wt_step.specs.declared.raw.RawStep.{RawStep}
use Rattle.wt_step.specs.declared.walk.Places.{Places}
use Rattle.wt_step.specs.Words.{entry_fits, entry_at}
use Rattle.wt_step.specs.Faults.{IsShaped}
use Rattle.wt_step.specs.Walk.{passed, refuted_place, IsAtPlace, IsBehind}
use Rattle.wt_step.proofs.Shaped.{refuted_ascend}

-- Lists that are split at a key.

module _ {A : Type 0} (low hit : A → Bool) where
  -- the element at the place is the one that has the key, or none is
  pub hit_at : (xs : List A) (d : A) → IsSplit low hit xs → passed low xs < length xs
      → find hit xs ≡ (if hit (get_or xs (passed low xs) d) then Some (get_or xs (passed low xs) d) else None)
  hit_at [] d s lt = absurd (omega arith)
  hit_at (x ∷ xs) d s lt = elim s [
    | inl l ↦ rw (l.0, l.1) (hit_at xs d l.2 (let h = rw l.0 at lt in omega arith))
    | inr r ↦ rw r.0 (at_first (hit x) refl (above_none low hit xs r.1))
  ]
    where
      at_first : (b : Bool) → hit x ≡ b → find hit xs ≡ None → find hit (x ∷ xs) ≡ (if hit x then Some x else None)
      at_first true e n = rw e refl
      at_first false e n = rw e n

  -- none has the key where the place is the end
  pub miss_at : (xs : List A) → IsSplit low hit xs → length xs ≤ passed low xs → find hit xs ≡ None
  miss_at [] s le = refl
  miss_at (x ∷ xs) s le = elim s [
    | inl l ↦ rw l.1 (miss_at xs l.2 (let h = rw l.0 at le in omega arith))
    | inr r ↦ absurd (let h = rw r.0 at le in omega arith)
  ]

  some_if : (b : Bool) (x : A) → is_some (if b then Some x else None) ≡ b
  some_if true x = refl
  some_if false x = refl

  pub has_at : (xs : List A) (d : A) → IsSplit low hit xs → passed low xs < length xs → list_any hit xs ≡ hit (get_or xs (passed low xs) d)
  has_at xs d s lt = has_found hit xs ∙ (ap is_some (hit_at xs d s lt) ∙ some_if (hit (get_or xs (passed low xs) d)) _)

  -- where one has the key, the place is within the list
  pub hit_within : (xs : List A) → IsSplit low hit xs → list_any hit xs ≡ true → passed low xs < length xs
  hit_within [] s e = absurd cc
  hit_within (x ∷ xs) s e = elim s [
    | inl l ↦ let r = hit_within xs l.2 (rw l.1 at e) in rw l.0 (omega arith)
    | inr r ↦ rw r.0 (omega arith)
  ]

  pub found_at : (xs : List A) (d : A) → IsSplit low hit xs → list_any hit xs ≡ true → find hit xs ≡ Some (get_or xs (passed low xs) d)
  found_at xs d s e =
      let lt = hit_within xs s e in
      let h : hit (get_or xs (passed low xs) d) ≡ true = sym (has_at xs d s lt) ∙ e in
      hit_at xs d s lt ∙ rw h refl

  above_has : (xs : List A) → AllAbove low hit xs → list_any hit xs ≡ false
  above_has [] h = refl
  above_has (x ∷ xs) h = rw h.1 (above_has xs h.2)

  module _ (next : A → Bool) (after : (x : A) → next x ≡ (low x || hit x)) where
    above_next : (xs : List A) → AllAbove low hit xs → passed next xs ≡ 0
    above_next [] h = refl
    above_next (x ∷ xs) h = let e : next x ≡ false = after x ∙ rw (h.0, h.1) refl in rw e refl

    more : (b : Bool) (n : ℕ) → suc (if b then suc n else n) ≡ (if b then suc (suc n) else suc n)
    more true n = refl
    more false n = refl

    -- the place at the next key is one further where an element has this one
    pub passed_next : (xs : List A) → IsSplit low hit xs → passed next xs ≡ (if list_any hit xs then suc (passed low xs) else passed low xs)
    passed_next [] s = refl
    passed_next (x ∷ xs) s = elim s [
      | inl l ↦
          let e : next x ≡ true = after x ∙ rw l.0 refl in
          rw (e, l.0, l.1) (ap suc (passed_next xs l.2) ∙ more (list_any hit xs) (passed low xs))
      | inr r ↦ at_first (hit x) refl r.0 (above_has xs r.1) (above_next xs r.1)
    ]
      where
        at_first : (b : Bool) → hit x ≡ b → low x ≡ false → list_any hit xs ≡ false → passed next xs ≡ 0
            → passed next (x ∷ xs) ≡ (if list_any hit (x ∷ xs) then suc (passed low (x ∷ xs)) else passed low (x ∷ xs))
        at_first true h l m n = let e : next x ≡ true = after x ∙ rw (l, h) refl in rw (e, h, l, n) refl
        at_first false h l m n = let e : next x ≡ false = after x ∙ rw (l, h) refl in rw (e, h, l, m) refl

-- Before the place, code climbs from element to element.

module _ {A : Type 0} (low : A → Bool) where
  climbs : (xs : List A) (k : ℕ) (d : A) → k ≤ passed low xs → k < length xs → low (get_or xs k d) ≡ true → k + 1 ≤ passed low xs
  climbs [] k d le lt e = absurd (omega arith)
  climbs (x ∷ xs) zero d le lt e = rw e (omega arith)
  climbs (x ∷ xs) (suc k) d le lt e = at_first (low x) refl (λ under. climbs xs k d under (omega arith) e)
    where
      at_first : (b : Bool) → low x ≡ b → (k ≤ passed low xs → k + 1 ≤ passed low xs) → suc k + 1 ≤ passed low (x ∷ xs)
      at_first true h r = let under : k ≤ passed low xs = (let g = rw h at le in omega arith) in let up = r under in rw h (omega arith)
      at_first false h r = absurd (let g = rw h at le in omega arith)

  stops : (xs : List A) (k : ℕ) (d : A) → k ≤ passed low xs → k < length xs → low (get_or xs k d) ≡ false → k ≡ passed low xs
  stops [] k d le lt e = absurd (omega arith)
  stops (x ∷ xs) zero d le lt e = rw e refl
  stops (x ∷ xs) (suc k) d le lt e = at_first (low x) refl (λ under. stops xs k d under (omega arith) e)
    where
      at_first : (b : Bool) → low x ≡ b → (k ≤ passed low xs → k ≡ passed low xs) → suc k ≡ passed low (x ∷ xs)
      at_first true h r = rw h (ap suc (r (let g = rw h at le in omega arith)))
      at_first false h r = absurd (let g = rw h at le in omega arith)

  passed_most : (xs : List A) → passed low xs ≤ length xs
  passed_most [] = omega arith
  passed_most (x ∷ xs) = at_first (low x) refl (passed_most xs)
    where
      at_first : (b : Bool) → low x ≡ b → passed low xs ≤ length xs → passed low (x ∷ xs) ≤ length (x ∷ xs)
      at_first true h le = rw h (omega arith)
      at_first false h le = rw h (omega arith)

  pub ends : (xs : List A) (k : ℕ) → k ≤ passed low xs → length xs ≤ k → k ≡ passed low xs
  ends xs k le end = omega (arith, passed_most xs)

  module _ (xs ys : List A) (k : ℕ) (d : A) (same : ys ≡ xs) (le : k ≤ passed low xs) where
    seen : d ≡ get_or ys k d → (b : Bool) → low d ≡ b → low (get_or xs k d) ≡ b
    seen i b e = ap low (sym (rw same at i)) ∙ e

    pub climbs_at : k < length ys → d ≡ get_or ys k d → low d ≡ true → k + 1 ≤ passed low xs
    climbs_at lt i e = climbs xs k d le (rw same at lt) (seen i true e)

    pub stops_at : k < length ys → d ≡ get_or ys k d → low d ≡ false → k ≡ passed low xs
    stops_at lt i e = stops xs k d le (rw same at lt) (seen i false e)

  -- a key behind has its place no earlier
  pub rises : (other : A → Bool) → ((x : A) → low x ≡ true → other x ≡ true) → (xs : List A) → passed low xs ≤ passed other xs
  rises other up [] = omega arith
  rises other up (x ∷ xs) = at_first (low x) refl (rises other up xs)
    where
      at_first : (b : Bool) → low x ≡ b → passed low xs ≤ passed other xs → passed low (x ∷ xs) ≤ passed other (x ∷ xs)
      at_first true h le = rw (h, up x h) (omega arith)
      at_first false h le = rw h (omega arith)

-- keys that the elements of a list can't tell apart have one place
pub passed_same : {A : Type 0} (low other fits : A → Bool) (before : A → A → Bool) → ((x : A) → fits x ≡ true → low x ≡ other x)
    → (xs : List A) → in_order fits before xs ≡ true → passed low xs ≡ passed other xs
passed_same low other fits before same [] o = refl
passed_same low other fits before same (x ∷ xs) o =
    let p = and_parts (fits x && leads before x xs) (in_order fits before xs) o in
    let q = and_parts (fits x) (leads before x xs) p.0 in
    rw (same x q.0, passed_same low other fits before same xs p.1) refl

-- Pairs, and the entries of a radius and an axis.

spread : (l e q r : Bool) → (l || (e && (q || r))) ≡ ((l || (e && q)) || (e && r))
spread true e q r = refl
spread false true q r = refl
spread false false q r = refl

below_next : (x y : ℕ) → nat_lt x (y + 1) ≡ (nat_lt x y || nat_eq x y)
below_next x y = go (nat_lt x y) (nat_eq x y) refl refl
  where
    go : (b c : Bool) → nat_lt x y ≡ b → nat_eq x y ≡ c → nat_lt x (y + 1) ≡ (nat_lt x y || nat_eq x y)
    go true c l m = rw l (grind (arith, nat_tests, l))
    go false true l m = rw (l, m) (grind (arith, nat_tests, l, m))
    go false false l m = rw (l, m) (grind (arith, nat_tests, l, m))

pub pair_next : (a b : ℕ) (p : ℕ × ℕ) → pair_before a (b + 1) p ≡ (pair_before a b p || is_this_pair a b p)
pair_next a b p = ap (λ t. nat_lt p.0 a || (nat_eq p.0 a && t)) (below_next p.1 b) ∙ spread (nat_lt p.0 a) (nat_eq p.0 a) (nat_lt p.1 b) (nat_eq p.1 b)

pub entry_next : (radius : ℕ) (axis : Axis) (a b : ℕ) (r : Refuted) → entry_before radius axis a (b + 1) r ≡ (entry_before radius axis a b r || is_entry radius axis a b r)
entry_next radius axis a b r =
    let n = axis_number r.axis in
    let m = axis_number axis in
    let p : ℕ × ℕ = (r.a, r.b) in
    ap (λ t. nat_lt r.radius radius || (nat_eq r.radius radius && (nat_lt n m || (nat_eq n m && t)))) (pair_next a b p)
    ∙ (ap (λ t. nat_lt r.radius radius || (nat_eq r.radius radius && t)) (spread (nat_lt n m) (nat_eq n m) (pair_before a b p) (is_this_pair a b p))
    ∙ spread (nat_lt r.radius radius) (nat_eq r.radius radius) (nat_lt n m || (nat_eq n m && pair_before a b p)) (nat_eq n m && is_this_pair a b p))

ended : (l e c : Bool) → (l || (e && true)) ≡ ((l || e) || (c && false))
ended true e c = refl
ended false true c = refl
ended false false true = refl
ended false false false = refl

row_ends : (x y n a : ℕ) → nat_lt y n ≡ true → pair_before a n (x, y) ≡ pair_before (a + 1) 0 (x, y)
row_ends x y n a e =
    let none : nat_lt y 0 ≡ false = grind (arith, nat_tests) in
    rw (e, none, below_next x a) (ended (nat_lt x a) (nat_eq x a) (nat_eq x (a + 1)))

-- behind the last tile of a row comes the next row
pub entry_row : (most n radius : ℕ) (axis : Axis) (a : ℕ) (r : Refuted) → entry_fits most n r ≡ true → entry_before radius axis a n r ≡ entry_before radius axis (a + 1) 0 r
entry_row most n radius axis a r e =
    ap (λ t. nat_lt r.radius radius || (nat_eq r.radius radius && (nat_lt (axis_number r.axis) (axis_number axis) || (nat_eq (axis_number r.axis) (axis_number axis) && t))))
    (row_ends r.a r.b n a (and_parts (nat_le r.radius most && nat_lt r.a n) (nat_lt r.b n) e).1)

abbrev under_radius : Axis → Refuted → Bool
under_radius axis r = first_by (axis_number r.axis) (axis_number axis) (pair_before 0 0 (r.a, r.b))

-- the refutations of a radius come before those of the next
pub radius_rises : (radius : ℕ) (axis : Axis) (rs : List Refuted) → passed (entry_before radius axis 0 0) rs ≤ passed (entry_before (radius + 1) axis 0 0) rs
radius_rises radius axis rs = rises (entry_before radius axis 0 0) (entry_before (radius + 1) axis 0 0) up rs
  where
    up : (r : Refuted) → entry_before radius axis 0 0 r ≡ true → entry_before (radius + 1) axis 0 0 r ≡ true
    up r e = elim (by_cases r.radius radius (under_radius axis r) e) [
      | inl lt ↦ by_less r.radius (radius + 1) (under_radius axis r) (omega arith)
      | inr s ↦ by_less r.radius (radius + 1) (under_radius axis r) (let same : r.radius ≡ radius = s.0 in omega arith)
    ]

-- The lists of a step.

module _ (s : RawStep) (h : IsShaped s) (axis : Axis) (a b : ℕ) where
  pub refuted_split : (radius : ℕ) → IsSplit (entry_before radius axis a b) (is_entry radius axis a b) s.refuted
  refuted_split radius = entries_split radius axis a b s.refuted (refuted_ascend s h)

  pub refuted_next : (radius : ℕ) → refuted_place s axis a (b + 1) radius
      ≡ (if is_some (entry_at s axis a b radius) then suc (refuted_place s axis a b radius) else refuted_place s axis a b radius)
  refuted_next radius =
      let e = passed_next (entry_before radius axis a b) (is_entry radius axis a b) (entry_before radius axis a (b + 1)) (entry_next radius axis a b) s.refuted (refuted_split radius) in
      rw (has_found (is_entry radius axis a b) s.refuted) at e

  -- what code sees at the place of a refutation

  module _ (radius : ℕ) where
    pub refuted_here : (entries : List Refuted) (place : ℕ) (d : Refuted) → entries ≡ s.refuted → place ≡ refuted_place s axis a b radius → place < length entries
        → is_some (entry_at s axis a b radius) ≡ is_entry radius axis a b (get_or entries place d)
    refuted_here entries place d e p lt =
        rw (e, p) (sym (has_found (is_entry radius axis a b) s.refuted)
        ∙ has_at (entry_before radius axis a b) (is_entry radius axis a b) s.refuted d (refuted_split radius) (rw (e, p) at lt))

    pub refuted_past : (entries : List Refuted) (place : ℕ) → entries ≡ s.refuted → place ≡ refuted_place s axis a b radius → length entries ≤ place
        → is_some (entry_at s axis a b radius) ≡ false
    refuted_past entries place e p le = ap is_some (miss_at (entry_before radius axis a b) (is_entry radius axis a b) s.refuted (refuted_split radius) (rw (e, p) at le))

    is_refuted : is_some (entry_at s axis a b radius) ≡ true → list_any (is_entry radius axis a b) s.refuted ≡ true
    is_refuted e = has_found (is_entry radius axis a b) s.refuted ∙ e

    pub refuted_within : (entries : List Refuted) (place : ℕ) → entries ≡ s.refuted → place ≡ refuted_place s axis a b radius → is_some (entry_at s axis a b radius) ≡ true
        → place < length entries
    refuted_within entries place e p f = rw (e, p) (hit_within (entry_before radius axis a b) (is_entry radius axis a b) s.refuted (refuted_split radius) (is_refuted f))

    pub refuted_found : (entries : List Refuted) (place : ℕ) (d : Refuted) → entries ≡ s.refuted → place ≡ refuted_place s axis a b radius → is_some (entry_at s axis a b radius) ≡ true
        → entry_at s axis a b radius ≡ Some (get_or entries place d)
    refuted_found entries place d e p f = rw (e, p) (found_at (entry_before radius axis a b) (is_entry radius axis a b) s.refuted d (refuted_split radius) (is_refuted f))

    pub refuted_hit : (place : ℕ) → place ≡ refuted_place s axis a b radius → is_some (entry_at s axis a b radius) ≡ true → place + 1 ≡ refuted_place s axis a (b + 1) radius
    refuted_hit place p e = let n = rw e at (refuted_next radius) in omega (arith, n, p)

    pub refuted_miss : (place : ℕ) → place ≡ refuted_place s axis a b radius → is_some (entry_at s axis a b radius) ≡ false → place ≡ refuted_place s axis a (b + 1) radius
    refuted_miss place p e = let n = rw e at (refuted_next radius) in p ∙ sym n

-- the places past the last pair of a row are those of the first pair of the next
pub next_row : (s : RawStep) (axis : Axis) (a : ℕ) (places : Places) → IsShaped s → IsAtPlace s axis a (length s.fine.tiles) places → IsAtPlace s axis (a + 1) 0 places
next_row s axis a places h p =
    let n = length s.fine.tiles in
    record {
      refuted = λ radius le. p.refuted radius le ∙ passed_same (entry_before radius axis a n) (entry_before radius axis (a + 1) 0) (entry_fits s.radius n) entries_follow (entry_row s.radius n radius axis a) s.refuted h.refuted;
    }

-- the places rise with the second tile
module _ (s : RawStep) (axis : Axis) (a radius : ℕ) where
  rise : (b : ℕ) → refuted_place s axis a b radius ≤ refuted_place s axis a (b + 1) radius
  rise b = rises (entry_before radius axis a b) (entry_before radius axis a (b + 1)) (λ r e. entry_next radius axis a b r ∙ rw e refl) s.refuted

  rise_by : (n b : ℕ) → refuted_place s axis a b radius ≤ refuted_place s axis a (b + n) radius
  rise_by zero b = let e : b + 0 ≡ b = omega arith in rw e (omega arith)
  rise_by (suc n) b = let e : b + suc n ≡ b + n + 1 = omega arith in rw e (omega (arith, rise_by n b, rise (b + n)))

  pub later : (b k : ℕ) → b ≤ k → refuted_place s axis a b radius ≤ refuted_place s axis a k radius
  later b k le = let e : b + (k - b) ≡ k = omega arith in rw e at (rise_by (k - b) b)

-- the places of a pair are behind those of a later one
pub behind : (s : RawStep) (axis : Axis) (a b k : ℕ) (places : Places) → IsAtPlace s axis a b places → b ≤ k → IsBehind s axis a k places
behind s axis a b k places p le = λ radius small. rw (p.refuted radius small) (later s axis a radius b k le)
