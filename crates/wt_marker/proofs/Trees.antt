-- The refutations of a derived step: each pair that matches and is no domino has one, and its tree refutes.
use Rattle.std.proofs.Common.{arith, ◌≡◌, ℕ, ◌+◌, ◌<◌, ◌≤◌, Bool, true, false, ◌&&◌, not, nat_eq, nat_lt, nat_le, List, [], ◌∷◌, ◌++◌, length, map, Option, None, Some, is_some, if◌then◌else◌, zero, suc, refl, sym, ap, ◌∙◌}
use Rattle.std.proofs.lemmas.Bool.{and_parts, not-true}
use Rattle.std.specs.List.{list_any}
use Rattle.wt_grid.specs.Axes.{axis_number}
use Rattle.wt_grid.specs.declared.axis.Axis.TheVariants.{One, Two}
use Rattle.wt_grid.specs.declared.axis.Axis.{Axis}
use Rattle.std.proofs.lemmas.Bool.Decides.{nat_tests}
use Rattle.wt_tile.specs.declared.tile.Tile.{Tile}
use Rattle.wt_tile.specs.Matching.{matches}
use Rattle.wt_grid.specs.First.{count_from}
use Rattle.wt_grid.specs.Order.{in_order}
use Rattle.wt_grid.specs.Pairs.{pairs_follow, is_this_pair}
use Rattle.wt_pattern.specs.Windows.{IsEmptyWindow}
use Rattle.wt_refute.specs.declared.tree.Refuted.{Refuted}
use Rattle.wt_refute.specs.Entries.{is_entry, entries_follow}
use Rattle.wt_refute.specs.Refutation.{Refutation, Branches, branch, cite, no_more, more}
use Rattle.wt_refute.specs.View.{refutation}
use Rattle.wt_refute.specs.Made.{tree_of}
use Rattle.wt_refute.specs.Placed.{Placed, place, window_of, tile_in}
use Rattle.wt_refute.specs.Refutes.{Refutes, EachRefutes, is_known, next_placed, tree_fault}
use Rattle.wt_refute.specs.Standard.{standard_tree}
use Rattle.wt_refute.proofs.Faults.{no_fault, standard_right}
use Rattle.wt_refute.proofs.Made.{refutation-tree_of}
use Rattle.wt_step.specs.Words.{entry_fits}
use Rattle.wt_marker.specs.Derived.{is_refuted, refuted_pairs, entry_of, entries}
use Rattle.wt_marker.proofs.Listed.{Each, Sorted, each_map, each_imp, each_append, has_each, sorted_map, sorted_append, has_left, has_right, has_map, ordered}
use Rattle.wt_marker.proofs.Pairs.{Listed, each_listed, pairs_sorted, is_pair_same, is_listed}

-- A tree that cites nothing refutes, whatever is known.
module _ (ts : List Tile) (radius : ℕ) (known : List Refuted) where
  cites_none : (p : Placed) (cell : ℕ) (axis : Axis) (a b : Option ℕ) → is_known radius [] p cell axis a b ≡ true → ⊥
  cites_none p cell axis None b e = cc
  cites_none p cell axis (Some a) None e = cc
  cites_none p cell axis (Some a) (Some b) e = cc

  mutual
    refutes_still : (p : Placed) (tree : Refutation) → Refutes ts radius [] p tree → Refutes ts radius known p tree
    refutes_still p (branch cell bs) r = (r.0, r.1, each_still p cell bs r.2)
    refutes_still p (cite cell axis) r = absurd (cites_none p cell axis (tile_in p cell) (next_placed p cell axis) r)

    each_still : (p : Placed) (cell : ℕ) (bs : Branches) → EachRefutes ts radius [] p cell bs → EachRefutes ts radius known p cell bs
    each_still p cell no_more r = tt
    each_still p cell (more tile tree bs) r = (refutes_still (place p cell tile) tree r.0, each_still p cell bs r.1)

-- the standard tree of an empty window is right, whatever is known
pub tree_right : (ts : List Tile) (axis : Axis) (a b radius : ℕ) (known : List Refuted) → a < length ts → b < length ts → matches ts axis a b ≡ true → IsEmptyWindow ts axis a b radius
    → tree_fault ts axis a b radius known (tree_of (standard_tree ts axis a b radius [])) ≡ None
tree_right ts axis a b radius known la lb m e =
    let tree = tree_of (standard_tree ts axis a b radius []) in
    let right = standard_right ts axis a b radius [] tree la lb m e (refutation-tree_of (standard_tree ts axis a b radius [])) in
    let r = (no_fault ts axis a b radius [] tree).0 right in
    (no_fault ts axis a b radius known tree).1 (refutes_still ts radius known (window_of axis a b radius) (refutation tree) r)

pub axes_same : (a b : Axis) → nat_eq (axis_number a) (axis_number b) ≡ true → a ≡ b
axes_same One One e = refl
axes_same One Two e = absurd cc
axes_same Two One e = absurd cc
axes_same Two Two e = refl

pub own_axis : (a : Axis) → nat_eq (axis_number a) (axis_number a) ≡ true
own_axis One = refl
own_axis Two = refl

pub is_entry_same : (radius : ℕ) (axis : Axis) (a b : ℕ) (r : Refuted) → is_entry radius axis a b r ≡ true → (r.radius ≡ radius) × (r.axis ≡ axis) × (r.a ≡ a) × (r.b ≡ b)
is_entry_same radius axis a b r e =
    let p = and_parts (nat_eq r.radius radius) (nat_eq (axis_number r.axis) (axis_number axis) && is_this_pair a b (r.a, r.b)) e in
    let q = and_parts (nat_eq (axis_number r.axis) (axis_number axis)) (is_this_pair a b (r.a, r.b)) p.1 in
    let s = is_pair_same a b (r.a, r.b) q.1 in
    (grind (arith, nat_tests, p.0), axes_same r.axis axis q.0, s.0, s.1)

-- what is known of each entry
pub record IsRight (ts : List Tile) (most : ℕ) (f : Axis → ℕ → ℕ → Bool) (known : List Refuted) (r : Refuted) : Type 0 where
  pub same_radius : r.radius ≡ most
  pub first : r.a < length ts
  pub second : r.b < length ts
  pub refutes : is_refuted ts r.axis (f r.axis) r.a r.b ≡ true
  pub right : tree_fault ts r.axis r.a r.b r.radius known r.tree ≡ None

-- all refutations of both axes
abbrev pub all_entries : List Tile → ℕ → (Axis → ℕ → ℕ → Bool) → List Refuted
all_entries ts radius f = entries ts radius One (f One) ++ entries ts radius Two (f Two)

module _ (ts : List Tile) (radius : ℕ) (f : Axis → ℕ → ℕ → Bool) (never : (axis : Axis) (a b : ℕ) → f axis a b ≡ false → IsEmptyWindow ts axis a b radius) where
  one_right : (known : List Refuted) (axis : Axis) (q : ℕ × ℕ) → Listed (is_refuted ts axis (f axis)) (length ts) q → IsRight ts radius f known (entry_of ts radius axis q)
  one_right known axis q l =
      let g = and_parts (matches ts axis q.0 q.1) (not (f axis q.0 q.1)) l.passes in
      record {
        same_radius = refl;
        first = l.first;
        second = l.second;
        refutes = l.passes;
        right = tree_right ts axis q.0 q.1 radius known l.first l.second g.0 (never axis q.0 q.1 (not-true (f axis q.0 q.1) g.1));
      }

  axis_right : (known : List Refuted) (axis : Axis) → Each (IsRight ts radius f known) (entries ts radius axis (f axis))
  axis_right known axis = each_map (IsRight ts radius f known) (entry_of ts radius axis) (refuted_pairs ts axis (f axis))
      (each_imp (Listed (is_refuted ts axis (f axis)) (length ts)) (λ q. IsRight ts radius f known (entry_of ts radius axis q)) (refuted_pairs ts axis (f axis))
      (one_right known axis) (each_listed (is_refuted ts axis (f axis)) (length ts)))

  pub all_right : (known : List Refuted) → Each (IsRight ts radius f known) (all_entries ts radius f)
  all_right known = each_append (IsRight ts radius f known) (entries ts radius One (f One)) (entries ts radius Two (f Two)) (axis_right known One) (axis_right known Two)

  -- their order

  on_axis : (axis : Axis) (x y : ℕ × ℕ) → pairs_follow x y ≡ true → entries_follow (entry_of ts radius axis x) (entry_of ts radius axis y) ≡ true
  on_axis axis x y e =
      let l : nat_lt radius radius ≡ false = grind (arith, nat_tests) in
      let s : nat_eq radius radius ≡ true = grind (arith, nat_tests) in
      let m : nat_lt (axis_number axis) (axis_number axis) ≡ false = grind (arith, nat_tests) in
      rw (l, s, m, own_axis axis, e) refl

  axis_sorted : (axis : Axis) → Sorted entries_follow (entries ts radius axis (f axis))
  axis_sorted axis = sorted_map pairs_follow entries_follow (entry_of ts radius axis) (on_axis axis) (refuted_pairs ts axis (f axis)) (pairs_sorted (is_refuted ts axis (f axis)) (length ts))

  across : (x y : ℕ × ℕ) → entries_follow (entry_of ts radius One x) (entry_of ts radius Two y) ≡ true
  across x y =
      let l : nat_lt radius radius ≡ false = grind (arith, nat_tests) in
      let s : nat_eq radius radius ≡ true = grind (arith, nat_tests) in
      rw (l, s) refl

  two_behind : (x : ℕ × ℕ) (ys : List (ℕ × ℕ)) → Each (λ r. entries_follow (entry_of ts radius One x) r ≡ true) (map (entry_of ts radius Two) ys)
  two_behind x [] = tt
  two_behind x (y ∷ ys) = (across x y, two_behind x ys)

  ones_before : (xs ys : List (ℕ × ℕ)) → Each (λ r. Each (λ t. entries_follow r t ≡ true) (map (entry_of ts radius Two) ys)) (map (entry_of ts radius One) xs)
  ones_before [] ys = tt
  ones_before (x ∷ xs) ys = (two_behind x ys, ones_before xs ys)

  all_sorted : Sorted entries_follow (all_entries ts radius f)
  all_sorted = sorted_append entries_follow (entries ts radius One (f One)) (entries ts radius Two (f Two)) (axis_sorted One) (axis_sorted Two)
      (ones_before (refuted_pairs ts One (f One)) (refuted_pairs ts Two (f Two)))

  entry_right : (r : Refuted) → IsRight ts radius f [] r → entry_fits radius (length ts) r ≡ true
  entry_right r h =
      let s = h.same_radius in
      let u = h.first in
      let v = h.second in
      let k : nat_le r.radius radius ≡ true = grind (arith, nat_tests, s) in
      let l : nat_lt r.a (length ts) ≡ true = grind (arith, nat_tests) in
      let m : nat_lt r.b (length ts) ≡ true = grind (arith, nat_tests) in
      rw (k, l, m) refl

  pub entries_fit : in_order (entry_fits radius (length ts)) entries_follow (all_entries ts radius f) ≡ true
  entries_fit = ordered (entry_fits radius (length ts)) entries_follow (all_entries ts radius f)
      (each_imp (IsRight ts radius f []) (λ r. entry_fits radius (length ts) r ≡ true) (all_entries ts radius f) entry_right (all_right [])) all_sorted

  -- what they name

  -- an entry of a pair says that the pair is refuted, at this radius
  pub named : (r : ℕ) (axis : Axis) (a b : ℕ) → list_any (is_entry r axis a b) (all_entries ts radius f) ≡ true → (r ≡ radius) × (is_refuted ts axis (f axis) a b ≡ true)
  named r axis a b e =
      let x = has_each (IsRight ts radius f []) (is_entry r axis a b) (all_entries ts radius f) (all_right []) e in
      let s = is_entry_same r axis a b x.0 x.2 in
      let h = x.1 in
      (sym s.0 ∙ h.same_radius, rw (s.1, s.2, s.3) at h.refutes)

  own_entry : (axis : Axis) (a b : ℕ) (q : ℕ × ℕ) → is_this_pair a b q ≡ true → is_entry radius axis a b (entry_of ts radius axis q) ≡ true
  own_entry axis a b q e =
      let s : nat_eq radius radius ≡ true = grind (arith, nat_tests) in
      rw (s, own_axis axis, e) refl

  pub names : (axis : Axis) (a b : ℕ) → a < length ts → b < length ts → is_refuted ts axis (f axis) a b ≡ true → list_any (is_entry radius axis a b) (all_entries ts radius f) ≡ true
  names axis a b la lb e = go axis (has_map (is_this_pair a b) (is_entry radius axis a b) (entry_of ts radius axis) (own_entry axis a b) (refuted_pairs ts axis (f axis)) (is_listed (is_refuted ts axis (f axis)) (length ts) a b la lb e))
    where
      go : (x : Axis) → list_any (is_entry radius x a b) (entries ts radius x (f x)) ≡ true → list_any (is_entry radius x a b) (all_entries ts radius f) ≡ true
      go One h = has_left (is_entry radius One a b) (entries ts radius One (f One)) (entries ts radius Two (f Two)) h
      go Two h = has_right (is_entry radius Two a b) (entries ts radius One (f One)) (entries ts radius Two (f Two)) h

-- where only the last number of a run may have an answer
pub count_last : {A : Type 0} (f : ℕ → Option A) (i n : ℕ) → ((k : ℕ) → i ≤ k → k < i + n → is_some (f k) ≡ false) → count_from f i (n + 1) ≡ (if is_some (f (i + n)) then 1 else 0)
count_last f i zero h = let e : i + 0 ≡ i = omega arith in rw e (omega arith)
count_last f i (suc n) h =
    let r = count_last f (i + 1) n (λ k lo hi. h k (omega arith) (omega arith)) in
    let e : i + 1 + n ≡ i + suc n = omega arith in
    let none : is_some (f i) ≡ false = h i (omega arith) (omega arith) in
    let g : count_from f i (suc n + 1) ≡ count_from f i (suc (n + 1)) = (let same : suc n + 1 ≡ suc (n + 1) = omega arith in ap (count_from f i) same) in
    let k : count_from f i (suc (n + 1)) ≡ count_from f (i + 1) (n + 1) = rw none (omega arith) in
    g ∙ (k ∙ rw e at r)
