-- The entries of a light step: what each is, in which order they stand, and which pairs they name.
use Rattle.std.proofs.Common.{arith, ◌≡◌, ℕ, zero, suc, ◌+◌, ◌-◌, ◌<◌, ◌≤◌, Bool, true, false, nat_eq, nat_lt, nat_le, List, ◌++◌, length, map, Option, None, Some, refl, sym, ◌∙◌}
use Rattle.std.specs.Prelude.{filter}
use Rattle.std.specs.List.{list_any}
use Rattle.std.proofs.lemmas.Bool.{not-true}
use Rattle.std.proofs.lemmas.Bool.Decides.{nat_tests}
use Rattle.wt_grid.specs.Axes.{axis_number}
use Rattle.wt_grid.specs.declared.axis.Axis.{Axis}
use Rattle.wt_grid.specs.declared.axis.Axis.TheVariants.{One, Two}
use Rattle.wt_grid.specs.Order.{in_order}
use Rattle.wt_grid.specs.Pairs.{pairs_follow, is_this_pair}
use Rattle.wt_tile.specs.declared.tile.Tile.{Tile}
use Rattle.wt_pattern.specs.Windows.{IsEmptyWindow}
use Rattle.wt_refute.specs.declared.tree.Refuted.{Refuted}
use Rattle.wt_refute.specs.Entries.{is_entry, entries_follow, ascends}
use Rattle.wt_refute.specs.Refutation.{Refutation, Branches, branch, cite, no_more, more}
use Rattle.wt_refute.specs.View.{refutation}
use Rattle.wt_refute.specs.Made.{tree_of}
use Rattle.wt_refute.specs.Placed.{Placed, place, window_of, tile_in}
use Rattle.wt_refute.specs.Refutes.{Refutes, EachRefutes, serves, is_known, next_placed}
use Rattle.wt_refute.specs.Standard.{standard_tree}
use Rattle.wt_refute.proofs.Entries.{ordered as ascending}
use Rattle.wt_refute.proofs.Faults.{no_fault, standard_right}
use Rattle.wt_refute.proofs.Made.{refutation-tree_of}
use Rattle.wt_step.specs.declared.raw.RawStep.{RawStep}
use Rattle.wt_step.specs.Words.{entry_fits}
use Rattle.wt_step.specs.Good.{IsGoodStep}
use Rattle.wt_window.specs.Surrounded.{surroundable}
use Rattle.wt_window.proofs.Outcomes.{tested, empty_or_not}
use Rattle.wt_marker.proofs.Listed.{Each, Sorted, each_append, each_imp, each_of, each_map, has_each, has_left, has_right, has_map, sorted_append, sorted_map, ordered}
use Rattle.wt_marker.proofs.Pairs.{Listed, each_listed, pairs_sorted, is_listed, is_pair_same}
use Rattle.wt_marker.proofs.Trees.{own_axis, is_entry_same}
use Rattle.wt_search.specs.Light.{has_refutation, refuted_of, has_window, has_none, entry_of, asked_after, new_entries, light_entries}
use Rattle.wt_search.proofs.Filtered.{each_filter, each_left, sorted_filter, sorted_left, has_filter, has_left_after}
use Rattle.wt_search.proofs.Refuting.{refuted_matches}

-- Trees refute still where more is known.
module _ (ts : List Tile) (radius : ℕ) (known others : List Refuted) where
  known_more : (p : Placed) (cell : ℕ) (axis : Axis) (a b : Option ℕ) → is_known radius known p cell axis a b ≡ true → is_known radius (known ++ others) p cell axis a b ≡ true
  known_more p cell axis None b e = absurd cc
  known_more p cell axis (Some a) None e = absurd cc
  known_more p cell axis (Some a) (Some b) e = has_left (serves radius p.width p.height cell axis a b) known others e

  mutual
    pub refutes_more : (p : Placed) (tree : Refutation) → Refutes ts radius known p tree → Refutes ts radius (known ++ others) p tree
    refutes_more p (branch cell bs) r = (r.0, r.1, each_more p cell bs r.2)
    refutes_more p (cite cell axis) r = known_more p cell axis (tile_in p cell) (next_placed p cell axis) r

    each_more : (p : Placed) (cell : ℕ) (bs : Branches) → EachRefutes ts radius known p cell bs → EachRefutes ts radius (known ++ others) p cell bs
    each_more p cell no_more r = tt
    each_more p cell (more tile tree bs) r = (refutes_more (place p cell tile) tree r.0, each_more p cell bs r.1)

-- an empty window, as the test says it
pub none_surrounds : (ts : List Tile) (axis : Axis) (a b r : ℕ) → surroundable ts axis r a b ≡ false → IsEmptyWindow ts axis a b r
none_surrounds ts axis a b r e = (empty_or_not ts axis a b r).1 (λ s. let t = (tested ts axis a b r).1 s in let y : true ≡ false = sym t ∙ e in cc)

pub surrounds_none : (ts : List Tile) (axis : Axis) (a b r : ℕ) → IsEmptyWindow ts axis a b r → surroundable ts axis r a b ≡ false
surrounds_none ts axis a b r e = go (surroundable ts axis r a b) refl
  where
    go : (t : Bool) → surroundable ts axis r a b ≡ t → surroundable ts axis r a b ≡ false
    go true t = absurd ((empty_or_not ts axis a b r).0 e ((tested ts axis a b r).0 t))
    go false t = t

-- what is said of each entry, without its tree
pub record IsLowered (s : RawStep) (m : ℕ) (r : Refuted) : Type 0 where
  pub some : 1 ≤ r.radius
  pub most : r.radius ≤ m
  pub first : r.a < length s.fine.tiles
  pub second : r.b < length s.fine.tiles
  pub refuted : has_refutation s r.axis r.a r.b ≡ true
  pub empty : surroundable s.fine.tiles r.axis r.radius r.a r.b ≡ false
  pub least : (k : ℕ) → 1 ≤ k → k < r.radius → surroundable s.fine.tiles r.axis k r.a r.b ≡ true

-- what is said of each pair that is asked at radius r + 1
pub record IsAsked (s : RawStep) (axis : Axis) (r : ℕ) (q : ℕ × ℕ) : Type 0 where
  pub listed : Listed (has_refutation s axis) (length s.fine.tiles) q
  pub windows : (k : ℕ) → 1 ≤ k → k ≤ r → surroundable s.fine.tiles axis k q.0 q.1 ≡ true

-- the tree refutes with these entries known
abbrev pub IsRightWith : RawStep → List Refuted → Refuted → Type 0
IsRightWith s known r = Refutes s.fine.tiles r.radius known (window_of r.axis r.a r.b r.radius) (refutation r.tree)

module _ (s : RawStep) where
  pub each_asked : (axis : Axis) (r : ℕ) → Each (IsAsked s axis r) (asked_after s axis r)
  each_asked axis r = each_imp (λ q. Listed (has_refutation s axis) (length s.fine.tiles) q × ((k : ℕ) → 1 ≤ k → k ≤ r → has_window s.fine.tiles axis k q ≡ true)) (IsAsked s axis r) (asked_after s axis r)
      (λ q h. record { listed = h.0; windows = h.1 })
      (each_left s.fine.tiles axis (Listed (has_refutation s axis) (length s.fine.tiles)) (refuted_of s axis) r (each_listed (has_refutation s axis) (length s.fine.tiles)))

  one_lowered : (known : List Refuted) (axis : Axis) (r : ℕ) (q : ℕ × ℕ) → IsAsked s axis r q × (has_none s.fine.tiles axis (suc r) q ≡ true) → IsLowered s (suc r) (entry_of s.fine.tiles known (suc r) axis q)
  one_lowered known axis r q h = let a = h.0 in let l = a.listed in record {
    some = omega arith;
    most = omega arith;
    first = l.first;
    second = l.second;
    refuted = l.passes;
    empty = not-true (surroundable s.fine.tiles axis (suc r) q.0 q.1) h.1;
    least = λ k lo hi. a.windows k lo (omega arith);
  }

  axis_lowered : (known : List Refuted) (axis : Axis) (r : ℕ) → Each (IsLowered s (suc r)) (new_entries s known axis r)
  axis_lowered known axis r = each_map (IsLowered s (suc r)) (entry_of s.fine.tiles known (suc r) axis) (filter (has_none s.fine.tiles axis (suc r)) (asked_after s axis r))
      (each_imp (λ q. IsAsked s axis r q × (has_none s.fine.tiles axis (suc r) q ≡ true)) (λ q. IsLowered s (suc r) (entry_of s.fine.tiles known (suc r) axis q)) (filter (has_none s.fine.tiles axis (suc r)) (asked_after s axis r))
      (one_lowered known axis r) (each_filter (IsAsked s axis r) (has_none s.fine.tiles axis (suc r)) (asked_after s axis r) (each_asked axis r)))

  higher : (m : ℕ) (r : Refuted) → IsLowered s m r → IsLowered s (suc m) r
  higher m r h = let le = h.most in record { some = h.some; most = omega arith; first = h.first; second = h.second; refuted = h.refuted; empty = h.empty; least = h.least }

  pub each_lowered : (m : ℕ) → Each (IsLowered s m) (light_entries s m)
  each_lowered zero = tt
  each_lowered (suc m) =
      let known = light_entries s m in
      each_append (IsLowered s (suc m)) known (new_entries s known One m ++ new_entries s known Two m)
      (each_imp (IsLowered s m) (IsLowered s (suc m)) known (higher m) (each_lowered m))
      (each_append (IsLowered s (suc m)) (new_entries s known One m) (new_entries s known Two m) (axis_lowered known One m) (axis_lowered known Two m))

  -- their order

  on_axis : (known : List Refuted) (r : ℕ) (axis : Axis) (x y : ℕ × ℕ) → pairs_follow x y ≡ true → entries_follow (entry_of s.fine.tiles known r axis x) (entry_of s.fine.tiles known r axis y) ≡ true
  on_axis known r axis x y e =
      let l : nat_lt r r ≡ false = grind (arith, nat_tests) in
      let t : nat_eq r r ≡ true = grind (arith, nat_tests) in
      let m : nat_lt (axis_number axis) (axis_number axis) ≡ false = grind (arith, nat_tests) in
      rw (l, t, m, own_axis axis, e) refl

  axis_sorted : (known : List Refuted) (axis : Axis) (r : ℕ) → Sorted entries_follow (new_entries s known axis r)
  axis_sorted known axis r = sorted_map pairs_follow entries_follow (entry_of s.fine.tiles known (suc r) axis) (on_axis known (suc r) axis) (filter (has_none s.fine.tiles axis (suc r)) (asked_after s axis r))
      (sorted_filter pairs_follow (has_none s.fine.tiles axis (suc r)) (asked_after s axis r)
      (sorted_left s.fine.tiles axis pairs_follow (refuted_of s axis) r (pairs_sorted (has_refutation s axis) (length s.fine.tiles))))

  across : (known : List Refuted) (r : ℕ) (x y : ℕ × ℕ) → entries_follow (entry_of s.fine.tiles known r One x) (entry_of s.fine.tiles known r Two y) ≡ true
  across known r x y =
      let l : nat_lt r r ≡ false = grind (arith, nat_tests) in
      let t : nat_eq r r ≡ true = grind (arith, nat_tests) in
      rw (l, t) refl

  ones_before : (known : List Refuted) (r : ℕ) (xs ys : List (ℕ × ℕ)) → Each (λ u. Each (λ v. entries_follow u v ≡ true) (map (entry_of s.fine.tiles known r Two) ys)) (map (entry_of s.fine.tiles known r One) xs)
  ones_before known r xs ys = each_map (λ u. Each (λ v. entries_follow u v ≡ true) (map (entry_of s.fine.tiles known r Two) ys)) (entry_of s.fine.tiles known r One) xs
      (each_of (λ x. Each (λ v. entries_follow (entry_of s.fine.tiles known r One x) v ≡ true) (map (entry_of s.fine.tiles known r Two) ys)) xs
      (λ x. each_map (λ v. entries_follow (entry_of s.fine.tiles known r One x) v ≡ true) (entry_of s.fine.tiles known r Two) ys
      (each_of (λ y. entries_follow (entry_of s.fine.tiles known r One x) (entry_of s.fine.tiles known r Two y) ≡ true) ys (across known r x))))

  lower_first : (u v : Refuted) → u.radius < v.radius → entries_follow u v ≡ true
  lower_first u v lt = let l : nat_lt u.radius v.radius ≡ true = grind (arith, nat_tests) in rw l refl

  all_above : (m : ℕ) (known new : List Refuted) → Each (λ r. r.radius ≤ m) known → Each (λ r. m < r.radius) new → Each (λ u. Each (λ v. entries_follow u v ≡ true) new) known
  all_above m known new h k = each_imp (λ r. r.radius ≤ m) (λ u. Each (λ v. entries_follow u v ≡ true) new) known
      (λ u le. each_imp (λ r. m < r.radius) (λ v. entries_follow u v ≡ true) new (λ v lt. lower_first u v (omega (arith, le, lt))) k) h

  pub of_radius : (known : List Refuted) (axis : Axis) (r : ℕ) → Each (λ (e : Refuted). r < e.radius) (new_entries s known axis r)
  of_radius known axis r = each_map (λ e. r < e.radius) (entry_of s.fine.tiles known (suc r) axis) (filter (has_none s.fine.tiles axis (suc r)) (asked_after s axis r))
      (each_of (λ q. r < suc r) (filter (has_none s.fine.tiles axis (suc r)) (asked_after s axis r)) (λ q. omega arith))

  pub all_sorted : (m : ℕ) → Sorted entries_follow (light_entries s m)
  all_sorted zero = tt
  all_sorted (suc m) =
      let known = light_entries s m in
      let new = new_entries s known One m ++ new_entries s known Two m in
      sorted_append entries_follow known new (all_sorted m)
      (sorted_append entries_follow (new_entries s known One m) (new_entries s known Two m) (axis_sorted known One m) (axis_sorted known Two m)
      (ones_before known (suc m) (filter (has_none s.fine.tiles One (suc m)) (asked_after s One m)) (filter (has_none s.fine.tiles Two (suc m)) (asked_after s Two m))))
      (all_above m known new (each_imp (IsLowered s m) (λ r. r.radius ≤ m) known (λ r h. h.most) (each_lowered m))
      (each_append (λ r. m < r.radius) (new_entries s known One m) (new_entries s known Two m) (of_radius known One m) (of_radius known Two m)))

  lowered_fits : (m : ℕ) (r : Refuted) → IsLowered s m r → entry_fits m (length s.fine.tiles) r ≡ true
  lowered_fits m r h =
      let x = h.most in
      let y = h.first in
      let z = h.second in
      let k : nat_le r.radius m ≡ true = grind (arith, nat_tests, x) in
      let l : nat_lt r.a (length s.fine.tiles) ≡ true = grind (arith, nat_tests, y) in
      let n : nat_lt r.b (length s.fine.tiles) ≡ true = grind (arith, nat_tests, z) in
      rw (k, l, n) refl

  pub entries_fit : (m : ℕ) → in_order (entry_fits m (length s.fine.tiles)) entries_follow (light_entries s m) ≡ true
  entries_fit m = ordered (entry_fits m (length s.fine.tiles)) entries_follow (light_entries s m)
      (each_imp (IsLowered s m) (λ r. entry_fits m (length s.fine.tiles) r ≡ true) (light_entries s m) (lowered_fits m) (each_lowered m)) (all_sorted m)

  pub entries_ascend : (m : ℕ) → ascends (light_entries s m) ≡ true
  entries_ascend m = ascending (entry_fits m (length s.fine.tiles)) (light_entries s m) (entries_fit m)

  -- what they name

  -- an entry of a pair says that this radius is the least
  pub named : (m r : ℕ) (axis : Axis) (a b : ℕ) → list_any (is_entry r axis a b) (light_entries s m) ≡ true
      → (1 ≤ r) × (has_refutation s axis a b ≡ true) × (surroundable s.fine.tiles axis r a b ≡ false) × ((k : ℕ) → 1 ≤ k → k < r → surroundable s.fine.tiles axis k a b ≡ true)
  named m r axis a b e =
      let x = has_each (IsLowered s m) (is_entry r axis a b) (light_entries s m) (each_lowered m) e in
      let t = is_entry_same r axis a b x.0 x.2 in
      let h = x.1 in
      (rw t.0 at h.some, rw (t.1, t.2, t.3) at h.refuted, rw (t.0, t.1, t.2, t.3) at h.empty, rw (t.0, t.1, t.2, t.3) at h.least)

  own_entry : (known : List Refuted) (r : ℕ) (axis : Axis) (a b : ℕ) (q : ℕ × ℕ) → is_this_pair a b q ≡ true → is_entry r axis a b (entry_of s.fine.tiles known r axis q) ≡ true
  own_entry known r axis a b q e =
      let t : nat_eq r r ≡ true = grind (arith, nat_tests) in
      rw (t, own_axis axis, e) refl

  has_more : (q : Refuted → Bool) (m d : ℕ) → list_any q (light_entries s m) ≡ true → list_any q (light_entries s (m + d)) ≡ true
  has_more q m zero e = let z : m + 0 ≡ m = omega arith in rw z e
  has_more q m (suc d) e =
      let z : m + suc d ≡ suc (m + d) = omega arith in
      let known = light_entries s (m + d) in
      rw z (has_left q known (new_entries s known One (m + d) ++ new_entries s known Two (m + d)) (has_more q m d e))

  -- a pair has an entry of the least radius at which its window is empty
  names_here : (r : ℕ) (axis : Axis) (a b : ℕ) → a < length s.fine.tiles → b < length s.fine.tiles → has_refutation s axis a b ≡ true
      → surroundable s.fine.tiles axis (suc r) a b ≡ false → ((k : ℕ) → 1 ≤ k → k ≤ r → surroundable s.fine.tiles axis k a b ≡ true)
      → list_any (is_entry (suc r) axis a b) (light_entries s (suc r)) ≡ true
  names_here r axis a b la lb e none w =
      let known = light_entries s r in
      has_right (is_entry (suc r) axis a b) known (new_entries s known One r ++ new_entries s known Two r) (go axis (in_new axis e none w))
    where
      in_new : (x : Axis) → has_refutation s x a b ≡ true → surroundable s.fine.tiles x (suc r) a b ≡ false → ((k : ℕ) → 1 ≤ k → k ≤ r → surroundable s.fine.tiles x k a b ≡ true)
          → list_any (is_entry (suc r) x a b) (new_entries s (light_entries s r) x r) ≡ true
      in_new x e none w = has_map (is_this_pair a b) (is_entry (suc r) x a b) (entry_of s.fine.tiles (light_entries s r) (suc r) x) (own_entry (light_entries s r) (suc r) x a b)
          (filter (has_none s.fine.tiles x (suc r)) (asked_after s x r))
          (has_filter (is_this_pair a b) (has_none s.fine.tiles x (suc r)) (λ q h. let t = is_pair_same a b q h in rw (t.0, t.1, none) refl) (asked_after s x r)
          (has_left_after s.fine.tiles x a b (refuted_of s x) r (is_listed (has_refutation s x) (length s.fine.tiles) a b la lb e) w))

      go : (x : Axis) → list_any (is_entry (suc r) x a b) (new_entries s (light_entries s r) x r) ≡ true
          → list_any (is_entry (suc r) x a b) (new_entries s (light_entries s r) One r ++ new_entries s (light_entries s r) Two r) ≡ true
      go One h = has_left (is_entry (suc r) One a b) (new_entries s (light_entries s r) One r) (new_entries s (light_entries s r) Two r) h
      go Two h = has_right (is_entry (suc r) Two a b) (new_entries s (light_entries s r) One r) (new_entries s (light_entries s r) Two r) h

  pub names : (m r : ℕ) (axis : Axis) (a b : ℕ) → a < length s.fine.tiles → b < length s.fine.tiles → has_refutation s axis a b ≡ true → suc r ≤ m
      → surroundable s.fine.tiles axis (suc r) a b ≡ false → ((k : ℕ) → 1 ≤ k → k ≤ r → surroundable s.fine.tiles axis k a b ≡ true)
      → list_any (is_entry (suc r) axis a b) (light_entries s m) ≡ true
  names m r axis a b la lb e le none w =
      let z : suc r + (m - suc r) ≡ m = omega arith in
      rw z at (has_more (is_entry (suc r) axis a b) (suc r) (m - suc r) (names_here r axis a b la lb e none w))

  -- their trees

  module _ (g : IsGoodStep s) where
    one_right : (known : List Refuted) (axis : Axis) (r : ℕ) (q : ℕ × ℕ) → IsAsked s axis r q × (has_none s.fine.tiles axis (suc r) q ≡ true)
        → Refutes s.fine.tiles (suc r) known (window_of axis q.0 q.1 (suc r)) (refutation (tree_of (standard_tree s.fine.tiles axis q.0 q.1 (suc r) known)))
    one_right known axis r q h =
        let a = h.0 in
        let l = a.listed in
        let tree = tree_of (standard_tree s.fine.tiles axis q.0 q.1 (suc r) known) in
        let empty = none_surrounds s.fine.tiles axis q.0 q.1 (suc r) (not-true (surroundable s.fine.tiles axis (suc r) q.0 q.1) h.1) in
        (no_fault s.fine.tiles axis q.0 q.1 (suc r) known tree).0
        (standard_right s.fine.tiles axis q.0 q.1 (suc r) known tree l.first l.second (refuted_matches s g axis q.0 q.1 l.first l.second l.passes) empty
        (refutation-tree_of (standard_tree s.fine.tiles axis q.0 q.1 (suc r) known)))

    axis_right : (known : List Refuted) (axis : Axis) (r : ℕ) → Each (IsRightWith s known) (new_entries s known axis r)
    axis_right known axis r = each_map (IsRightWith s known) (entry_of s.fine.tiles known (suc r) axis) (filter (has_none s.fine.tiles axis (suc r)) (asked_after s axis r))
        (each_imp (λ q. IsAsked s axis r q × (has_none s.fine.tiles axis (suc r) q ≡ true)) (λ q. IsRightWith s known (entry_of s.fine.tiles known (suc r) axis q)) (filter (has_none s.fine.tiles axis (suc r)) (asked_after s axis r))
        (one_right known axis r) (each_filter (IsAsked s axis r) (has_none s.fine.tiles axis (suc r)) (asked_after s axis r) (each_asked axis r)))

    pub all_right : (m : ℕ) → Each (IsRightWith s (light_entries s m)) (light_entries s m)
    all_right zero = tt
    all_right (suc m) =
        let known = light_entries s m in
        let new = new_entries s known One m ++ new_entries s known Two m in
        each_imp (IsRightWith s known) (IsRightWith s (known ++ new)) (known ++ new) (λ r h. refutes_more s.fine.tiles r.radius known new (window_of r.axis r.a r.b r.radius) (refutation r.tree) h)
        (each_append (IsRightWith s known) known new (all_right m) (each_append (IsRightWith s known) (new_entries s known One m) (new_entries s known Two m) (axis_right known One m) (axis_right known Two m)))
