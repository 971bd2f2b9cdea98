-- A derived step is good.
use Rattle.std.proofs.Common.{arith, ◌≡◌, ◌↔◌, ℕ, ◌+◌, ◌<◌, ◌≤◌, Bool, true, false, ◌&&◌, ◌||◌, not, nat_eq, nat_lt, List, [], length, Option, None, Some, is_some, slice_get, if◌then◌else◌, refl, sym, ap, subst, ◌∙◌}
use Rattle.std.proofs.lemmas.Bool.{and_parts, false_from_ne_true, not_from_false}
use Rattle.std.specs.Cmp.{both_ways}
use Rattle.wt_grid.proofs.First.{all_none}
use Rattle.wt_grid.specs.Pairs.{is_this_pair}
use Rattle.std.specs.List.{list_any}
use Rattle.wt_grid.specs.Axes.{same_axis, other}
use Rattle.wt_grid.specs.declared.image.Image.TheVariants.{One as Single, Two as Double}
use Rattle.wt_grid.specs.declared.image.Image.{Image}
use Rattle.wt_grid.specs.declared.axis.Side.TheVariants.{After, Before}
use Rattle.wt_grid.specs.declared.axis.Side.{Side}
use Rattle.wt_grid.specs.declared.axis.Axis.TheVariants.{One, Two}
use Rattle.wt_grid.specs.declared.axis.Axis.{Axis}
use Rattle.std.proofs.lemmas.Bool.Decides.{nat_tests}
use Rattle.wt_tile.specs.Sets.{set_fault, repeated}
use Rattle.wt_tile.proofs.TileSets.{tile_set}
use Rattle.wt_tile.specs.Matching.{matches, blank}
use Rattle.wt_grid.specs.Order.{agree}
use Rattle.wt_grid.proofs.Order.{has_found}
use Rattle.wt_pattern.specs.Windows.{IsEmptyWindow, IsSurroundable}
use Rattle.wt_refute.specs.declared.tree.Refuted.{Refuted}
use Rattle.wt_refute.specs.Entries.{is_entry}
use Rattle.wt_refute.specs.Refutes.{Refutes}
use Rattle.wt_refute.specs.Placed.{window_of}
use Rattle.wt_refute.specs.View.{refutation}
use Rattle.wt_refute.proofs.Faults.{no_fault as tree_none}
use Rattle.wt_step.specs.Words.{image_fits, same_image, allowed, allows, is_barred, entry_at, times, is_block, joined, demands, demands_by, image_at, images_match}
use Rattle.wt_step.specs.Faults.{allowed_fit, is_named_well, is_marked_well, is_good_image, is_demanded, step_fault}
use Rattle.wt_step.specs.Good.{IsGoodStep}
use Rattle.wt_step.proofs.Goodness.{no_fault}
use Rattle.wt_marker.specs.Gather.{gather, any_from}
use Rattle.wt_marker.specs.Classes.{is_in}
use Rattle.wt_marker.specs.Demanded.{is_free_at, is_single, single_at, doubles}
use Rattle.wt_marker.specs.Coarse.{edges_of, coarse_set, number_tiles, plain}
use Rattle.wt_marker.specs.Derived.{Plan, IsPlan, dominoes, tiles_of, allowed_pairs, is_refuted, images_of, edges_in, derived}
use Rattle.wt_marker.proofs.Truth.{not_both}
use Rattle.wt_marker.proofs.Listed.{Each, each_at, each_get, all_of_each, find_each, once, any_true, has_right}
use Rattle.wt_marker.proofs.Pairs.{Listed, pair_found, passes_listed, is_listed, pairs_fit}
use Rattle.wt_marker.proofs.Imaged.{image_before, image_apart, each_demanded, demanded_sorted, has_single, has_double}
use Rattle.wt_marker.proofs.Windows.{unsaid}
use Rattle.wt_marker.proofs.Trees.{IsRight, all_entries, all_right, entries_fit, named, names, is_entry_same, count_last}
use Rattle.wt_marker.proofs.Plans.{domino, no_two, both_or_none, some_marker, some_other}
use Rattle.wt_marker.proofs.Joins.{edges_tell, tiles_tell, length_numbered, length_mapped, map_at}
use Rattle.wt_marker.proofs.CoarseSets.{coarse_good}

by_axis : (P : Axis → Type 0) → P One → P Two → (axis : Axis) → P axis
by_axis P o t One = o
by_axis P o t Two = t

module _ (p : Plan) (h : IsPlan p) where
  allowed_is : (axis : Axis) → allowed (derived p) axis ≡ allowed_pairs p axis
  allowed_is One = refl
  allowed_is Two = refl

  entries_are : (derived p).refuted ≡ all_entries p.fine.tiles p.radius (dominoes p)
  entries_are = refl

  -- allowed pairs are the dominoes
  pub allows_is : (axis : Axis) (a b : ℕ) → allows (derived p) axis a b ≡ dominoes p axis a b
  allows_is axis a b = ap (list_any (is_this_pair a b)) (allowed_is axis) ∙ both_ways (list_any (is_this_pair a b) (allowed_pairs p axis)) (dominoes p axis a b)
      (λ e. (passes_listed (dominoes p axis) (tiles_of p) a b e).2)
      (λ e. let d = domino p h axis a b e in is_listed (dominoes p axis) (tiles_of p) a b d.0 d.1 e)

  barred_is : (axis : Axis) (a b : ℕ) → is_barred (derived p) axis a b ≡ is_refuted p.fine.tiles axis (dominoes p axis) a b
  barred_is axis a b = rw (allows_is axis a b) refl

  never : (axis : Axis) (a b : ℕ) → dominoes p axis a b ≡ false → IsEmptyWindow p.fine.tiles axis a b p.radius
  never axis a b e = unsaid p.fine.tiles axis p.radius (dominoes p axis) (h.tells axis) a b (not_from_false (dominoes p axis a b) e)

  -- refutations

  elsewhere : (axis : Axis) (a b r : ℕ) → (r ≡ p.radius → ⊥) → is_some (entry_at (derived p) axis a b r) ≡ false
  elsewhere axis a b r other = false_from_ne_true (is_some (entry_at (derived p) axis a b r)) (λ e.
      let found : list_any (is_entry r axis a b) (all_entries p.fine.tiles p.radius (dominoes p)) ≡ true = has_found (is_entry r axis a b) (all_entries p.fine.tiles p.radius (dominoes p)) ∙ e in
      other (named p.fine.tiles p.radius (dominoes p) never r axis a b found).0)

  here : (axis : Axis) (a b : ℕ) → a < tiles_of p → b < tiles_of p → is_some (entry_at (derived p) axis a b p.radius) ≡ is_barred (derived p) axis a b
  here axis a b la lb =
      let es = all_entries p.fine.tiles p.radius (dominoes p) in
      sym (has_found (is_entry p.radius axis a b) es) ∙ (both_ways (list_any (is_entry p.radius axis a b) es) (is_refuted p.fine.tiles axis (dominoes p axis) a b)
      (λ e. (named p.fine.tiles p.radius (dominoes p) never p.radius axis a b e).1)
      (λ e. names p.fine.tiles p.radius (dominoes p) never axis a b la lb e) ∙ sym (barred_is axis a b))

  times_is : (axis : Axis) (a b : ℕ) → a < tiles_of p → b < tiles_of p → times (derived p) axis a b ≡ (if is_barred (derived p) axis a b then 1 else 0)
  times_is axis a b la lb =
      let z : 0 + p.radius ≡ p.radius = omega arith in
      let c = count_last (entry_at (derived p) axis a b) 0 p.radius (λ k lo hi. elsewhere axis a b k (λ e. omega (arith, e, hi))) in
      c ∙ rw (z, here axis a b la lb) refl

  named_well : (axis : Axis) (a b : ℕ) → a < tiles_of p → b < tiles_of p → is_named_well (derived p) axis a b ≡ true
  named_well axis a b la lb = go (is_barred (derived p) axis a b) refl
    where
      go : (t : Bool) → is_barred (derived p) axis a b ≡ t → is_named_well (derived p) axis a b ≡ true
      go true e = rw (e, times_is axis a b la lb, e) refl
      go false e = rw (e, times_is axis a b la lb, e) (fine (matches p.fine.tiles axis a b) (allows (derived p) axis a b) (λ k. (domino p h axis a b (sym (allows_is axis a b) ∙ k)).2))
        where
          fine : (m t : Bool) → (t ≡ true → m ≡ true) → ((m || not t) && true) ≡ true
          fine true t k = refl
          fine false true k = absurd (cc (k refl))
          fine false false k = refl

  trees_right : (i : ℕ) (r : Refuted) → slice_get (derived p).refuted i ≡ Some r
      → Refutes p.fine.tiles r.radius (derived p).refuted (window_of r.axis r.a r.b r.radius) (refutation r.tree)
  trees_right i r e =
      let w = each_get (IsRight p.fine.tiles p.radius (dominoes p) (derived p).refuted) (derived p).refuted i r (all_right p.fine.tiles p.radius (dominoes p) never (derived p).refuted) e in
      (tree_none p.fine.tiles r.axis r.a r.b r.radius (derived p).refuted r.tree).0 w.right

  -- markers

  marked_well : (axis : Axis) (a b : ℕ) → allows (derived p) axis a b ≡ true → is_marked_well (derived p) axis a b ≡ true
  marked_well axis a b e = go axis p.axis refl (sym (allows_is axis a b) ∙ e)
    where
      go : (x y : Axis) → p.axis ≡ y → dominoes p x a b ≡ true → (if same_axis x p.axis then not (is_in p.class a && is_in p.class b) else agree (is_in p.class a) (is_in p.class b)) ≡ true
      go One One s d = rw s (no_two p h a b (subst (λ (x : Axis). dominoes p x a b ≡ true) (sym s) d))
      go Two Two s d = rw s (no_two p h a b (subst (λ (x : Axis). dominoes p x a b ≡ true) (sym s) d))
      go One Two s d = rw s (both_or_none p h a b (subst (λ (x : Axis). dominoes p (other x) a b ≡ true) (sym s) d))
      go Two One s d = rw s (both_or_none p h a b (subst (λ (x : Axis). dominoes p (other x) a b ≡ true) (sym s) d))

  -- images

  pub each_image : (P : Image → Type 0) → ((u : ℕ) → u < tiles_of p → is_single p.side (dominoes p p.axis) (is_in p.class) (tiles_of p) u ≡ true → P (Single u))
      → ((a b : ℕ) → a < tiles_of p → b < tiles_of p → dominoes p p.axis a b ≡ true → joined p.side (is_in p.class a) (is_in p.class b) ≡ true → P (Double a b)) → Each P (images_of p)
  each_image P k l = each_demanded p.side (dominoes p p.axis) (is_in p.class) (tiles_of p) P k l

  good_images : Each (λ x. is_good_image (derived p) x ≡ true) (images_of p)
  good_images = each_image (λ x. is_good_image (derived p) x ≡ true)
      (λ u lt e. (and_parts (not (is_in p.class u)) (any_from (is_free_at p.side (dominoes p p.axis) (is_in p.class) u) 0 (tiles_of p)) e).0)
      (λ a b la lb e j. rw (allows_is p.axis a b, e, j) refl)

  fit_images : Each (λ x. image_fits (tiles_of p) x ≡ true) (images_of p)
  fit_images = each_image (λ x. image_fits (tiles_of p) x ≡ true)
      (λ u lt e. grind (arith, nat_tests, lt))
      (λ a b la lb e j. both_fit a b la lb)
    where
      both_fit : (a b : ℕ) → a < tiles_of p → b < tiles_of p → image_fits (tiles_of p) (Double a b) ≡ true
      both_fit a b la lb =
          let x : nat_lt a (tiles_of p) ≡ true = grind (arith, nat_tests) in
          let y : nat_lt b (tiles_of p) ≡ true = grind (arith, nat_tests) in rw (x, y) refl

  -- a pair that demands a single tile
  demanded_by : (side : Side) (u : ℕ) (q : ℕ × ℕ) → Listed (dominoes p p.axis) (tiles_of p) q → demands_by side (derived p) u q ≡ true
      → any_from (is_free_at side (dominoes p p.axis) (is_in p.class) u) 0 (tiles_of p) ≡ true
  demanded_by After u q l e =
      let g = and_parts (nat_eq q.0 u) (not (is_in p.class q.1)) e in
      let s : q.0 ≡ u = grind (arith, nat_tests, g.0) in
      let c : dominoes p p.axis u q.1 ≡ true = subst (λ (x : ℕ). dominoes p p.axis x q.1 ≡ true) s l.passes in
      let lt = l.second in
      any_true (is_free_at After (dominoes p p.axis) (is_in p.class) u) 0 (tiles_of p) q.1 (omega arith) (omega arith) (rw (g.1, c) refl)
  demanded_by Before u q l e =
      let g = and_parts (nat_eq q.1 u) (not (is_in p.class q.0)) e in
      let s : q.1 ≡ u = grind (arith, nat_tests, g.0) in
      let c : dominoes p p.axis q.0 u ≡ true = subst (λ (x : ℕ). dominoes p p.axis q.0 x ≡ true) s l.passes in
      let lt = l.first in
      any_true (is_free_at Before (dominoes p p.axis) (is_in p.class) u) 0 (tiles_of p) q.0 (omega arith) (omega arith) (rw (g.1, c) refl)

  tiles_there : (u : ℕ) → u < tiles_of p → is_demanded (derived p) u ≡ true → list_any (same_image (Single u)) (images_of p) ≡ true
  tiles_there u lt e =
      let g = and_parts (not (is_in p.class u)) (list_any (demands (derived p) u) (allowed (derived p) p.axis)) e in
      let k : list_any (demands (derived p) u) (allowed_pairs p p.axis) ≡ true = rw (allowed_is p.axis) at g.1 in
      let r = pair_found (dominoes p p.axis) (tiles_of p) (demands (derived p) u) k in
      has_single p.side (dominoes p p.axis) (is_in p.class) (tiles_of p) u lt (rw (g.0, demanded_by p.side u r.0 r.1 r.2) refl)

  pairs_there : (a b : ℕ) → allows (derived p) p.axis a b ≡ true → is_block (derived p) a b ≡ true → list_any (same_image (Double a b)) (images_of p) ≡ true
  pairs_there a b e j =
      has_right (same_image (Double a b)) (gather (single_at p.side (dominoes p p.axis) (is_in p.class) (tiles_of p)) 0 (tiles_of p)) (doubles p.side (is_in p.class) (allowed_pairs p p.axis))
      (has_double p.side (is_in p.class) a b (allowed_pairs p p.axis) j (rw (allowed_is p.axis) at e))

  -- coarse tiles

  length_coarse : length (coarse_set (edges_in p)).tiles ≡ length (images_of p)
  length_coarse = length_numbered [] [] (edges_in p) ∙ length_mapped (edges_of p.fine.tiles p.axis) (images_of p)

  joins_right : (axis : Axis) (i j : ℕ) → i < length (coarse_set (edges_in p)).tiles → j < length (coarse_set (edges_in p)).tiles
      → matches (coarse_set (edges_in p)).tiles axis i j ≡ images_match (derived p) axis (image_at (derived p) i) (image_at (derived p) j)
  joins_right axis i j li lj =
      let n = length_coarse in
      let m = length_numbered [] [] (edges_in p) in
      let e = plain blank in
      let x = map_at (edges_of p.fine.tiles p.axis) (images_of p) i (Single 0) e (omega (arith, n, li)) in
      let y = map_at (edges_of p.fine.tiles p.axis) (images_of p) j (Single 0) e (omega (arith, n, lj)) in
      tiles_tell (edges_in p) axis i j e (omega (arith, m, li)) (omega (arith, m, lj))
      ∙ (rw (x, y) (edges_tell p.fine.tiles p.axis axis (image_at (derived p) i) (image_at (derived p) j)))

  module _ (small : p.radius ≤ 4) (fine : set_fault p.fine ≡ None) (some : 0 < length (images_of p)) (few : length (images_of p) ≤ 256)
      (once_each : repeated 0 [] (number_tiles [] [] (edges_in p)) ≡ None) where
    coarse_right : set_fault (coarse_set (edges_in p)) ≡ None
    coarse_right =
        let n = length_mapped (edges_of p.fine.tiles p.axis) (images_of p) in
        coarse_good (edges_in p) (omega (arith, n, some)) (omega (arith, n, few)) once_each

    pub good : IsGoodStep (derived p)
    good =
        let a = some_marker p h in
        let b = some_other p h in
        let x : nat_lt 0 (length p.class) ≡ true = grind (arith, nat_tests) in
        let y : nat_lt (length p.class) (tiles_of p) ≡ true = grind (arith, nat_tests) in
        let z : nat_eq (length (images_of p)) (length (coarse_set (edges_in p)).tiles) ≡ true = rw length_coarse (grind (arith, nat_tests)) in
        record {
          radius = small;
          fine = tile_set p.fine fine;
          coarse = tile_set (coarse_set (edges_in p)) coarse_right;
          marker_list = rw (h.kept.ascending, x, y) refl;
          allowed_lists = by_axis (λ axis. allowed_fit (derived p) axis ≡ true) (pairs_fit p.one (tiles_of p)) (pairs_fit p.two (tiles_of p));
          refuted_list = entries_fit p.fine.tiles p.radius (dominoes p) never;
          image_list = rw (z, all_of_each (image_fits (tiles_of p)) (images_of p) fit_images) refl;
          named = λ axis a b la lb. named_well axis a b la lb;
          trees = trees_right;
          marked = marked_well;
          images = λ i lt. each_at (λ x. is_good_image (derived p) x ≡ true) (images_of p) i (Single 0) good_images lt;
          distinct = λ i lt. once image_before same_image image_apart (images_of p) i (Single 0) (demanded_sorted p.side (dominoes p p.axis) (is_in p.class) (tiles_of p)) lt;
          has_tiles = tiles_there;
          has_pairs = pairs_there;
          joins = joins_right;
        }

    pub no_step_fault : step_fault (derived p) ≡ None
    no_step_fault = no_fault (derived p) good

-- the allowed pairs are the surroundable ones
pub allowed_exactly : (p : Plan) → IsPlan p → (axis : Axis) (a b : ℕ) → (allows (derived p) axis a b ≡ true) ↔ IsSurroundable p.fine.tiles axis a b p.radius
allowed_exactly p h axis a b = (λ e. (h.tells axis a b).0 (sym (allows_is p h axis a b) ∙ e), λ w. allows_is p h axis a b ∙ (h.tells axis a b).1 w)
