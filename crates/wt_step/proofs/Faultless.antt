-- What a step without a fault has, condition by condition as the tests go, and what has no fault.
use Rattle.std.proofs.Common.{arith, ◌≡◌, ◌≤◌, ◌<◌, ◌+◌, ℕ, zero, suc, List, [], ◌∷◌, length, take, Option, None, option_map, Bool, true, false, ◌&&◌, ◌||◌, not, nat_eq, nat_le, if◌then◌else◌, refl, sym, ◌∙◌, ap}
use Rattle.wt_grid.proofs.Unless.{holds, fits}
use Rattle.wt_grid.specs.Unless.{unless}
use Rattle.wt_grid.proofs.Order.{agreed, agrees}
use Rattle.std.proofs.lemmas.Bool.{and_parts, not-true}
use Rattle.std.specs.List.{list_any}
use Rattle.wt_grid.specs.declared.image.Image.TheVariants.{One as Single, Two as Double}
use Rattle.wt_grid.specs.declared.axis.Axis.TheVariants.{One, Two}
use Rattle.wt_grid.specs.declared.axis.Axis.{Axis}
use Rattle.std.proofs.lemmas.Bool.Decides.{nat_tests}
use Rattle.wt_tile.specs.Sets.{set_fault}
use Rattle.wt_tile.specs.Matching.{matches}
use Rattle.wt_grid.specs.First.{or_else, first_from}
use Rattle.wt_grid.specs.Order.{first_in, agree}
use Rattle.wt_grid.proofs.First.{neither, none_from, all_none}
use Rattle.wt_step.specs.declared.raw.RawStep.{RawStep}
use Rattle.wt_step.specs.declared.raw.StepFault.{StepFault}
use Rattle.wt_step.specs.declared.raw.StepFault.TheVariants.{Radius, Fine, Coarse, Markers, Allowed, RefutedList, Images, Pair, Marker, MissingTile, MissingPair, Join}
use Rattle.wt_step.specs.declared.raw.StepFault.TheVariants as fault
use Rattle.wt_step.specs.Words.{same_image, allowed, allows, is_barred, is_block, image_at, images_match}
use Rattle.wt_grid.specs.Pairs.{is_this_pair}
use Rattle.wt_step.specs.Faults.{shape_fault, markers_fit, allowed_fit, refuted_fit, images_fit, is_named_well, trees_fault, pair_fault, row_fault, pairs_fault, is_marked_well, marker_fault_at, marker_fault, is_good_image, image_fault_at, image_fault, is_demanded, missing_tile_at, missing_tile, missing_pair_at, missing_pair, join_fault_at, join_row, join_fault, rules_fault, step_fault, IsShaped}
use Rattle.wt_step.proofs.Shaped.{shaped}

pub record IsFaultless (s : RawStep) : Type 0 where
  pub shaped : IsShaped s
  pub named : (axis : Axis) (a b : ℕ) → a < length s.fine.tiles → b < length s.fine.tiles → is_named_well s axis a b ≡ true
  pub trees : (axis : Axis) (a b : ℕ) → a < length s.fine.tiles → b < length s.fine.tiles → is_barred s axis a b ≡ true → trees_fault s axis a b ≡ None
  pub marked : (axis : Axis) (a b : ℕ) → allows s axis a b ≡ true → is_marked_well s axis a b ≡ true
  pub images : (i : ℕ) → i < length s.images → is_good_image s (image_at s i) ≡ true
  pub distinct : (i : ℕ) → i < length s.images → list_any (same_image (image_at s i)) (take i s.images) ≡ false
  pub has_tiles : (u : ℕ) → u < length s.fine.tiles → is_demanded s u ≡ true → list_any (same_image (Single u)) s.images ≡ true
  pub has_pairs : (a b : ℕ) → allows s s.axis a b ≡ true → is_block s a b ≡ true → list_any (same_image (Double a b)) s.images ≡ true
  pub joins : (axis : Axis) (i j : ℕ) → i < length s.coarse.tiles → j < length s.coarse.tiles
      → matches s.coarse.tiles axis i j ≡ images_match s axis (image_at s i) (image_at s j)

pub none_both : {A : Type 0} (a b : Option A) → a ≡ None → b ≡ None → or_else a b ≡ None
none_both a b e f = rw e f

pub is_pair_same : (a b : ℕ) (p : ℕ × ℕ) → is_this_pair a b p ≡ true → (p.0 ≡ a) × (p.1 ≡ b)
is_pair_same a b p e = let g = and_parts (nat_eq p.0 a) (nat_eq p.1 b) e in (grind (arith, nat_tests, g.0), grind (arith, nat_tests, g.1))

is_pair_itself : (p : ℕ × ℕ) → is_this_pair p.0 p.1 p ≡ true
is_pair_itself p =
    let e : nat_eq p.0 p.0 ≡ true = grind (arith, nat_tests) in
    let f : nat_eq p.1 p.1 ≡ true = grind (arith, nat_tests) in rw (e, f) refl

pair_of : (x y a b : ℕ) → x ≡ a → y ≡ b → Path (ℕ × ℕ) (x, y) (a, b)
pair_of x y a b e f = cc

same_pair : (a b : ℕ) (p : ℕ × ℕ) → is_this_pair a b p ≡ true → Path (ℕ × ℕ) p (a, b)
same_pair a b p e = let g = is_pair_same a b p e in pair_of p.0 p.1 a b g.0 g.1

none_at : {A : Type 0} (f : ℕ × ℕ → Option A) (ps : List (ℕ × ℕ)) → first_in f ps ≡ None → (a b : ℕ) → list_any (is_this_pair a b) ps ≡ true → f (a, b) ≡ None
none_at f [] e a b h = absurd (cc h)
none_at f (p ∷ ps) e a b h = let n = neither (f p) (first_in f ps) e in go (is_this_pair a b p) refl n.0 (none_at f ps n.1 a b)
  where
    go : (t : Bool) → is_this_pair a b p ≡ t → f p ≡ None → (list_any (is_this_pair a b) ps ≡ true → f (a, b) ≡ None) → f (a, b) ≡ None
    go true t n r = ap f (sym (same_pair a b p t)) ∙ n
    go false t n r = r (rw t at h)

pub none_in : {A : Type 0} (f : ℕ × ℕ → Option A) (ps : List (ℕ × ℕ)) → ((a b : ℕ) → list_any (is_this_pair a b) ps ≡ true → f (a, b) ≡ None) → first_in f ps ≡ None
none_in f [] h = refl
none_in f (p ∷ ps) h =
    none_both (f p) (first_in f ps) (h p.0 p.1 (rw (is_pair_itself p) refl))
    (none_in f ps (λ a b m. h a b (or_right (is_this_pair a b p) (list_any (is_this_pair a b) ps) m)))
  where
    or_right : (x y : Bool) → y ≡ true → (x || y) ≡ true
    or_right true y e = refl
    or_right false y e = e

implied : (a b : Bool) → (not a || b) ≡ true → a ≡ true → b ≡ true
implied true b e f = e
implied false b e f = absurd (cc f)

pub implies : (a b : Bool) → (a ≡ true → b ≡ true) → (not a || b) ≡ true
implies true b h = h refl
implies false b h = refl

under : (b : Bool) (o : Option StepFault) → (if b then o else None) ≡ None → b ≡ true → o ≡ None
under b o e f = rw f at e

over : (b : Bool) (o : Option StepFault) → (b ≡ true → o ≡ None) → (if b then o else None) ≡ None
over true o h = h refl
over false o h = refl

module _ (s : RawStep) where
  pair_good : (axis : Axis) → pairs_fault s axis ≡ None → (a b : ℕ) → a < length s.fine.tiles → b < length s.fine.tiles → pair_fault s axis a b ≡ None
  pair_good axis e a b la lb =
      none_from (pair_fault s axis a) 0 (length s.fine.tiles) b (none_from (row_fault s axis) 0 (length s.fine.tiles) a e (omega arith) (omega arith)) (omega arith) (omega arith)

  join_good : (axis : Axis) → join_fault s axis ≡ None → (i j : ℕ) → i < length s.coarse.tiles → j < length s.coarse.tiles → join_fault_at s axis i j ≡ None
  join_good axis e i j li lj =
      none_from (join_fault_at s axis i) 0 (length s.coarse.tiles) j (none_from (join_row s axis) 0 (length s.coarse.tiles) i e (omega arith) (omega arith)) (omega arith) (omega arith)

  by_axis : (P : Axis → Type 0) → P One → P Two → (axis : Axis) → P axis
  by_axis P o t One = o
  by_axis P o t Two = t

  module _ (n : shape_fault s ≡ None) where
    rules_good : rules_fault s ≡ None → IsFaultless s
    unfolding rules_fault
    rules_good e =
        let p1 = neither (pairs_fault s One) _ e in
        let p2 = neither (pairs_fault s Two) _ p1.1 in
        let m1 = neither (marker_fault s One) _ p2.1 in
        let m2 = neither (marker_fault s Two) _ m1.1 in
        let im = neither (image_fault s) _ m2.1 in
        let mt = neither (missing_tile s) _ im.1 in
        let mp = neither (missing_pair s) _ mt.1 in
        let jo = neither (join_fault s One) (join_fault s Two) mp.1 in
        let pair = λ (axis : Axis) (a b : ℕ) (la : a < length s.fine.tiles) (lb : b < length s.fine.tiles).
        neither (unless (is_named_well s axis a b) (Pair axis a b)) (if is_barred s axis a b then trees_fault s axis a b else None)
        (pair_good axis (by_axis (λ x. pairs_fault s x ≡ None) p1.0 p2.0 axis) a b la lb) in
        let image = λ (i : ℕ) (li : i < length s.images).
        and_parts (is_good_image s (image_at s i)) (not (list_any (same_image (image_at s i)) (take i s.images)))
        (holds (is_good_image s (image_at s i) && not (list_any (same_image (image_at s i)) (take i s.images))) (fault.Image i)
        (none_from (image_fault_at s) 0 (length s.images) i im.0 (omega arith) (omega arith))) in
        record {
          shaped = shaped s n;
          named = λ axis a b la lb. holds (is_named_well s axis a b) (Pair axis a b) (pair axis a b la lb).0;
          trees = λ axis a b la lb h. under (is_barred s axis a b) (trees_fault s axis a b) (pair axis a b la lb).1 h;
          marked = λ axis a b h. holds (is_marked_well s axis a b) (Marker axis a b)
              (none_at (marker_fault_at s axis) (allowed s axis) (by_axis (λ x. marker_fault s x ≡ None) m1.0 m2.0 axis) a b h);
          images = λ i li. (image i li).0;
          distinct = λ i li. not-true (list_any (same_image (image_at s i)) (take i s.images)) (image i li).1;
          has_tiles = λ u lu h. implied (is_demanded s u) (list_any (same_image (Single u)) s.images)
              (holds (not (is_demanded s u) || list_any (same_image (Single u)) s.images) (MissingTile u)
              (none_from (missing_tile_at s) 0 (length s.fine.tiles) u mt.0 (omega arith) (omega arith))) h;
          has_pairs = λ a b h k. implied (is_block s a b) (list_any (same_image (Double a b)) s.images)
              (holds (not (is_block s a b) || list_any (same_image (Double a b)) s.images) (MissingPair a b)
              (none_at (missing_pair_at s) (allowed s s.axis) mp.0 a b h)) k;
          joins = λ axis i j li lj. agreed (matches s.coarse.tiles axis i j) (images_match s axis (image_at s i) (image_at s j))
              (holds (agree (matches s.coarse.tiles axis i j) (images_match s axis (image_at s i) (image_at s j))) (Join axis i j)
              (join_good axis (by_axis (λ x. join_fault s x ≡ None) jo.0 jo.1 axis) i j li lj));
        }

pub faultless : (s : RawStep) → step_fault s ≡ None → IsFaultless s
unfolding step_fault
faultless s e = let n = neither (shape_fault s) (rules_fault s) e in rules_good s n.0 n.1

-- and back
module _ (s : RawStep) (g : IsFaultless s) where
  no_shape : shape_fault s ≡ None
  unfolding shape_fault
  no_shape =
      let small : nat_le s.radius 4 ≡ true = (let r = g.shaped.radius in grind (arith, nat_tests, r)) in
      none_both (unless (nat_le s.radius 4) Radius) _ (fits (nat_le s.radius 4) Radius small)
      (none_both (option_map Fine (set_fault s.fine)) _ (ap (option_map Fine) g.shaped.fine)
      (none_both (option_map Coarse (set_fault s.coarse)) _ (ap (option_map Coarse) g.shaped.coarse)
      (none_both (unless (markers_fit s) Markers) _ (fits (markers_fit s) Markers g.shaped.markers)
      (none_both (unless (allowed_fit s One) (Allowed One)) _ (fits (allowed_fit s One) (Allowed One) (g.shaped.allowed One))
      (none_both (unless (allowed_fit s Two) (Allowed Two)) _ (fits (allowed_fit s Two) (Allowed Two) (g.shaped.allowed Two))
      (none_both (unless (refuted_fit s) RefutedList) _ (fits (refuted_fit s) RefutedList g.shaped.refuted)
      (fits (images_fit s) Images g.shaped.images)))))))

  no_pair : (axis : Axis) → pairs_fault s axis ≡ None
  no_pair axis = all_none (row_fault s axis) 0 (length s.fine.tiles) (λ a lo la. all_none (pair_fault s axis a) 0 (length s.fine.tiles) (λ b lo' lb.
      none_both (unless (is_named_well s axis a b) (Pair axis a b)) (if is_barred s axis a b then trees_fault s axis a b else None)
      (fits (is_named_well s axis a b) (Pair axis a b) (g.named axis a b (omega arith) (omega arith)))
      (over (is_barred s axis a b) (trees_fault s axis a b) (λ h. g.trees axis a b (omega arith) (omega arith) h))))

  no_marker : (axis : Axis) → marker_fault s axis ≡ None
  no_marker axis = none_in (marker_fault_at s axis) (allowed s axis) (λ a b h. fits (is_marked_well s axis a b) (Marker axis a b) (g.marked axis a b h))

  no_image : image_fault s ≡ None
  no_image = all_none (image_fault_at s) 0 (length s.images) (λ i lo li.
      fits (is_good_image s (image_at s i) && not (list_any (same_image (image_at s i)) (take i s.images))) (fault.Image i)
      (rw (g.images i (omega arith), g.distinct i (omega arith)) refl))

  no_tile : missing_tile s ≡ None
  no_tile = all_none (missing_tile_at s) 0 (length s.fine.tiles) (λ u lo lu.
      fits (not (is_demanded s u) || list_any (same_image (Single u)) s.images) (MissingTile u)
      (implies (is_demanded s u) (list_any (same_image (Single u)) s.images) (λ h. g.has_tiles u (omega arith) h)))

  no_block : missing_pair s ≡ None
  no_block = none_in (missing_pair_at s) (allowed s s.axis) (λ a b h.
      fits (not (is_block s a b) || list_any (same_image (Double a b)) s.images) (MissingPair a b)
      (implies (is_block s a b) (list_any (same_image (Double a b)) s.images) (λ k. g.has_pairs a b h k)))

  no_join : (axis : Axis) → join_fault s axis ≡ None
  no_join axis = all_none (join_row s axis) 0 (length s.coarse.tiles) (λ i lo li. all_none (join_fault_at s axis i) 0 (length s.coarse.tiles) (λ j lo' lj.
      fits (agree (matches s.coarse.tiles axis i j) (images_match s axis (image_at s i) (image_at s j))) (Join axis i j)
      (agrees (matches s.coarse.tiles axis i j) (images_match s axis (image_at s i) (image_at s j)) (g.joins axis i j (omega arith) (omega arith)))))

  no_rule : rules_fault s ≡ None
  unfolding rules_fault
  no_rule =
      none_both (pairs_fault s One) _ (no_pair One)
      (none_both (pairs_fault s Two) _ (no_pair Two)
      (none_both (marker_fault s One) _ (no_marker One)
      (none_both (marker_fault s Two) _ (no_marker Two)
      (none_both (image_fault s) _ no_image
      (none_both (missing_tile s) _ no_tile
      (none_both (missing_pair s) _ no_block
      (none_both (join_fault s One) (join_fault s Two) (no_join One) (no_join Two))))))))

  pub no_fault : step_fault s ≡ None
  unfolding step_fault
  no_fault = none_both (shape_fault s) (rules_fault s) no_shape no_rule
