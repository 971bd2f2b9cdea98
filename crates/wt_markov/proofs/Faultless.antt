-- A partition without a fault is as it must be.
use Rattle.std.proofs.Common.{arith, ◌≡◌, ℕ, zero, suc, ◌<◌, List, [], ◌∷◌, length, nat_eq, nat_lt, Bool, true, false, ◌&&◌, not, cond, Option, None, Some, slice_get, refl, sym, ap, subst, ◌∙◌, inl, inr}
use Rattle.std.proofs.lemmas.Bool.{and_parts, or_right}
use Rattle.std.proofs.lemmas.Bool.Decides.{nat_tests}
use Rattle.std.proofs.lemmas.Option.{slice_get_within, slice_get-get_or, get_or_from_slice_get}
use Rattle.wt_grid.specs.First.{or_else, first_from}
use Rattle.wt_grid.specs.Order.{first_in}
use Rattle.std.specs.List.{list_any}
use Rattle.wt_grid.proofs.First.{neither, none_from, all_none}
use Rattle.wt_tile.specs.declared.tile.Tile.{Tile}
use Rattle.wt_grid.specs.declared.axis.Axis.{Axis}
use Rattle.wt_grid.specs.declared.axis.Axis.TheVariants.{One, Two}
use Rattle.wt_grid.specs.declared.axis.Side.{Side}
use Rattle.wt_grid.specs.declared.axis.Side.TheVariants.{After, Before}
use Rattle.wt_tile.specs.Matching.{matches}
use Rattle.wt_torus.specs.declared.partition.Labelled.{Labelled}
use Rattle.wt_torus.specs.declared.partition.Partition.{Partition}
use Rattle.wt_torus.proofs.Rotation.{flag}
use Rattle.wt_induce.specs.Law.{is_half}
use Rattle.wt_step.specs.declared.raw.RawStep.{RawStep}
use Rattle.wt_step.specs.Words.{is_marker}
use Rattle.wt_markov.specs.declared.fault.MarkovFault.TheVariants as markov_of
use Rattle.wt_markov.specs.declared.fault.WindowFault.TheVariants as window_of
use Rattle.wt_markov.specs.Follow.{can_follow}
use Rattle.wt_markov.specs.Markov.{Markov}
use Rattle.wt_markov.specs.Window.{MarkerWindow, is_beyond, is_inside}
use Rattle.wt_markov.specs.Faults.{region_at, tile_fault_at, tile_fault, turns_fit, AllTurnsFit, pair_fault_at, pair_row, pair_fault, markov_fault}
use Rattle.wt_markov.specs.WindowFaults.{side_fault, half_fault, edges_fit, EdgesFit, label_fault_at, window_fault_at, regions_fault, stands_beyond, nowhere_at, window_fault}

-- of a choice that gives nothing
then_none : {A : Type 0} (b : Bool) (x : Option A) (y : A) → cond b x (Some y) ≡ None → (b ≡ true) × (x ≡ None)
then_none true x y e = (refl, e)
then_none false x y e = absurd cc

else_none : {A : Type 0} (b : Bool) (y : A) (x : Option A) → cond b (Some y) x ≡ None → (b ≡ false) × (x ≡ None)
else_none true y x e = absurd cc
else_none false y x e = (refl, e)

-- a and not b isn't
implied : (a b : Bool) → (a && not b) ≡ false → a ≡ true → b ≡ true
implied true true e f = refl
implied true false e f = absurd cc
implied false b e f = absurd cc

barred : (a b : Bool) → (a && b) ≡ false → a ≡ true → b ≡ false
barred true true e f = absurd cc
barred true false e f = refl
barred false b e f = absurd cc

-- the other way round
chosen : {A : Type 0} (b : Bool) (x y : Option A) → b ≡ true → x ≡ None → cond b x y ≡ None
chosen b x y e f = rw (e, f) refl

passed_by : {A : Type 0} (b : Bool) (y : A) (x : Option A) → b ≡ false → x ≡ None → cond b (Some y) x ≡ None
passed_by b y x e f = rw (e, f) refl

not_barred : (a b : Bool) → (a ≡ true → b ≡ true) → (a && not b) ≡ false
not_barred true b h = rw (h refl) refl
not_barred false b h = refl

not_both : (a b : Bool) → (a ≡ true → b ≡ false) → (a && b) ≡ false
not_both true b h = h refl
not_both false b h = refl

region_there : (p : Partition) (i : ℕ) → i < length p.regions → slice_get p.regions i ≡ Some (region_at p i)
region_there p i lt = slice_get-get_or p.regions i _ lt

region_is : (p : Partition) (i : ℕ) (r : Labelled) → slice_get p.regions i ≡ Some r → (i < length p.regions) × (region_at p i ≡ r)
region_is p i r e = (slice_get_within p.regions i r e, get_or_from_slice_get p.regions i r _ e)

module _ (ts : List Tile) (p : Partition) where
  pair_none : (axis : Axis) → pair_fault ts axis p ≡ None → (i j : ℕ) → i < length p.regions → j < length p.regions
      → can_follow axis p.torus (region_at p i) (region_at p j) ≡ true → matches ts axis (region_at p i).label (region_at p j).label ≡ true
  pair_none axis e i j li lj f =
      let row = none_from (pair_row ts axis p) 0 (length p.regions) i e (omega arith) (omega arith) in
      let here = none_from (pair_fault_at ts axis p i) 0 (length p.regions) j row (omega arith) (omega arith) in
      let a = can_follow axis p.torus (region_at p i) (region_at p j) in
      let b = matches ts axis (region_at p i).label (region_at p j).label in
      let fits = then_none (turns_fit axis p.torus (region_at p j)) (cond (a && not b) (Some (markov_of.Pair axis i j)) None) markov_of.TooLarge here in
      implied a b (else_none (a && not b) (markov_of.Pair axis i j) None fits.1).0 f

  by_axis : (axis : Axis) → pair_fault ts One p ≡ None → pair_fault ts Two p ≡ None → pair_fault ts axis p ≡ None
  by_axis One e f = e
  by_axis Two e f = f

  pub markov_without : markov_fault ts p ≡ None → Markov ts p
  unfolding markov_fault
  markov_without e =
      let t = neither (tile_fault ts p) (or_else (pair_fault ts One p) (pair_fault ts Two p)) e in
      let u = neither (pair_fault ts One p) (pair_fault ts Two p) t.1 in record {
        tiles = λ i r s.
            let k = region_is p i r s in
            let here = none_from (tile_fault_at ts p) 0 (length p.regions) i t.0 (omega arith) (omega arith) in
            let lt = (then_none (nat_lt (region_at p i).label (length ts)) None (markov_of.Tile i) here).0 in
            subst (λ (q : Labelled). q.label < length ts) k.1 (grind (arith, nat_tests, lt));
        matched = λ axis i j r q s t' f.
            let k = region_is p i r s in
            let l = region_is p j q t' in
            let m = pair_none axis (by_axis axis u.0 u.1) i j k.0 l.0 (ap (λ (x : Labelled). can_follow axis p.torus x (region_at p j)) k.1 ∙ (ap (can_follow axis p.torus r) l.1 ∙ f)) in
            subst (λ (x : Labelled). matches ts axis r.label x.label ≡ true) l.1 (subst (λ (x : Labelled). matches ts axis x.label (region_at p j).label ≡ true) k.1 m);
      }

  row_fits : (axis : Axis) → pair_fault ts axis p ≡ None → (j : ℕ) → j < length p.regions → turns_fit axis p.torus (region_at p j) ≡ true
  row_fits axis e j lj =
      let row = none_from (pair_row ts axis p) 0 (length p.regions) j e (omega arith) (omega arith) in
      let here = none_from (pair_fault_at ts axis p j) 0 (length p.regions) j row (omega arith) (omega arith) in
      let a = can_follow axis p.torus (region_at p j) (region_at p j) in
      let b = matches ts axis (region_at p j).label (region_at p j).label in
      (then_none (turns_fit axis p.torus (region_at p j)) (cond (a && not b) (Some (markov_of.Pair axis j j)) None) markov_of.TooLarge here).0

  pub turns_within : markov_fault ts p ≡ None → AllTurnsFit p
  unfolding markov_fault
  turns_within e axis =
      let t = neither (tile_fault ts p) (or_else (pair_fault ts One p) (pair_fault ts Two p)) e in
      let u = neither (pair_fault ts One p) (pair_fault ts Two p) t.1 in
      row_fits axis (by_axis axis u.0 u.1)

  module _ (m : Markov ts p) (fit : AllTurnsFit p) where
    no_tile : tile_fault ts p ≡ None
    no_tile = all_none (tile_fault_at ts p) 0 (length p.regions) (λ i low high.
        let li : i < length p.regions = omega (arith, high) in
        let lt = m.tiles i (region_at p i) (region_there p i li) in
        chosen (nat_lt (region_at p i).label (length ts)) None (Some (markov_of.Tile i)) (grind (arith, nat_tests, lt)) refl)

    no_pair_at : (axis : Axis) (i j : ℕ) → i < length p.regions → j < length p.regions → pair_fault_at ts axis p i j ≡ None
    no_pair_at axis i j li lj =
        let a = can_follow axis p.torus (region_at p i) (region_at p j) in
        let b = matches ts axis (region_at p i).label (region_at p j).label in
        chosen (turns_fit axis p.torus (region_at p j)) (cond (a && not b) (Some (markov_of.Pair axis i j)) None) (Some markov_of.TooLarge) (fit axis j lj)
        (passed_by (a && not b) (markov_of.Pair axis i j) None (not_barred a b (m.matched axis i j (region_at p i) (region_at p j) (region_there p i li) (region_there p j lj))) refl)

    no_pair : (axis : Axis) → pair_fault ts axis p ≡ None
    no_pair axis = all_none (pair_row ts axis p) 0 (length p.regions) (λ i low high.
        all_none (pair_fault_at ts axis p i) 0 (length p.regions) (λ j low' high'. no_pair_at axis i j (omega (arith, high)) (omega (arith, high'))))

    pub no_markov_fault : markov_fault ts p ≡ None
    unfolding markov_fault
    no_markov_fault = rw (no_tile, no_pair One, no_pair Two) refl

-- ---- windows

after_of : (side : Side) → side_fault side ≡ None → side ≡ After
after_of After e = refl
after_of Before e = absurd cc

module _ (s : RawStep) (p : Partition) where
  found_beyond : (a : ℕ) (rs : List Labelled) → list_any (stands_beyond s p.torus a) rs ≡ true
      → (i : ℕ) × (r : Labelled) × (slice_get rs i ≡ Some r) × (r.label ≡ a) × (is_beyond s.axis p.torus r ≡ true)
  found_beyond a [] e = absurd cc
  found_beyond a (r ∷ rs) e = elim (flag (stands_beyond s p.torus a r)) [
    | inl f ↦ let t = and_parts (nat_eq r.label a) (is_beyond s.axis p.torus r) f in (0, r, refl, grind (arith, nat_tests, t.0), t.1)
    | inr f ↦
        let g : list_any (stands_beyond s p.torus a) rs ≡ true = rw f at e in
        let h = found_beyond a rs g in (suc h.0, h.1, h.2, h.3, h.4)
  ]

  none_nowhere : (a : ℕ) (ms : List ℕ) → first_in (nowhere_at s p) ms ≡ None → list_any (nat_eq a) ms ≡ true → list_any (stands_beyond s p.torus a) p.regions ≡ true
  none_nowhere a [] e h = absurd cc
  none_nowhere a (b ∷ ms) e h =
      let t = neither (nowhere_at s p b) (first_in (nowhere_at s p) ms) e in
      elim (flag (nat_eq a b)) [
        | inl f ↦
            let same : a ≡ b = grind (arith, nat_tests, f) in
            subst (λ (x : ℕ). list_any (stands_beyond s p.torus x) p.regions ≡ true) (sym same)
            (then_none (list_any (stands_beyond s p.torus b) p.regions) None (window_of.Nowhere b) t.0).0
        | inr f ↦ let g : list_any (nat_eq a) ms ≡ true = rw f at h in none_nowhere a ms t.1 g
      ]

  region_none : first_from (window_fault_at s p) 0 (length p.regions) ≡ None → (i : ℕ) → i < length p.regions
      → (is_beyond s.axis p.torus (region_at p i) ≡ true → is_marker s (region_at p i).label ≡ true)
      × (is_inside s.axis p.torus (region_at p i) ≡ true → is_marker s (region_at p i).label ≡ false)
  region_none e i li =
      let here = none_from (window_fault_at s p) 0 (length p.regions) i e (omega arith) (omega arith) in
      let a = is_beyond s.axis p.torus (region_at p i) in
      let b = is_inside s.axis p.torus (region_at p i) in
      let m = is_marker s (region_at p i).label in
      let t = then_none (edges_fit s.axis p.torus) (cond (a && not m) (Some (window_of.Outside i)) (cond (b && m) (Some (window_of.Inside i)) None)) window_of.TooLarge here in
      let u = else_none (a && not m) (window_of.Outside i) (cond (b && m) (Some (window_of.Inside i)) None) t.1 in
      let v = else_none (b && m) (window_of.Inside i) None u.1 in
      (implied a m u.0, barred b m v.0)

  pub window_without : window_fault s p ≡ None → (s.side ≡ After) × (is_half s.axis p.torus ≡ false) × MarkerWindow s p
  unfolding window_fault
  window_without e =
      let half = cond (is_half s.axis p.torus) (Some window_of.Half) None in
      let regions = first_from (window_fault_at s p) 0 (length p.regions) in
      let nowhere = first_in (nowhere_at s p) s.markers in
      let t = neither (side_fault s.side) (or_else half (or_else regions nowhere)) e in
      let u = neither half (or_else regions nowhere) t.1 in
      let v = neither regions nowhere u.1 in (
        after_of s.side t.0,
        (else_none (is_half s.axis p.torus) window_of.Half None u.0).0,
        record {
          outside = λ i r q b.
              let k = region_is p i r q in
              let n = (region_none v.0 i k.0).0 in
              subst (λ (x : Labelled). is_marker s x.label ≡ true) k.1 (n (ap (is_beyond s.axis p.torus) k.1 ∙ b));
          inside = λ i r q b.
              let k = region_is p i r q in
              let n = (region_none v.0 i k.0).1 in
              subst (λ (x : Labelled). is_marker s x.label ≡ false) k.1 (n (ap (is_inside s.axis p.torus) k.1 ∙ b));
          somewhere = λ a m. found_beyond a p.regions (none_nowhere a s.markers v.1 m);
        },
      )

  pub edges_within : window_fault s p ≡ None → EdgesFit s p
  unfolding window_fault
  edges_within e some =
      let t = neither (side_fault s.side) (or_else (half_fault s.axis p.torus) (or_else (regions_fault s p) (first_in (nowhere_at s p) s.markers))) e in
      let u = neither (half_fault s.axis p.torus) (or_else (regions_fault s p) (first_in (nowhere_at s p) s.markers)) t.1 in
      let v = neither (regions_fault s p) (first_in (nowhere_at s p) s.markers) u.1 in
      let here = none_from (window_fault_at s p) 0 (length p.regions) 0 v.0 (omega arith) (omega arith) in
      (then_none (edges_fit s.axis p.torus) (label_fault_at s p 0) window_of.TooLarge here).0

  any_there : (f : Labelled → Bool) (rs : List Labelled) (i : ℕ) (r : Labelled) → slice_get rs i ≡ Some r → f r ≡ true → list_any f rs ≡ true
  any_there f [] i r e h = absurd cc
  any_there f (x ∷ rs) zero r e h =
      let same : x ≡ r = cc in
      rw (ap f same ∙ h) refl
  any_there f (x ∷ rs) (suc i) r e h = or_right (f x) (list_any f rs) (any_there f rs i r e h)

  module _ (after : s.side ≡ After) (half : is_half s.axis p.torus ≡ false) (m : MarkerWindow s p) (fit : EdgesFit s p) where
    no_label : (i : ℕ) → i < length p.regions → label_fault_at s p i ≡ None
    no_label i li =
        let r = region_at p i in
        let there = region_there p i li in
        passed_by (is_beyond s.axis p.torus r && not (is_marker s r.label)) (window_of.Outside i) _ (not_barred (is_beyond s.axis p.torus r) (is_marker s r.label) (m.outside i r there))
        (passed_by (is_inside s.axis p.torus r && is_marker s r.label) (window_of.Inside i) None (not_both (is_inside s.axis p.torus r) (is_marker s r.label) (m.inside i r there)) refl)

    no_region : regions_fault s p ≡ None
    no_region = all_none (window_fault_at s p) 0 (length p.regions) (λ i low high.
        chosen (edges_fit s.axis p.torus) (label_fault_at s p i) (Some window_of.TooLarge) (fit (omega (arith, high))) (no_label i (omega (arith, high))))

    found_at : (a : ℕ) → is_marker s a ≡ true → list_any (stands_beyond s p.torus a) p.regions ≡ true
    found_at a k =
        let f = m.somewhere a k in
        any_there (stands_beyond s p.torus a) p.regions f.0 f.1 f.2 (rw (f.4) (let same = f.3 in grind (arith, nat_tests, same)))

    no_nowhere : (ms : List ℕ) → ((a : ℕ) → list_any (nat_eq a) ms ≡ true → is_marker s a ≡ true) → first_in (nowhere_at s p) ms ≡ None
    no_nowhere [] h = refl
    no_nowhere (a ∷ ms) h =
        let same : nat_eq a a ≡ true = grind (arith, nat_tests) in
        let here = chosen (list_any (stands_beyond s p.torus a) p.regions) None (Some (window_of.Nowhere a)) (found_at a (h a (rw same refl))) refl in
        rw (here, no_nowhere ms (λ b k. h b (or_right (nat_eq b a) (list_any (nat_eq b) ms) k))) refl

    pub no_window_fault : window_fault s p ≡ None
    unfolding window_fault
    no_window_fault = rw (after, half, no_region, no_nowhere s.markers (λ a k. k)) refl
