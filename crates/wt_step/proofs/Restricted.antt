-- Good restrict steps, and what they make of valid rectangles.
use Rattle.std.proofs.Common.{arith, ◌≡◌, ◌≤◌, ◌<◌, ℕ, zero, suc, List, [], ◌∷◌, length, map, slice_get, Option, None, Some, option_map, Bool, true, false, not, nat_eq, nat_lt, nat_le, refl, sym, ◌∙◌, ap, subst, inl}
use Rattle.wt_grid.proofs.Unless.{holds, fits}
use Rattle.wt_grid.specs.Unless.{unless}
use Rattle.std.proofs.lemmas.Bool.{and_parts}
use Rattle.std.specs.List.{list_any}
use Rattle.wt_grid.specs.declared.image.Image.TheVariants.{One as Single, Two as Double}
use Rattle.wt_grid.specs.declared.image.Image.{Image}
use Rattle.wt_grid.specs.declared.axis.Axis.TheVariants.{One, Two}
use Rattle.wt_grid.specs.declared.axis.Axis.{Axis}
use Rattle.std.proofs.lemmas.Bool.Decides.{nat_tests}
use Rattle.std.proofs.lemmas.Option.{slice_get-map}
use Rattle.std.proofs.lemmas.List.{length-map}
use Rattle.wt_tile.specs.Sets.{set_fault}
use Rattle.wt_tile.specs.Matching.{matches}
use Rattle.wt_refute.specs.Refutes.{tile_tree_fault}
use Rattle.wt_refute.proofs.Faults.{absent, no_tile_fault}
use Rattle.wt_tile.proofs.TileSets.{tile_set, no_fault as set_none}
use Rattle.wt_grid.specs.Order.{in_order, first_in, agree, comes_before, is_below, IsSplit}
use Rattle.wt_grid.proofs.First.{neither, none_from, all_none, none_under}
use Rattle.wt_grid.proofs.Order.{split, agreed, agrees}
use Rattle.wt_grid.specs.Lines.{Table, IsGood, Singles, IsImage}
use Rattle.wt_grid.proofs.Coarse.{first, last, MatchAcross, coarse_field}
use Rattle.wt_grid.proofs.Desub.{one_parse}
use Rattle.wt_grid.specs.Grid.{Grid, IsGrid, cell, listed, lines}
use Rattle.wt_grid.specs.Parts.{core, AllBelow}
use Rattle.wt_grid.proofs.Parts.{core_valid, core_below}
use Rattle.wt_grid.proofs.Law.{coarse_grid}
use Rattle.wt_grid.proofs.Grids.{length_lines, long_lines, filled_long, field_lines, lines_field}
use Rattle.wt_grid.proofs.Rectangles.{same_lines, below_lines, in_image}
use Rattle.wt_pattern.specs.Patterns.{IsPattern}
use Rattle.wt_step.specs.declared.raw.RawRestrict.{RawRestrict}
use Rattle.wt_step.specs.declared.raw.StepFault.TheVariants.{Radius, Fine, Coarse, Kept, LostList, LostNode, Join}
use Rattle.wt_step.specs.Restrict.{kept_fit, lost_fit, is_kept, is_lost, loses, sorted_fault_at, lost_fault, lost_fault_at, kept_at, kept_match, kept_join_at, kept_join_row, kept_join_fault, sorting_fault, use_fault, restrict_fault}
use Rattle.wt_step.specs.Good.{IsGoodRestrict}
use Rattle.wt_step.specs.Meaning.{kept_pieces, IsRestriction}
use Rattle.wt_step.proofs.Sorted.{sorted}
use Rattle.wt_step.proofs.Faultless.{none_both}
use Rattle.wt_step.proofs.Tables.{some_of, has_some}
use Rattle.wt_step.proofs.Once.{one_place}

-- An answer that is none on a list.
none_of : {A B : Type 0} (f : A → Option B) (xs : List A) → first_in f xs ≡ None → (i : ℕ) (x : A) → slice_get xs i ≡ Some x → f x ≡ None
none_of f [] e i x g = absurd (cc g)
none_of f (y ∷ ys) e zero x g = let n = neither (f y) (first_in f ys) e in let h : Some y ≡ Some x = g in let k : y ≡ x = cc in ap f (sym k) ∙ n.0
none_of f (y ∷ ys) e (suc i) x g = none_of f ys (neither (f y) (first_in f ys) e).1 i x g

none_list : {A B : Type 0} (f : A → Option B) (xs : List A) → ((i : ℕ) (x : A) → slice_get xs i ≡ Some x → f x ≡ None) → first_in f xs ≡ None
none_list f [] h = refl
none_list f (x ∷ xs) h = none_both (f x) (first_in f xs) (h 0 x refl) (none_list f xs (λ i y e. h (suc i) y e))

-- No fault exactly where it is good.
module _ (s : RawRestrict) where
  joins_good : (axis : Axis) → kept_join_fault s axis ≡ None → (i j : ℕ) → i < length s.coarse.tiles → j < length s.coarse.tiles → matches s.coarse.tiles axis i j ≡ kept_match s axis i j
  joins_good axis e i j li lj =
      agreed (matches s.coarse.tiles axis i j) (kept_match s axis i j)
      (holds (agree (matches s.coarse.tiles axis i j) (kept_match s axis i j)) (Join axis i j)
      (none_from (kept_join_at s axis i) 0 (length s.coarse.tiles) j (none_from (kept_join_row s axis) 0 (length s.coarse.tiles) i e (omega arith) (omega arith)) (omega arith) (omega arith)))

  each_axis : (P : Axis → Type 0) → P One → P Two → (axis : Axis) → P axis
  each_axis P o t One = o
  each_axis P o t Two = t

  pub good_restrict : restrict_fault s ≡ None → IsGoodRestrict s
  unfolding restrict_fault
  good_restrict e =
      let n = neither (sorting_fault s) (use_fault s) e in
      let l = neither (lost_fault s) _ n.1 in
      let j = neither (kept_join_fault s One) (kept_join_fault s Two) l.1 in
      record {
        radius = (sorted s n.0).radius;
        fine = tile_set s.fine (sorted s n.0).fine;
        coarse = tile_set s.coarse (sorted s n.0).coarse;
        kept_list = (sorted s n.0).kept;
        lost_list = (sorted s n.0).lost;
        sorted = (sorted s n.0).sorted;
        trees = λ i x f. (no_tile_fault s.fine.tiles x.tile s.radius x.tree).0
            (none_under (LostNode x.tile) (tile_tree_fault s.fine.tiles x.tile s.radius x.tree) (none_of (lost_fault_at s) s.lost l.0 i x f));
        joins = λ axis i k li lk. joins_good axis (each_axis (λ x. kept_join_fault s x ≡ None) j.0 j.1 axis) i k li lk;
      }

module _ (s : RawRestrict) (g : IsGoodRestrict s) where
  no_sorting : sorting_fault s ≡ None
  unfolding sorting_fault
  no_sorting =
      let small : nat_le s.radius 4 ≡ true = (let r = g.radius in grind (arith, nat_tests, r)) in
      none_both (unless (nat_le s.radius 4) Radius) _ (fits (nat_le s.radius 4) Radius small)
      (none_both (option_map Fine (set_fault s.fine)) _ (ap (option_map Fine) (set_none s.fine g.fine))
      (none_both (option_map Coarse (set_fault s.coarse)) _ (ap (option_map Coarse) (set_none s.coarse g.coarse))
      (none_both (unless (kept_fit s) Kept) _ (fits (kept_fit s) Kept g.kept_list)
      (none_both (unless (lost_fit s) LostList) _ (fits (lost_fit s) LostList g.lost_list)
      (all_none (sorted_fault_at s) 0 (length s.fine.tiles) (λ t lo lt.
      fits (agree (is_lost s t) (not (is_kept s t))) LostList (agrees (is_lost s t) (not (is_kept s t)) (g.sorted t (omega arith)))))))))

  no_kept_join : (axis : Axis) → kept_join_fault s axis ≡ None
  no_kept_join axis = all_none (kept_join_row s axis) 0 (length s.coarse.tiles) (λ i lo li. all_none (kept_join_at s axis i) 0 (length s.coarse.tiles) (λ j lo' lj.
      fits (agree (matches s.coarse.tiles axis i j) (kept_match s axis i j)) (Join axis i j)
      (agrees (matches s.coarse.tiles axis i j) (kept_match s axis i j) (g.joins axis i j (omega arith) (omega arith)))))

  pub no_restrict_fault : restrict_fault s ≡ None
  unfolding restrict_fault
  no_restrict_fault =
      none_both (sorting_fault s) (use_fault s) no_sorting
      (none_both (lost_fault s) _ (none_list (lost_fault_at s) s.lost (λ i l e. ap (option_map (LostNode l.tile)) ((no_tile_fault s.fine.tiles l.tile s.radius l.tree).1 (g.trees i l e))))
      (none_both (kept_join_fault s One) (kept_join_fault s Two) (no_kept_join One) (no_kept_join Two)))

-- Lines of kept tiles.
abbrev AllKept : List ℕ → List ℕ → Type 0
AllKept kept [] = Unit {0}
AllKept kept (a ∷ as') = (list_any (nat_eq a) kept ≡ true) × AllKept kept as'

abbrev AllLinesKept : List ℕ → List (List ℕ) → Type 0
AllLinesKept kept [] = Unit {0}
AllLinesKept kept (u ∷ ls) = AllKept kept u × AllLinesKept kept ls

kept_line : (kept : List ℕ) (n : ℕ) (f : ℕ → ℕ) → ((j : ℕ) → j < n → list_any (nat_eq (f j)) kept ≡ true) → AllKept kept (listed n f)
kept_line kept zero f h = tt
kept_line kept (suc n) f h = (h 0 (omega arith), kept_line kept n (λ j. f (suc j)) (λ j lt. h (suc j) (omega arith)))

kept_lines : (kept : List ℕ) (n m : ℕ) (f : ℕ → ℕ → ℕ) → ((i j : ℕ) → i < n → j < m → list_any (nat_eq (f i j)) kept ≡ true) → AllLinesKept kept (listed n (λ i. listed m (f i)))
kept_lines kept zero m f h = tt
kept_lines kept (suc n) m f h = (kept_line kept m (f 0) (λ j lt. h 0 j (omega arith) lt), kept_lines kept n m (λ i. f (suc i)) (λ i j li lj. h (suc i) j (omega arith) lj))

pub kept_place : (kept : List ℕ) (a : ℕ) → list_any (nat_eq a) kept ≡ true → (i : ℕ) × (slice_get kept i ≡ Some a)
kept_place kept a h =
    let r = has_some (nat_eq a) kept h in
    let same : r.1 ≡ a = (let e = r.3 in grind (arith, nat_tests, e)) in
    (r.0, r.2 ∙ ap Some same)

kept_singles : (kept u : List ℕ) → AllKept kept u → (q : List ℕ) × Singles (map Single kept) q u
kept_singles kept [] h = ([], tt)
kept_singles kept (a ∷ as') h =
    let r = kept_place kept a h.0 in
    let rest = kept_singles kept as' h.1 in
    (r.0 ∷ rest.0, (slice_get-map Single kept r.0 ∙ ap (option_map Single) r.1, rest.1))

kept_image : (kept : List ℕ) (ls : List (List ℕ)) → AllLinesKept kept ls → (qs : List (List ℕ)) × IsImage (map Single kept) qs ls
kept_image kept [] h = ([], tt)
kept_image kept (u ∷ []) h = let q = kept_singles kept u h.0 in (q.0 ∷ [], (q.1, tt))
kept_image kept (u ∷ v ∷ ls) h = let q = kept_singles kept u h.0 in let r = kept_image kept (v ∷ ls) h.1 in (q.0 ∷ r.0, inl (q.1, r.1))

-- the kept tile that a piece comes from
of_one : (o : Option ℕ) (p : Image) → option_map Single o ≡ Some p → (a : ℕ) × (o ≡ Some a) × (Single a ≡ p)
of_one None p e = absurd cc
of_one (Some a) p e = let f : Some (Single a) ≡ Some p = e in (a, refl, cc)

one_first : (a : ℕ) (p : Image) → Single a ≡ p → first p ≡ a
one_first a p e = ap first (sym e)

one_last : (a : ℕ) (p : Image) → Single a ≡ p → last p ≡ a
one_last a p e = ap last (sym e)

numbers_split : (n a : ℕ) (xs : List ℕ) → in_order (is_below n) comes_before xs ≡ true → IsSplit (λ x. nat_lt x a) (nat_eq a) xs
numbers_split n a xs e = split (λ x. nat_lt x a) (nat_eq a) (is_below n) comes_before
    (λ x y f h. grind (arith, nat_tests, f, h)) (λ x y f h. grind (arith, nat_tests, f, h)) (λ x f. grind (arith, nat_tests, f)) xs e

same_number : (a : ℕ) → nat_eq a a ≡ true
same_number a = grind (arith, nat_tests)

module _ (s : RawRestrict) (g : IsGoodRestrict s) where
  -- each tile in the core of a valid rectangle is kept
  pub core_kept : (c : Grid) → IsPattern s.fine.tiles c → (x y : ℕ) → x < (core s.radius c).width → y < (core s.radius c).height → is_kept s (cell (core s.radius c) x y) ≡ true
  core_kept c p x y lx ly = go (is_kept s (cell (core s.radius c) x y)) refl
    where
      go : (b : Bool) → is_kept s (cell (core s.radius c) x y) ≡ b → is_kept s (cell (core s.radius c) x y) ≡ true
      go true e = e
      go false e =
          let t = cell (core s.radius c) x y in
          let below = core_below One (length s.fine.tiles) s.radius c p.1 x y lx ly in
          let lost : is_lost s t ≡ true = g.sorted t below ∙ rw e refl in
          let l = has_some (loses t) s.lost lost in
          let same : t ≡ l.1.tile = (let f = l.3 in grind (arith, nat_tests, f)) in
          absurd (absent s.fine.tiles l.1.tile s.radius l.1.tree ((no_tile_fault s.fine.tiles l.1.tile s.radius l.1.tree).1 (g.trees l.0 l.1 l.2)) c p x y lx ly same)

  pub count_kept : length s.kept ≡ length s.coarse.tiles
  count_kept = let e = (and_parts (in_order (is_below (length s.fine.tiles)) comes_before s.kept) (nat_eq (length s.kept) (length s.coarse.tiles)) g.kept_list).1 in grind (arith, nat_tests, e)

  kept_joined : (axis : Axis) (i j a b : ℕ) → slice_get s.kept i ≡ Some a → slice_get s.kept j ≡ Some b → matches s.fine.tiles axis a b ≡ true → matches s.coarse.tiles axis i j ≡ true
  kept_joined axis i j a b e f m =
      let x = some_of s.kept i a 0 e in
      let y = some_of s.kept j b 0 f in
      let li = x.0 in let lj = y.0 in let n = count_kept in
      g.joins axis i j (omega arith) (omega arith)
      ∙ (subst (λ (u : ℕ). matches s.fine.tiles axis u (kept_at s j) ≡ true) (sym x.1) (subst (λ (v : ℕ). matches s.fine.tiles axis a v ≡ true) (sym y.1) m))

  joins : (i j : ℕ) (p r : Image) → slice_get (kept_pieces s) i ≡ Some p → slice_get (kept_pieces s) j ≡ Some r → matches s.fine.tiles One (last p) (first r) ≡ true → matches s.coarse.tiles One i j ≡ true
  joins i j p r e f m =
      let x = of_one (slice_get s.kept i) p (sym (slice_get-map Single s.kept i) ∙ e) in
      let y = of_one (slice_get s.kept j) r (sym (slice_get-map Single s.kept j) ∙ f) in
      kept_joined One i j x.0 y.0 x.1 y.1 (subst (λ (v : ℕ). matches s.fine.tiles One x.0 v ≡ true) (one_first y.0 r y.2) (subst (λ (u : ℕ). matches s.fine.tiles One u (first r) ≡ true) (one_last x.0 p x.2) m))

  stacks : (i j : ℕ) (p r : Image) → slice_get (kept_pieces s) i ≡ Some p → slice_get (kept_pieces s) j ≡ Some r → MatchAcross (matches s.fine.tiles Two) p r → matches s.coarse.tiles Two i j ≡ true
  stacks i j p r e f m =
      let x = of_one (slice_get s.kept i) p (sym (slice_get-map Single s.kept i) ∙ e) in
      let y = of_one (slice_get s.kept j) r (sym (slice_get-map Single s.kept j) ∙ f) in
      let m' : MatchAcross (matches s.fine.tiles Two) (Single x.0) (Single y.0) = subst (λ (v : Image). MatchAcross (matches s.fine.tiles Two) (Single x.0) v) (sym y.2) (subst (λ (u : Image). MatchAcross (matches s.fine.tiles Two) u r) (sym x.2) m) in
      kept_joined Two i j x.0 y.0 x.1 y.1 m'

  -- each valid rectangle whose core has a cell has a coarse one, and that is valid
  pub some_kept : (c : Grid) → IsPattern s.fine.tiles c → 1 ≤ (core s.radius c).width → 1 ≤ (core s.radius c).height → (q : Grid) × IsRestriction s c q × IsPattern s.coarse.tiles q
  some_kept c p lw lh =
      let d = core s.radius c in
      let ls = lines One d in
      let r = kept_image s.kept ls (kept_lines s.kept d.width d.height (λ i j. cell d i j) (core_kept c p)) in
      let n : 1 ≤ length ls = (let e = length_lines One d in omega arith) in
      let q = coarse_grid One (kept_pieces s) d.height r.0 ls lh n (long_lines One d) r.1 in
      let i : IsImage (kept_pieces s) (lines One q.0) ls = (let P : List (List ℕ) → Type 0 = λ qs. IsImage (kept_pieces s) qs ls in subst P (sym q.2) r.1) in
      let f = coarse_field (kept_pieces s) (matches s.fine.tiles One) (matches s.fine.tiles Two) (matches s.coarse.tiles One) (matches s.coarse.tiles Two) joins stacks ls (lines One q.0) i
      (field_lines (matches s.fine.tiles) One d (core_valid (matches s.fine.tiles) s.radius c p.2)) in
      let m : length (kept_pieces s) ≡ length s.coarse.tiles = length-map s.kept Single ∙ count_kept in
      (q.0, i, (q.1, subst (λ (n : ℕ). AllBelow n q.0) m (below_lines One (length (kept_pieces s)) q.0 (in_image (kept_pieces s) (lines One q.0) ls i)), lines_field (matches s.coarse.tiles) One q.0 f))

  pub kept_once : (i j a : ℕ) → slice_get s.kept i ≡ Some a → slice_get s.kept j ≡ Some a → i ≡ j
  kept_once i j a e f =
      let o = (and_parts (in_order (is_below (length s.fine.tiles)) comes_before s.kept) (nat_eq (length s.kept) (length s.coarse.tiles)) g.kept_list).0 in
      one_place (λ z. nat_lt z a) (nat_eq a) s.kept i j a a (numbers_split (length s.fine.tiles) a s.kept o) e f (same_number a) (same_number a)

  ones_apart : (i j : ℕ) (p : Image) → slice_get (kept_pieces s) i ≡ Some p → slice_get (kept_pieces s) j ≡ Some p → i ≡ j
  ones_apart i j p e f =
      let x = of_one (slice_get s.kept i) p (sym (slice_get-map Single s.kept i) ∙ e) in
      let y = of_one (slice_get s.kept j) p (sym (slice_get-map Single s.kept j) ∙ f) in
      let same : x.0 ≡ y.0 = sym (one_first x.0 p x.2) ∙ one_first y.0 p y.2 in
      kept_once i j x.0 x.1 (y.1 ∙ ap Some (sym same))

  no_two : (i a b : ℕ) → slice_get (kept_pieces s) i ≡ Some (Double a b) → ⊥
  no_two i a b e = let x = of_one (slice_get s.kept i) (Double a b) (sym (slice_get-map Single s.kept i) ∙ e) in let f : Single x.0 ≡ Double a b = x.2 in cc

  abbrev plain : Table
  plain = record { marker = λ a. false; along = λ a b. false; across = λ a b. false; images = kept_pieces s }

  plain_good : IsGood plain
  plain_good = record {
    apart = λ a b e. absurd (cc e);
    uniform = λ a b e. refl;
    ones = λ i a e. refl;
    twos = λ i a b e. absurd (no_two i a b e);
    distinct = ones_apart;
    has_ones = λ a b e. absurd (cc e);
    has_twos = λ a b e. absurd (cc e);
  }

  -- and no other
  pub one_kept : (c q r : Grid) → 1 ≤ (core s.radius c).height → IsGrid q → IsGrid r → IsRestriction s c q → IsRestriction s c r → q ≡ r
  one_kept c q r lh iq ir i j =
      let d = core s.radius c in
      same_lines One q r iq ir (one_parse plain plain_good (lines One d) (lines One q) (lines One r) (filled_long d.height (lines One d) lh (long_lines One d)) i j)
