-- The places of kept tiles, and the coarse rectangle that is read by them.
use Rattle.std.proofs.Common.{arith, ◌≡◌, ◌≤◌, ◌<◌, ◌+◌, ◌&&◌, ℕ, zero, suc, List, [], ◌∷◌, length, get_or, set, slice_get, slice_index, Some, option_map, true, nat_eq, nat_lt, refl, sym, ◌∙◌, ap, subst, inl, inr}
use Rattle.wt_grid.specs.declared.image.Image.TheVariants.{One as Single}
use Rattle.wt_grid.specs.declared.axis.Axis.TheVariants.{One}
use Rattle.std.proofs.lemmas.Bool.{cases_lt, and_parts}
use Rattle.std.proofs.lemmas.Bool.Decides.{nat_tests}
use Rattle.std.proofs.lemmas.Option.{slice_get-map}
use Rattle.std.proofs.lemmas.List.{get_or-set_same, get_or-set_other, length-set}
use Rattle.wt_grid.specs.Order.{in_order, leads, comes_before, is_below}
use Rattle.wt_grid.specs.Grid.{Grid, cell, grid_of}
use Rattle.wt_grid.specs.Parts.{core}
use Rattle.wt_grid.proofs.Parts.{at_core, along_core, across_core, grid_grid}
use Rattle.wt_grid.proofs.Bridge.{cell_of}
use Rattle.wt_grid.proofs.SingleImages.{stand_image}
use Rattle.wt_pattern.specs.Patterns.{IsPattern}
use Rattle.wt_step.specs.declared.raw.RawRestrict.{RawRestrict}
use Rattle.wt_step.specs.Restrict.{kept_at}
use Rattle.wt_step.specs.Good.{IsGoodRestrict}
use Rattle.wt_step.specs.Meaning.{kept_pieces, IsRestriction}
use Rattle.wt_step.specs.Blocks.{cell_at, kept_tile, IsPlaced}
use Rattle.wt_step.proofs.Restricted.{core_kept, kept_place, kept_once, count_kept, some_kept, one_kept}
use Rattle.wt_step.proofs.Tables.{some_of}

each_below : (n : ℕ) (xs : List ℕ) (i a : ℕ) → in_order (is_below n) comes_before xs ≡ true → slice_get xs i ≡ Some a → a < n
each_below n [] i a o e = absurd (cc e)
each_below n (x ∷ xs) zero a o e =
    let f : Some x ≡ Some a = e in
    let same : x ≡ a = cc in
    let b = (and_parts (is_below n x) (leads comes_before x xs) (and_parts (is_below n x && leads comes_before x xs) (in_order (is_below n) comes_before xs) o).0).0 in
    let lt : x < n = grind (arith, nat_tests, b) in omega arith
each_below n (x ∷ xs) (suc i) a o e = each_below n xs i a (and_parts (is_below n x && leads comes_before x xs) (in_order (is_below n) comes_before xs) o).1 e

there : (xs : List ℕ) (i : ℕ) → i < length xs → slice_get xs i ≡ Some (slice_index xs i)
there [] i lt = absurd (omega arith)
there (x ∷ xs) zero lt = refl
there (x ∷ xs) (suc i) lt = there xs i (omega arith)

pub kept_sizes : (s : RawRestrict) → IsGoodRestrict s → (length s.fine.tiles ≤ 256) × (length s.kept ≤ 256)
kept_sizes s g =
    let same = count_kept s g in
    let le = g.coarse.few in
    (g.fine.few, omega arith)

module _ (s : RawRestrict) (g : IsGoodRestrict s) where
  kept_below : (i a : ℕ) → slice_get s.kept i ≡ Some a → a < length s.fine.tiles
  kept_below i a e = each_below (length s.fine.tiles) s.kept i a (and_parts (in_order (is_below (length s.fine.tiles)) comes_before s.kept) (nat_eq (length s.kept) (length s.coarse.tiles)) g.kept_list).0 e

  pub kept_inside : (k : ℕ) → k < length s.kept → kept_at s k < length s.fine.tiles
  kept_inside k lt = kept_below k (kept_at s k) (there s.kept k lt)

  pub placed_more : (k : ℕ) (places : List ℕ) → k < length s.kept → IsPlaced s.kept (length s.fine.tiles) k places → IsPlaced s.kept (length s.fine.tiles) (k + 1) (set places (kept_at s k) k)
  placed_more k places lk h =
      let here = there s.kept k lk in
      let inside = kept_inside k lk in
      let size = h.size in
      record {
        size = length-set places (kept_at s k) k ∙ h.size;
        at = λ i a lt e. elim (cases_lt i k) [
          | inl lo ↦ get_or-set_other places (kept_at s k) a k 0 (λ same. let x = kept_once s g i k a e (here ∙ ap Some (sym same)) in absurd (omega arith)) ∙ h.at i a lo e
          | inr hi ↦
              let x : i ≡ k = omega arith in
              let y : Some a ≡ Some (kept_at s k) = sym e ∙ (ap (slice_get s.kept) x ∙ here) in
              let z : a ≡ kept_at s k = cc in
              ap (λ (c : ℕ). get_or (set places (kept_at s k) k) c 0) z ∙ (get_or-set_same places (kept_at s k) k 0 (omega arith) ∙ sym x)
        ];
      }

  module _ (p : Grid) (h : IsPattern s.fine.tiles p) (lw : 1 ≤ (core s.radius p).width) (lh : 1 ≤ (core s.radius p).height)
      (places : List ℕ) (placed : IsPlaced s.kept (length s.fine.tiles) (length s.kept) places) where
    core_cell : (x y : ℕ) → x < (core s.radius p).width → y < (core s.radius p).height → cell (core s.radius p) x y ≡ cell_at p One (s.radius + x) (s.radius + y)
    core_cell x y lx ly =
        let a = along_core One s.radius p in
        let b = across_core One s.radius p in
        let tx : nat_lt (s.radius + x) p.width ≡ true = (let lt : s.radius + x < p.width = omega arith in grind (arith, nat_tests, lt)) in
        let ty : nat_lt (s.radius + y) p.height ≡ true = (let lt : s.radius + y < p.height = omega arith in grind (arith, nat_tests, lt)) in
        at_core One s.radius p x y lx ly ∙ sym (rw (tx, ty) refl)

    stands : (x y : ℕ) → x < (core s.radius p).width → y < (core s.radius p).height → slice_get (kept_pieces s) (kept_tile s p places x y) ≡ Some (Single (cell (core s.radius p) x y))
    stands x y lx ly =
        let t = cell (core s.radius p) x y in
        let k = kept_place s.kept t (core_kept s g p h x y lx ly) in
        let i : kept_tile s p places x y ≡ k.0 = ap (slice_index places) (sym (core_cell x y lx ly)) ∙ placed.at k.0 t (some_of s.kept k.0 t 0 k.1).0 k.1 in
        slice_get-map Single s.kept (kept_tile s p places x y) ∙ ap (option_map Single) (ap (slice_get s.kept) i ∙ k.1)

    abbrev it : Grid
    it = grid_of (core s.radius p).width (core s.radius p).height (kept_tile s p places)

    kept : IsRestriction s p it
    kept = stand_image (kept_pieces s) One it (core s.radius p) (
      refl,
      refl,
      λ x y lx ly.
          ap (slice_get (kept_pieces s)) (cell_of (core s.radius p).width (core s.radius p).height x y (kept_tile s p places) lx ly) ∙ stands x y lx ly,
    )

    -- the rectangle of the places is the coarse one of the law
    pub placed_kept : IsRestriction s p it × IsPattern s.coarse.tiles it
    placed_kept =
        let q = some_kept s g p h lw lh in
        let pat : IsPattern s.coarse.tiles q.0 = q.2 in
        let same : it ≡ q.0 = one_kept s g p it q.0 lh (grid_grid (core s.radius p).width (core s.radius p).height (kept_tile s p places) lw lh) pat.0 kept q.1 in
        (kept, subst (λ (r : Grid). IsPattern s.coarse.tiles r) (sym same) pat)
