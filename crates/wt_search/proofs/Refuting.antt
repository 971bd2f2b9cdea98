-- Which pairs a good step refutes, and at which radii their windows are empty.
use Rattle.std.proofs.Common.{arith, ◌≡◌, ℕ, zero, suc, ◌+◌, ◌<◌, ◌≤◌, Bool, true, false, ◌&&◌, ◌||◌, not, nat_eq, nat_lt, List, [], ◌∷◌, length, slice_get, Option, None, Some, is_some, refl, sym, ◌∙◌, ap, subst, inl, inr}
use Rattle.std.proofs.lemmas.Bool.{and_parts, or_cases, cases_lt, ltb-true}
use Rattle.std.proofs.lemmas.Bool.Decides.{nat_tests}
use Rattle.std.specs.List.{list_any, find}
use Rattle.wt_grid.specs.Axes.{same_axis}
use Rattle.wt_grid.specs.declared.axis.Axis.{Axis}
use Rattle.wt_grid.specs.declared.axis.Axis.TheVariants.{One, Two}
use Rattle.wt_grid.proofs.First.{count_none, count_some}
use Rattle.wt_grid.proofs.Order.{has_found}
use Rattle.wt_tile.specs.declared.tile.Tile.{Tile}
use Rattle.wt_tile.specs.Matching.{matches}
use Rattle.wt_pattern.specs.Windows.{IsEmptyWindow}
use Rattle.wt_refute.specs.declared.tree.Refuted.{Refuted}
use Rattle.wt_refute.specs.Entries.{is_entry}
use Rattle.wt_refute.specs.Refutation.{Refutation, branch, cite}
use Rattle.wt_refute.specs.View.{refutation}
use Rattle.wt_refute.specs.Placed.{Placed, window_of, tile_in, is_vacant, is_free}
use Rattle.wt_refute.specs.Refutes.{Refutes, lies_inside, serves, is_known, next_placed}
use Rattle.wt_step.specs.declared.raw.RawStep.{RawStep}
use Rattle.wt_step.specs.Words.{allows, is_barred, entry_at, times}
use Rattle.wt_step.specs.Good.{IsGoodStep}
use Rattle.wt_step.proofs.Cores.{entry_empty}
use Rattle.wt_marker.proofs.Listed.{any_found, any_true}
use Rattle.wt_marker.proofs.Trees.{is_entry_same}
use Rattle.wt_search.specs.Light.{has_refutation_at, has_refutation}

-- what is among the elements stands somewhere
pub stands : {A : Type 0} (p : A → Bool) (xs : List A) → list_any p xs ≡ true → (i : ℕ) × (x : A) × (slice_get xs i ≡ Some x) × (p x ≡ true)
stands p [] e = absurd cc
stands p (x ∷ xs) e = elim (or_cases (p x) (list_any p xs) e) [
  | inl t ↦ (0, x, refl, t)
  | inr t ↦ let r = stands p xs t in (suc r.0, r.1, r.2, r.3)
]

-- and what is found is among them
found_among : {A : Type 0} (p : A → Bool) (xs : List A) (x : A) → find p xs ≡ Some x → list_any p xs ≡ true
found_among p xs x e = has_found p xs ∙ ap is_some e

-- the first number that passes
pub least : (p : ℕ → Bool) (i d : ℕ) → p (i + d) ≡ true → (k : ℕ) × (i ≤ k) × (k ≤ i + d) × (p k ≡ true) × ((j : ℕ) → i ≤ j → j < k → p j ≡ false)
least p i zero e = (i, omega arith, omega arith, (let z : i + 0 ≡ i = omega arith in ap p (sym z) ∙ e), λ j lo hi. absurd (omega arith))
least p i (suc d) e = go (p i) refl (least p (i + 1) d (let z : i + 1 + d ≡ i + suc d = omega arith in ap p z ∙ e))
  where
    go : (b : Bool) → p i ≡ b → (k : ℕ) × (i + 1 ≤ k) × (k ≤ i + 1 + d) × (p k ≡ true) × ((j : ℕ) → i + 1 ≤ j → j < k → p j ≡ false)
        → (k : ℕ) × (i ≤ k) × (k ≤ i + suc d) × (p k ≡ true) × ((j : ℕ) → i ≤ j → j < k → p j ≡ false)
    go true t r = (i, omega arith, omega arith, t, λ j lo hi. absurd (omega arith))
    go false t r = (
      r.0,
      omega (arith, r.1),
      omega (arith, r.2),
      r.3,
      λ j lo hi. elim (cases_lt i j) [
        | inl lt ↦ r.4 j (omega arith) hi
        | inr le ↦ let same : j ≡ i = omega arith in ap p same ∙ t
      ],
    )

-- At radius 0 both cells of the window are placed, and nothing is of a lower radius.

none_serves : (width height cell : ℕ) (axis : Axis) (a b : ℕ) (known : List Refuted) → list_any (serves 0 width height cell axis a b) known ≡ true → ⊥
none_serves width height cell axis a b known e =
    let r = stands (serves 0 width height cell axis a b) known e in
    let k = r.1 in
    let p = and_parts (same_axis k.axis axis && nat_eq k.a a && nat_eq k.b b && nat_lt k.radius 0) (lies_inside width height cell axis k.radius) r.3 in
    let q = and_parts (same_axis k.axis axis && nat_eq k.a a && nat_eq k.b b) (nat_lt k.radius 0) p.0 in
    let lt = ltb-true k.radius 0 q.1 in
    omega (arith, lt)

none_known : (known : List Refuted) (p : Placed) (cell : ℕ) (axis : Axis) (a b : Option ℕ) → is_known 0 known p cell axis a b ≡ true → ⊥
none_known known p cell axis None b e = cc
none_known known p cell axis (Some a) None e = cc
none_known known p cell axis (Some a) (Some b) e = none_serves p.width p.height cell axis a b known e

two_cells : (axis : Axis) (a b : ℕ) → length (window_of axis a b 0).cells ≡ 2
two_cells One a b = refl
two_cells Two a b = refl

both_placed : (axis : Axis) (a b cell : ℕ) → cell < 2 → is_vacant (tile_in (window_of axis a b 0) cell) ≡ true → ⊥
both_placed One a b zero lt v = cc
both_placed One a b (suc zero) lt v = cc
both_placed One a b (suc (suc cell)) lt v = omega arith
both_placed Two a b zero lt v = cc
both_placed Two a b (suc zero) lt v = cc
both_placed Two a b (suc (suc cell)) lt v = omega arith

none_free : (axis : Axis) (a b cell : ℕ) → is_free (window_of axis a b 0) cell ≡ true → ⊥
none_free axis a b cell e =
    let g = and_parts (nat_lt cell (length (window_of axis a b 0).cells)) (is_vacant (tile_in (window_of axis a b 0) cell)) e in
    let lt = ltb-true cell (length (window_of axis a b 0).cells) g.0 in
    let n = two_cells axis a b in
    both_placed axis a b cell (omega (arith, lt, n)) g.1

no_tree : (ts : List Tile) (known : List Refuted) (axis : Axis) (a b : ℕ) (tree : Refutation) → Refutes ts 0 known (window_of axis a b 0) tree → ⊥
no_tree ts known axis a b (branch cell branches) r = none_free axis a b cell r.0
no_tree ts known axis a b (cite cell along) r = none_known known (window_of axis a b 0) cell along (tile_in (window_of axis a b 0) cell) (next_placed (window_of axis a b 0) cell along) r

no_tree_at : (ts : List Tile) (known : List Refuted) (axis : Axis) (a b r : ℕ) (tree : Refutation) → r ≡ 0 → Refutes ts r known (window_of axis a b r) tree → ⊥
no_tree_at ts known axis a b r tree z h = no_tree ts known axis a b tree (subst (λ (k : ℕ). Refutes ts k known (window_of axis a b k) tree) z h)

-- a pair that is refuted, and a radius from 1 on at which its window is empty
pub record IsEmptied (s : RawStep) (axis : Axis) (a b k : ℕ) : Type 0 where
  pub some : 1 ≤ k
  pub most : k ≤ s.radius
  pub empty : IsEmptyWindow s.fine.tiles axis a b k

module _ (s : RawStep) (g : IsGoodStep s) where
  -- a refuted pair matches and isn't allowed
  pub refuted_barred : (axis : Axis) (a b : ℕ) → a < length s.fine.tiles → b < length s.fine.tiles → has_refutation s axis a b ≡ true → is_barred s axis a b ≡ true
  refuted_barred axis a b la lb e = go (is_barred s axis a b) refl
    where
      go : (t : Bool) → is_barred s axis a b ≡ t → is_barred s axis a b ≡ true
      go true t = t
      go false t =
          let f = any_found (has_refutation_at s.refuted axis a b) 0 (s.radius + 1) e in
          let w = rw t at (g.named axis a b la lb) in
          let z = (and_parts (matches s.fine.tiles axis a b || not (allows s axis a b)) (nat_eq (times s axis a b) 0) w).1 in
          let none : times s axis a b ≡ 0 = grind (arith, nat_tests, z) in
          let n = count_none (entry_at s axis a b) 0 (s.radius + 1) f.0 none f.1 f.2 in
          let some : is_some (entry_at s axis a b f.0) ≡ true = sym (has_found (is_entry f.0 axis a b) s.refuted) ∙ f.3 in
          absurd (let x = rw n at some in cc)

  -- and each such pair is refuted
  pub barred_refuted : (axis : Axis) (a b : ℕ) → a < length s.fine.tiles → b < length s.fine.tiles → is_barred s axis a b ≡ true → has_refutation s axis a b ≡ true
  barred_refuted axis a b la lb h =
      let w = rw h at (g.named axis a b la lb) in
      let one : times s axis a b ≡ 1 = grind (arith, nat_tests, w) in
      let c = count_some (entry_at s axis a b) 0 (s.radius + 1) (omega (arith, one)) in
      let some : has_refutation_at s.refuted axis a b c.0 ≡ true = found_among (is_entry c.0 axis a b) s.refuted c.2 c.3 in
      any_true (has_refutation_at s.refuted axis a b) 0 (s.radius + 1) c.0 (omega arith) c.1 some

  pub refuted_matches : (axis : Axis) (a b : ℕ) → a < length s.fine.tiles → b < length s.fine.tiles → has_refutation s axis a b ≡ true → matches s.fine.tiles axis a b ≡ true
  refuted_matches axis a b la lb e = (and_parts (matches s.fine.tiles axis a b) (not (allows s axis a b)) (refuted_barred axis a b la lb e)).0

  -- its window is empty at a radius from 1 to the step's
  pub refuted_empty : (axis : Axis) (a b : ℕ) → has_refutation s axis a b ≡ true → (k : ℕ) × IsEmptied s axis a b k
  refuted_empty axis a b e =
      let f = any_found (has_refutation_at s.refuted axis a b) 0 (s.radius + 1) e in
      let at' = stands (is_entry f.0 axis a b) s.refuted f.3 in
      let k = at'.1 in
      let of = is_entry_same f.0 axis a b k at'.3 in
      let hi = f.2 in
      let empty = entry_empty s g at'.0 k at'.2 in
      let same = of.0 in (
        f.0,
        record {
          some = from_one f.0 k at'.0 at'.2 same;
          most = omega arith;
          empty = subst (λ (r : ℕ). IsEmptyWindow s.fine.tiles axis a b r) of.0
              (subst (λ (b' : ℕ). IsEmptyWindow s.fine.tiles axis a b' k.radius) of.3
              (subst (λ (a' : ℕ). IsEmptyWindow s.fine.tiles axis a' k.b k.radius) of.2
              (subst (λ (v : Axis). IsEmptyWindow s.fine.tiles v k.a k.b k.radius) of.1 empty)));
        },
      )
    where
      from_one : (r : ℕ) (k : Refuted) (i : ℕ) → slice_get s.refuted i ≡ Some k → k.radius ≡ r → 1 ≤ r
      from_one zero k i at' z = absurd (no_tree_at s.fine.tiles s.refuted k.axis k.a k.b k.radius (refutation k.tree) z (g.trees i k at'))
      from_one (suc r) k i at' z = omega arith
