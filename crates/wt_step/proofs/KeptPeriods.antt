-- A period of a valid pattern is a period of the pattern that a restrict step keeps.
use Rattle.std.proofs.Common.{arith, ◌≡◌, ◌≤◌, ◌+◌, ℕ, Option, None, Some, slice_get, option_map, ℤ, cond, sym, ◌∙◌, ap, subst}
use Rattle.wt_grid.specs.declared.image.Image.TheVariants.{One as Single, Two as Double}
use Rattle.wt_grid.specs.declared.axis.Axis.TheVariants.{One}
use Rattle.std.proofs.lemmas.Option.{slice_get-map}
use Rattle.wt_pattern.specs.Periods.{IsPeriodAlong}
use Rattle.wt_grid.specs.Grid.{Grid, IsGrid, at}
use Rattle.wt_grid.specs.Parts.{core}
use Rattle.wt_grid.specs.Shifts.{IsRepeated}
use Rattle.wt_grid.proofs.CarriedGrids.{core_repeated}
use Rattle.wt_grid.proofs.SingleImages.{NoPairs, StandsFor, cells_stand}
use Rattle.wt_step.specs.declared.raw.RawRestrict.{RawRestrict}
use Rattle.wt_step.specs.Good.{IsGoodRestrict}
use Rattle.wt_step.specs.Meaning.{kept_pieces, IsRestriction}
use Rattle.wt_step.specs.Carried.{magnitude}
use Rattle.wt_step.proofs.Restricted.{kept_once}
use Rattle.wt_step.proofs.SignedPeriods.{are_opposed, to_vector, from_vector, own_sign}

module _ (s : RawRestrict) (g : IsGoodRestrict s) where
  kept_apart : (i j a : ℕ) → slice_get (kept_pieces s) i ≡ Some (Single a) → slice_get (kept_pieces s) j ≡ Some (Single a) → i ≡ j
  kept_apart i j a e f = kept_once s g i j a (back i a e) (back j a f)
    where
      of_one : (o : Option ℕ) (a : ℕ) → option_map Single o ≡ Some (Single a) → o ≡ Some a
      of_one None a e = absurd cc
      of_one (Some b) a e = let f : Some (Single b) ≡ Some (Single a) = e in cc

      back : (i a : ℕ) → slice_get (kept_pieces s) i ≡ Some (Single a) → slice_get s.kept i ≡ Some a
      back i a e = of_one (slice_get s.kept i) a (sym (slice_get-map Single s.kept i) ∙ e)

  pub no_pairs : NoPairs (kept_pieces s)
  no_pairs i a b e = none (slice_get s.kept i) (sym (slice_get-map Single s.kept i) ∙ e)
    where
      none : (o : Option ℕ) → option_map Single o ≡ Some (Double a b) → ⊥
      none None e = cc
      none (Some c) e = let f : Some (Single c) ≡ Some (Double a b) = e in cc

  -- a period of the core is one of the kept rectangle
  pub kept_vector : (c q : Grid) (d a b : ℕ) → StandsFor (kept_pieces s) One q c → IsRepeated One d a b c → IsRepeated One d a b q
  kept_vector c q d a b st h i j li la lb =
      let w = st.0 in let t = st.1 in
      let x = st.2 i (j + a) (omega arith) (omega arith) in
      let y = st.2 (i + d) (j + b) (omega arith) (omega arith) in
      let e : at One c i (j + a) ≡ at One c (i + d) (j + b) = h i j (omega arith) (omega arith) (omega arith) in
      kept_apart (at One q i (j + a)) (at One q (i + d) (j + b)) (at One c i (j + a)) x (y ∙ ap (λ (z : ℕ). Some (Single z)) (sym e))

  pub kept_period : (p q : Grid) → IsGrid q → IsRestriction s p q → 1 ≤ (core s.radius p).height → (x y : ℤ) → IsPeriodAlong One p x y → IsPeriodAlong One q x y
  kept_period p q iq i some x y h =
      let c = core s.radius p in
      let o = are_opposed x y in
      let st = cells_stand (kept_pieces s) One q c no_pairs iq some i in
      let v = kept_vector c q (magnitude x) (cond o (magnitude y) 0) (cond o 0 (magnitude y)) st
      (core_repeated One s.radius (magnitude x) (cond o (magnitude y) 0) (cond o 0 (magnitude y)) p (to_vector One p x y h)) in
      subst (λ (z : ℤ). IsPeriodAlong One q z y) (own_sign x) (from_vector One q x y (magnitude x) v)
