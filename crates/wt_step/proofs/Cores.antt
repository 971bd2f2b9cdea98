-- In the core of a valid rectangle each pair of neighbours is allowed.
use Rattle.std.proofs.Common.{arith, ◌≡◌, ◌≤◌, ◌<◌, ◌+◌, ℕ, suc, length, slice_get, Some, Bool, true, false, nat_eq, refl, subst}
use Rattle.wt_grid.specs.declared.axis.Axis.{Axis}
use Rattle.std.proofs.lemmas.Bool.Decides.{nat_tests}
use Rattle.wt_tile.specs.Matching.{matches}
use Rattle.wt_refute.specs.declared.tree.Refuted.{Refuted}
use Rattle.wt_grid.proofs.First.{count_some}
use Rattle.wt_grid.specs.Grid.{Grid, at}
use Rattle.wt_grid.specs.Parts.{core, AllBelow, IsValid, IsWindow}
use Rattle.wt_grid.proofs.Parts.{core_window, core_valid, core_below}
use Rattle.wt_step.specs.declared.raw.RawStep.{RawStep}
use Rattle.wt_step.specs.Words.{allows, is_barred, entry_at, times}
use Rattle.wt_refute.specs.Entries.{is_entry}
use Rattle.wt_step.specs.Good.{IsGoodStep}
use Rattle.wt_step.specs.Meaning.{allowing}
use Rattle.wt_refute.proofs.Faults.{all_empty, no_fault}
use Rattle.wt_pattern.specs.Windows.{IsEmptyWindow}
use Rattle.wt_step.proofs.Named.{find_some, entry_of}

module _ (s : RawStep) (g : IsGoodStep s) where
  -- each refuted pair has an empty window
  pub entry_empty : (i : ℕ) (k : Refuted) → slice_get s.refuted i ≡ Some k → IsEmptyWindow s.fine.tiles k.axis k.a k.b k.radius
  entry_empty i k e = all_empty s.fine.tiles s.refuted (λ j m f. (no_fault s.fine.tiles m.axis m.a m.b m.radius s.refuted m.tree).1 (g.trees j m f)) i k e

  -- each barred pair has an empty window of some radius up to the step's
  barred_empty : (axis : Axis) (a b : ℕ) → a < length s.fine.tiles → b < length s.fine.tiles → is_barred s axis a b ≡ true → (r : ℕ) × (r ≤ s.radius) × IsEmptyWindow s.fine.tiles axis a b r
  barred_empty axis a b la lb h =
      let w = rw h at (g.named axis a b la lb) in
      let one : times s axis a b ≡ 1 = grind (arith, nat_tests, w) in
      let c = count_some (entry_at s axis a b) 0 (s.radius + 1) (omega arith) in
      let lt = c.1 in
      let f = find_some (is_entry c.0 axis a b) s.refuted c.2 c.3 in
      let k = c.2 in
      let of = entry_of c.0 axis a b k f.2 in
      let e = entry_empty f.0 k f.1 in (
        c.0,
        omega arith,
        subst (λ (r : ℕ). IsEmptyWindow s.fine.tiles axis a b r) of.0
            (subst (λ (b' : ℕ). IsEmptyWindow s.fine.tiles axis a b' k.radius) of.3
            (subst (λ (a' : ℕ). IsEmptyWindow s.fine.tiles axis a' k.b k.radius) of.2
            (subst (λ (v : Axis). IsEmptyWindow s.fine.tiles v k.a k.b k.radius) of.1 e))),
      )

  -- each pair of neighbours in a core is allowed
  pub core_allowed : (c : Grid) → AllBelow (length s.fine.tiles) c → IsValid (matches s.fine.tiles) c → IsValid (allowing s) (core s.radius c)
  core_allowed c b v axis i j li lj = go (allows s axis (at axis (core s.radius c) i j) (at axis (core s.radius c) (suc i) j)) refl
    where
      go : (t : Bool) → allows s axis (at axis (core s.radius c) i j) (at axis (core s.radius c) (suc i) j) ≡ t
          → allows s axis (at axis (core s.radius c) i j) (at axis (core s.radius c) (suc i) j) ≡ true
      go true t = t
      go false t =
          let m = core_valid (matches s.fine.tiles) s.radius c v axis i j li lj in
          let h : is_barred s axis (at axis (core s.radius c) i j) (at axis (core s.radius c) (suc i) j) ≡ true = rw (m, t) refl in
          let e = barred_empty axis (at axis (core s.radius c) i j) (at axis (core s.radius c) (suc i) j)
          (core_below axis (length s.fine.tiles) s.radius c b i j (omega arith) lj) (core_below axis (length s.fine.tiles) s.radius c b (suc i) j li lj) h in
          let w = core_window (length s.fine.tiles) (matches s.fine.tiles) axis c i j s.radius e.0 b v e.1 li lj in
          absurd (e.2 w.0 w.1)
