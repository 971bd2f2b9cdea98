-- Pairs that are allowed exactly where they match, and that no refutation names, have no fault.
use Rattle.std.proofs.Common.{arith, ◌≡◌, ◌<◌, ◌≤◌, ◌+◌, ◌-◌, ℕ, zero, suc, List, length, Bool, true, false, ◌&&◌, ◌||◌, not, nat_eq, if◌then◌else◌, Option, Some, None, refl, sym, ◌∙◌}
use Rattle.wt_grid.specs.declared.axis.Axis.{Axis}
use Rattle.wt_grid.specs.First.{or_else, first_from, count_from}
use Rattle.wt_grid.specs.Unless.{unless}
use Rattle.wt_grid.proofs.First.{first_more}
use Rattle.wt_tile.specs.Matching.{matches}
use Rattle.wt_lane.specs.Masks.{mask_bit}
use Rattle.wt_mask.specs.Masks.{bit}
use Rattle.wt_refute.specs.declared.tree.Refuted.{Refuted}
use Rattle.wt_step.specs.declared.raw.RawStep.{RawStep}
use Rattle.wt_step.specs.declared.raw.StepFault.{StepFault}
use Rattle.wt_step.specs.declared.raw.StepFault.TheVariants.{Pair}
use Rattle.wt_step.specs.declared.walk.Places.{Places}
use Rattle.wt_step.specs.Words.{allows, entry_at, times}
use Rattle.wt_step.specs.Faults.{IsShaped, pair_fault, trees_fault}
use Rattle.wt_step.specs.Walk.{refuted_place, IsAtPlace, IsOdd}
use Rattle.wt_step.proofs.Passed.{refuted_next, later}

-- ---- bits

pub bit_told : (b : Bool) → nat_eq (bit b) 1 ≡ b
bit_told true = refl
bit_told false = refl

-- ---- pairs that no refutation names

none_counted : {A : Type 0} (f : ℕ → Option A) (i n : ℕ) → ((k : ℕ) → i ≤ k → k < i + n → f k ≡ None) → count_from f i n ≡ 0
none_counted f i zero h = refl
none_counted f i (suc n) h =
    let here : f i ≡ None = h i (omega arith) (omega arith) in
    let rest : count_from f (i + 1) n ≡ 0 = none_counted f (i + 1) n (λ k le lt. h k (omega arith) (omega arith)) in
    rw (here, rest) refl

calm : (m l : Bool) (t : ℕ) (f : StepFault) (o : Option StepFault) → m ≡ l → t ≡ 0
    → or_else (unless (if m && not l then nat_eq t 1 else (m || not l) && nat_eq t 0) f) (if m && not l then o else None) ≡ None
calm true true t f o e z = rw z refl
calm false false t f o e z = rw z refl
calm true false t f o e z = absurd cc
calm false true t f o e z = absurd cc

-- between two pairs of a row with the same places there is no refutation
module _ (s : RawStep) (h : IsShaped s) (axis : Axis) (a b end : ℕ) (places : Places) (here : IsAtPlace s axis a b places) (there : IsAtPlace s axis a end places) where
  unnamed : (k : ℕ) → b ≤ k → k < end → (radius : ℕ) → radius ≤ s.radius → entry_at s axis a k radius ≡ None
  unnamed k low high radius small = go (entry_at s axis a k radius) refl
    where
      go : (o : Option Refuted) → entry_at s axis a k radius ≡ o → entry_at s axis a k radius ≡ None
      go None e = e
      go (Some r) e =
          let next : refuted_place s axis a (k + 1) radius ≡ suc (refuted_place s axis a k radius) = rw e at (refuted_next s h axis a k radius) in
          let up = later s axis a radius b k low in
          let on = later s axis a radius (k + 1) end (omega arith) in
          let same = sym (here.refuted radius small) ∙ there.refuted radius small in
          absurd (omega (arith, next, up, on, same))

  pub even_pair : (k : ℕ) → b ≤ k → k < end → matches s.fine.tiles axis a k ≡ allows s axis a k → pair_fault s axis a k ≡ None
  even_pair k low high e =
      let none : times s axis a k ≡ 0 = none_counted (entry_at s axis a k) 0 (s.radius + 1) (λ radius le lt. unnamed k low high radius (omega arith)) in
      calm (matches s.fine.tiles axis a k) (allows s axis a k) (times s axis a k) (Pair axis a k) (trees_fault s axis a k) e none

-- ---- the first answer past numbers that have none

pub skip_on : {A : Type 0} (f : ℕ → Option A) (d i n : ℕ) → i + d ≤ n → ((k : ℕ) → i ≤ k → k < i + d → f k ≡ None) → first_from f i (n - i) ≡ first_from f (i + d) (n - (i + d))
skip_on f zero i n le h = let e : i + 0 ≡ i = omega arith in rw e refl
skip_on f (suc d) i n le h =
    let here : f i ≡ None = h i (omega arith) (omega arith) in
    let rest = skip_on f d (i + 1) n (omega arith) (λ k low high. h k (omega arith) (omega arith)) in
    let e : i + 1 + d ≡ i + suc d = omega arith in
    first_more f i n (omega arith) ∙ rw here (rw e at rest)

pub skips : {A : Type 0} (f : ℕ → Option A) (i end n : ℕ) → i ≤ end → end ≤ n → ((k : ℕ) → i ≤ k → k < end → f k ≡ None) → first_from f i (n - i) ≡ first_from f end (n - end)
skips f i end n le most h =
    let e : i + (end - i) ≡ end = omega arith in
    rw e at (skip_on f (end - i) i n (omega arith) (λ k low high. h k low (omega arith)))

-- ---- the row of a tile

module _ {A : Type 0} (f : ℕ → Option A) (n : ℕ) (all : Option A) where
  pub at_end : first_from f n (n - n) ≡ all → all ≡ None
  at_end e = let none : n - n ≡ 0 = omega arith in sym (rw none at e)

  pub at_more : (b : ℕ) → b < n → f b ≡ None → first_from f b (n - b) ≡ all → first_from f (b + 1) (n - (b + 1)) ≡ all
  at_more b lt none e = let m = first_more f b n lt in sym (rw none at m) ∙ e

  pub at_fault : (b : ℕ) (x : A) → b < n → f b ≡ Some x → first_from f b (n - b) ≡ all → all ≡ Some x
  at_fault b x lt some e = let m = first_more f b n lt in sym e ∙ (rw some at m)

-- the first fault of a row is that from the next odd tile on
pub jump : (s : RawStep) → IsShaped s → (axis : Axis) (a from b : ℕ) (odd : List ℕ) (places : Places) (all : Option StepFault)
    → IsAtPlace s axis a from places → IsAtPlace s axis a b places → IsOdd s axis a odd → from ≤ b → b ≤ length s.fine.tiles
    → ((k : ℕ) → from ≤ k → k < b → mask_bit odd k ≡ 0)
    → first_from (pair_fault s axis a) from (length s.fine.tiles - from) ≡ all → first_from (pair_fault s axis a) b (length s.fine.tiles - b) ≡ all
jump s h axis a from b odd places all here there o le most even e =
    let n = length s.fine.tiles in
    sym (skips (pair_fault s axis a) from b n le most (λ k low high. even_pair s h axis a from b places here there k low high (o k (omega (arith, high, most)) (even k low high)))) ∙ e
