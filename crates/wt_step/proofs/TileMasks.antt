-- The mask of the markers has no bit past the tiles.
use Rattle.std.proofs.Common.{arith, ◌≡◌, ◌<◌, ◌≤◌, ℕ, List, [], ◌∷◌, length, true, false, ◌&&◌, nat_eq, nat_lt, refl, sym, ◌∙◌, ap, inl, inr}
use Rattle.std.specs.List.{list_any}
use Rattle.std.proofs.lemmas.Bool.{and_parts, cases_lt}
use Rattle.std.proofs.lemmas.Bool.Decides.{nat_tests}
use Rattle.wt_grid.specs.Order.{in_order, leads, is_below, comes_before}
use Rattle.wt_tile.proofs.Sizes.{few_tiles}
use Rattle.wt_lane.specs.Masks.{mask_bit}
use Rattle.wt_lane.proofs.Bits.{past_all}
use Rattle.wt_mask.specs.Masks.{bit}
use Rattle.wt_step.specs.declared.raw.RawStep.{RawStep}
use Rattle.wt_step.specs.Words.{is_marker}
use Rattle.wt_step.specs.Faults.{IsShaped}

past_markers : (n a : ℕ) (ms : List ℕ) → in_order (is_below n) comes_before ms ≡ true → n ≤ a → list_any (nat_eq a) ms ≡ false
past_markers n a [] o le = refl
past_markers n a (m ∷ ms) o le =
    let p = and_parts (is_below n m && leads comes_before m ms) (in_order (is_below n) comes_before ms) o in
    let q = and_parts (is_below n m) (leads comes_before m ms) p.0 in
    let low : nat_lt m n ≡ true = q.0 in
    let apart : nat_eq a m ≡ false = grind (arith, nat_tests, low, le) in
    rw (apart, past_markers n a ms p.1 le) refl

pub all_marked : (s : RawStep) → IsShaped s → (mask : List ℕ) → length mask ≡ 4 → ((a : ℕ) → a < 256 → mask_bit mask a ≡ bit (list_any (nat_eq a) s.markers))
    → (a : ℕ) → mask_bit mask a ≡ bit (is_marker s a)
all_marked s h mask long low a = elim (cases_lt a 256) [
  | inl lt ↦ low a lt
  | inr ge ↦
      let n = length s.fine.tiles in
      let p = and_parts (in_order (is_below n) comes_before s.markers && nat_lt 0 (length s.markers)) (nat_lt (length s.markers) n) h.markers in
      let o = and_parts (in_order (is_below n) comes_before s.markers) (nat_lt 0 (length s.markers)) p.0 in
      let few = (few_tiles s.fine h.fine).1 in
      let none : list_any (nat_eq a) s.markers ≡ false = past_markers n a s.markers o.0 (omega (arith, few, ge)) in
      past_all mask a (omega (arith, long, ge)) ∙ sym (ap bit none)
]
