-- The tiles of the children of a branch, compared with those that fit.
use Rattle.std.proofs.Common.{arith, ◌≡◌, ℕ, ◌+◌, ◌-◌, ◌<◌, ◌≤◌, Bool, true, false, ◌&&◌, nat_eq, List, [], ◌∷◌, length, drop, get_or, refl, ap, sym, ◌∙◌}
use Rattle.std.specs.Str.{bytes_eq}
use Rattle.std.proofs.lemmas.Bool.{eq-eqb}
use Rattle.std.proofs.lemmas.Bool.Decides.{nat_tests}
use Rattle.std.proofs.lemmas.List.{drop_all}
use Rattle.wt_tile.specs.declared.tile.Tile.{Tile}
use Rattle.wt_lane.specs.Masks.{mask_bit}
use Rattle.wt_refute.specs.declared.tree.Child.{Child}
use Rattle.wt_refute.specs.Refutation.{Branches, tiles_in}
use Rattle.wt_refute.specs.View.{children_view}
use Rattle.wt_refute.specs.Placed.{Placed, is_free, passing, fitting, fits_cell}
use Rattle.wt_refute.specs.Refutes.{is_branching}
use Rattle.wt_refute.specs.Fitted.{IsFitMask}
use Rattle.wt_refute.proofs.Children.{view_more}
use Rattle.wt_refute.proofs.Masked.{next_first, next_none}

heads : (x y : ℕ) (xs ys : List ℕ) → bytes_eq (x ∷ xs) (y ∷ ys) ≡ (nat_eq x y && bytes_eq xs ys)
heads x y xs ys = refl

module _ (ts : List Tile) (p : Placed) (c : ℕ) (mask : List ℕ) (cs : List Child) (i from : ℕ) (whole : Bool) (fit : IsFitMask ts p c mask)
    (so_far : bytes_eq (tiles_in (children_view (drop i cs))) (passing (fits_cell ts p c) from (length ts - from)) ≡ whole) where
  -- a child more, and a tile more that fits
  both_more : (child : Child) (t : ℕ) → i < length cs → child ≡ get_or cs i child → from ≤ t → mask_bit mask t ≡ 1 → ((j : ℕ) → from ≤ j → j < t → mask_bit mask j ≡ 0)
      → (nat_eq child.tile t && bytes_eq (tiles_in (children_view (drop (i + 1) cs))) (passing (fits_cell ts p c) (t + 1) (length ts - (t + 1)))) ≡ whole
  both_more child t lt is le one' none =
      let v = view_more cs i child lt is in
      let f = next_first ts p c mask from t fit le one' none in
      sym (heads child.tile t (tiles_in (children_view (drop (i + 1) cs))) (passing (fits_cell ts p c) (t + 1) (length ts - (t + 1))))
      ∙ ap (λ (b : Branches). bytes_eq (tiles_in b) (t ∷ passing (fits_cell ts p c) (t + 1) (length ts - (t + 1)))) (sym v)
      ∙ ap (λ (xs : List ℕ). bytes_eq (tiles_in (children_view (drop i cs))) xs) (sym f) ∙ so_far

  pub child_more : (child : Child) (t : ℕ) → i < length cs → child ≡ get_or cs i child → from ≤ t → mask_bit mask t ≡ 1 → ((j : ℕ) → from ≤ j → j < t → mask_bit mask j ≡ 0) → t ≡ child.tile
      → bytes_eq (tiles_in (children_view (drop (i + 1) cs))) (passing (fits_cell ts p c) (t + 1) (length ts - (t + 1))) ≡ whole
  child_more child t lt is le one' none same =
      ap (λ (b : Bool). b && bytes_eq (tiles_in (children_view (drop (i + 1) cs))) (passing (fits_cell ts p c) (t + 1) (length ts - (t + 1)))) (sym (eq-eqb child.tile t (sym same)))
      ∙ both_more child t lt is le one' none

  pub child_apart : (child : Child) (t : ℕ) → i < length cs → child ≡ get_or cs i child → from ≤ t → mask_bit mask t ≡ 1 → ((j : ℕ) → from ≤ j → j < t → mask_bit mask j ≡ 0) → (t ≡ child.tile → ⊥)
      → false ≡ whole
  child_apart child t lt is le one' none other =
      let apart : nat_eq child.tile t ≡ false = grind (arith, nat_tests, other) in
      ap (λ (b : Bool). b && bytes_eq (tiles_in (children_view (drop (i + 1) cs))) (passing (fits_cell ts p c) (t + 1) (length ts - (t + 1)))) (sym apart)
      ∙ both_more child t lt is le one' none

  pub child_short : (child : Child) → i < length cs → child ≡ get_or cs i child → from ≤ length ts → ((j : ℕ) → from ≤ j → mask_bit mask j ≡ 0) → false ≡ whole
  child_short child lt is le none =
      ap (λ (b : Branches). bytes_eq (tiles_in b) []) (sym (view_more cs i child lt is))
      ∙ ap (λ (xs : List ℕ). bytes_eq (tiles_in (children_view (drop i cs))) xs) (sym (next_none ts p c mask from fit le none)) ∙ so_far

  ended : length cs ≤ i → bytes_eq [] (passing (fits_cell ts p c) from (length ts - from)) ≡ whole
  ended le = ap (λ (k : List Child). bytes_eq (tiles_in (children_view k)) (passing (fits_cell ts p c) from (length ts - from))) (sym (drop_all i cs le)) ∙ so_far

  pub all_met : length cs ≤ i → from ≤ length ts → ((j : ℕ) → from ≤ j → mask_bit mask j ≡ 0) → true ≡ whole
  all_met past le none = ap (λ (xs : List ℕ). bytes_eq [] xs) (sym (next_none ts p c mask from fit le none)) ∙ ended past

  pub one_left : (t : ℕ) → length cs ≤ i → from ≤ t → mask_bit mask t ≡ 1 → ((j : ℕ) → from ≤ j → j < t → mask_bit mask j ≡ 0) → false ≡ whole
  one_left t past le one' none = ap (λ (xs : List ℕ). bytes_eq [] xs) (sym (next_first ts p c mask from t fit le one' none)) ∙ ended past

pub on_free : (ts : List Tile) (p : Placed) (c : ℕ) (tiles : List ℕ) (b : Bool) → is_free p c ≡ true → b ≡ bytes_eq tiles (fitting ts p c) → b ≡ is_branching ts p c tiles
on_free ts p c tiles b free e = e ∙ ap (λ (f : Bool). f && bytes_eq tiles (fitting ts p c)) (sym free)
