-- Where a row differs from another row, moved by a shift.
use Rattle.std.proofs.Common.{arith, ◌≡◌, ℕ, ◌+◌, ◌-◌, ◌≤◌, ◌<◌, List, take, drop, length, get_or, Option, None, Some, Bool, true, false, not, nat_eq, nat_lt, nat_le, if◌then◌else◌, refl, ap, sym, ◌∙◌}
use Rattle.wt_grid.proofs.First.{all_none}
use Rattle.std.specs.Option.{option_map}
use Rattle.std.proofs.lemmas.Bool.Decides.{nat_tests}
use Rattle.std.proofs.lemmas.List.{get_or-take, get_or-drop, length-take, length-drop, take_all}
use Rattle.wt_lane.specs.Differs.{first_place_apart}
use Rattle.wt_grid.specs.First.{first_from}
use Rattle.wt_grid.specs.Grid.{Grid, cell, IsGrid}
use Rattle.wt_pattern.specs.declared.periods.Shift.{Shift}
use Rattle.wt_pattern.specs.declared.periods.Shift.TheVariants.{Forward, Back}
use Rattle.wt_pattern.specs.Rows.{flagged, first_place}
use Rattle.wt_pattern.specs.Periods.{shifted, differs, is_apart, unlike, period_fault_at, period_fault_in}
use Rattle.wt_pattern.proofs.First.{none_ahead, none_behind, mapped}
use Rattle.wt_pattern.proofs.Lines.{by_places, later, within}
use Rattle.wt_pattern.proofs.RowFaults.{row, row_cell, row_length}

module _ (k : ℕ) (line other : List ℕ) where
  past_forward : (j : ℕ) → length line ≤ j + k → flagged (is_apart (Forward k) line other) j ≡ None
  past_forward j le = let out : nat_lt (j + k) (length line) ≡ false = grind (arith, nat_tests) in rw out refl

  below_back : (j : ℕ) → j < k → flagged (is_apart (Back k) line other) j ≡ None
  below_back j lt = let out : nat_le k j ≡ false = grind (arith, nat_tests) in rw out refl

  pub none_forward : length line ≤ k → None ≡ first_place (is_apart (Forward k) line other) (length line)
  none_forward le = sym (all_none (flagged (is_apart (Forward k) line other)) 0 (length line) (λ j low high. past_forward j (omega arith)))

  pub none_back : length line ≤ k → None ≡ first_place (is_apart (Back k) line other) (length line)
  none_back le = sym (all_none (flagged (is_apart (Back k) line other)) 0 (length line) (λ j low high. below_back j (omega arith)))

  pub forward_places : length line ≡ length other → k ≤ length line
      → first_place_apart 0 (take (length line - k) line) (drop k other) ≡ first_place (is_apart (Forward k) line other) (length line)
  forward_places l le =
      let low : length (take (length line - k) line) ≡ length line - k = omega (arith, length-take (length line - k) line) in
      let high : length (drop k other) ≡ length line - k = omega (arith, length-drop k other) in
      by_places (take (length line - k) line) (drop k other) (is_apart (Forward k) line other) 0 (low ∙ sym high)
      (λ j lt.
      let near : j < length line - k = rw low at lt in
      let test : nat_lt (j + k) (length line) ≡ true = grind (arith, nat_tests) in
      let zeroth : 0 + j ≡ j = omega arith in
      let turn : j + k ≡ k + j = omega arith in
      rw (zeroth, get_or-take (length line - k) line j 0 near, get_or-drop k other j 0, test, turn) refl)
      ∙ ap (first_from (flagged (is_apart (Forward k) line other)) 0) low
      ∙ sym (none_behind (flagged (is_apart (Forward k) line other)) 0 (length line - k) (length line) (omega arith) (λ j low' high'. past_forward j (omega arith)))

  pub back_places : length line ≡ length other → k ≤ length line
      → option_map (λ j. k + j) (first_place_apart 0 (drop k line) (take (length line - k) other)) ≡ first_place (is_apart (Back k) line other) (length line)
  back_places l le =
      let low : length (drop k line) ≡ length line - k = omega (arith, length-drop k line) in
      let high : length (take (length line - k) other) ≡ length line - k = omega (arith, length-take (length line - k) other) in
      let zeroth : k + 0 ≡ 0 + k = omega arith in
      sym (later k 0 (drop k line) (take (length line - k) other))
      ∙ ap (λ i. first_place_apart i (drop k line) (take (length line - k) other)) zeroth
      ∙ by_places (drop k line) (take (length line - k) other) (is_apart (Back k) line other) (0 + k) (low ∙ sym high)
      (λ j lt.
      let near : j < length line - k = rw low at lt in
      let test : nat_le k (0 + k + j) ≡ true = grind (arith, nat_tests) in
      let place : 0 + k + j - k ≡ j = omega arith in
      let turn : 0 + k + j ≡ k + j = omega arith in
      rw (get_or-drop k line j 0, get_or-take (length line - k) other j 0 near, test, place, turn) refl)
      ∙ ap (first_from (flagged (is_apart (Back k) line other)) (0 + k)) low
      ∙ sym (none_ahead (flagged (is_apart (Back k) line other)) 0 (length line) k le (λ j low' high'. below_back j (omega arith)))

-- a slice up to its end
pub to_end : (k : ℕ) (l : List ℕ) → take (length l - k) (drop k l) ≡ drop k l
to_end k l = take_all (length l - k) (drop k l) (omega (arith, length-drop k l))

-- the places of a shift back, as the code finds them
pub found_back : (k : ℕ) (line other : List ℕ) (r : Option ℕ) → length line ≡ length other → k ≤ length line
    → first_place_apart 0 (take (length line - k) (drop k line)) (take (length line - k) other) ≡ r
    → option_map (λ j. k + j) r ≡ first_place (is_apart (Back k) line other) (length line)
found_back k line other r l le e =
    let same : first_place_apart 0 (drop k line) (take (length line - k) other) ≡ r = rw (to_end k line) at e in
    rw same at (back_places k line other l le)

pub found_forward : (k : ℕ) (line other : List ℕ) → length line ≡ length other → k ≤ length line
    → first_place_apart 0 (take (length line - k) line) (take (length other - k) (drop k other)) ≡ first_place (is_apart (Forward k) line other) (length line)
found_forward k line other l le = rw (to_end k other) (forward_places k line other l le)

-- a place that a shift back finds is inside
pub back_within : (k : ℕ) (line other : List ℕ) (j : ℕ) → k ≤ length line → first_place_apart 0 (take (length line - k) (drop k line)) (take (length line - k) other) ≡ Some j → k + j < length line
back_within k line other j le e =
    let r = within 0 (take (length line - k) (drop k line)) (take (length line - k) other) j e in
    omega (arith, length-take (length line - k) (drop k line), length-drop k line)

-- Rows of a rectangle.

-- the row to which a row is moved is not inside
pub none_in : (right up : Shift) (g : Grid) (y : ℕ) → shifted up g.height y ≡ None → None ≡ period_fault_in right up g y
none_in right up g y e = sym (all_none (period_fault_at right up g y) 0 g.width (λ x low high. rw e (nowhere (shifted right g.width x) x)))
  where
    nowhere : (k : Option ℕ) (x : ℕ) → unlike g x y k None ≡ None
    nowhere None x = refl
    nowhere (Some k) x = refl

pub shifted_inside : (s : Shift) (n x k : ℕ) → x < n → shifted s n x ≡ Some k → k < n
shifted_inside (Forward d) n x k lt e = by (nat_lt (x + d) n) refl
  where
    by : (b : Bool) → nat_lt (x + d) n ≡ b → k < n
    by true p = let h : Some (x + d) ≡ Some k = rw p at e in let s : x + d ≡ k = cc in grind (arith, nat_tests, p)
    by false p = absurd (let h : None ≡ Some k = rw p at e in cc)
shifted_inside (Back d) n x k lt e = by (nat_le d x) refl
  where
    by : (b : Bool) → nat_le d x ≡ b → k < n
    by true p = let h : Some (x - d) ≡ Some k = rw p at e in let s : x - d ≡ k = cc in omega arith
    by false p = absurd (let h : None ≡ Some k = rw p at e in cc)

-- a place of a row, where it is marked
abbrev marked : ℕ → Bool → ℕ → Option (ℕ × ℕ)
marked y true x = Some (x, y)
marked y false x = None

unlike_some : (g : Grid) (x y l : ℕ) (k : Option ℕ) (a : ℕ) (line : List ℕ) → a ≡ cell g x y → ((i : ℕ) → k ≡ Some i → get_or line i 0 ≡ cell g i l)
    → unlike g x y k (Some l) ≡ marked y (differs a line k) x
unlike_some g x y l None a line e h = refl
unlike_some g x y l (Some k) a line e h = by (nat_eq (cell g x y) (cell g k l)) refl
  where
    by : (b : Bool) → nat_eq (cell g x y) (cell g k l) ≡ b → unlike g x y (Some k) (Some l) ≡ marked y (not (nat_eq a (get_or line k 0))) x
    by true p = rw (e, h k refl, p) refl
    by false p = rw (e, h k refl, p) refl

marked_if : (y x : ℕ) (b : Bool) → marked y b x ≡ (let make : ℕ → ℕ × ℕ = λ i. (i, y) in if b then Some (make x) else None)
marked_if y x true = refl
marked_if y x false = refl

-- the row to which a row is moved
pub row_in : (right up : Shift) (g : Grid) (y l : ℕ) → IsGrid g → y < g.height → shifted up g.height y ≡ Some l
    → period_fault_in right up g y ≡ option_map (λ x. (x, y)) (first_place (is_apart right (row g y) (row g l)) (length (row g y)))
row_in right up g y l grid lt e =
    let long : length (row g y) ≡ g.width = row_length g y grid lt in
    mapped (period_fault_at right up g y) (is_apart right (row g y) (row g l)) (λ x. (x, y)) 0 g.width
    (λ x low high.
    let inside : x < g.width = omega arith in
    let here : unlike g x y (shifted right g.width x) (Some l) ≡ marked y (differs (get_or (row g y) x 0) (row g l) (shifted right g.width x)) x =
    unlike_some g x y l (shifted right g.width x) (get_or (row g y) x 0) (row g l) (row_cell g x y inside) (λ i h. row_cell g i l (shifted_inside right g.width x i inside h)) in
    rw (e, long) (here ∙ marked_if y x (differs (get_or (row g y) x 0) (row g l) (shifted right g.width x))))
    ∙ ap (λ n. option_map (λ x. (x, y)) (first_place (is_apart right (row g y) (row g l)) n)) (sym long)

-- the same of the rows as they were read
pub rows_in : (right up : Shift) (g : Grid) (y l : ℕ) (here there : List ℕ) → here ≡ row g y → there ≡ row g l → IsGrid g → y < g.height → shifted up g.height y ≡ Some l
    → period_fault_in right up g y ≡ option_map (λ x. (x, y)) (first_place (is_apart right here there) (length here))
rows_in right up g y l here there p q grid lt e = rw (p, q) (row_in right up g y l grid lt e)
