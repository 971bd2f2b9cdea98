-- Rows of a rectangle, and what is known of a row whose cells match their neighbours.
use Rattle.std.proofs.Common.{arith, ◌≡◌, ℕ, zero, suc, [], ◌∷◌, nat_eq, ◌+◌, ◌-◌, ◌*◌, ◌≤◌, ◌<◌, ◌&&◌, List, take, drop, set, length, get_or, None, Some, if◌then◌else◌, Bool, true, false, not, nat_lt, refl, ap, sym, ◌∙◌, inl, inr}
use Rattle.wt_grid.proofs.First.{all_none}
use Rattle.wt_grid.specs.declared.axis.Axis.TheVariants.{One, Two}
use Rattle.std.specs.List.{slice_range, list_all}
use Rattle.std.proofs.lemmas.Bool.{and_parts, cases_lt}
use Rattle.std.proofs.lemmas.Bool.Decides.{nat_tests}
use Rattle.std.proofs.lemmas.List.{get_or-take, get_or-drop, length-take, length-drop, get_or-set_same, get_or-set_other, get_or_past}
use Rattle.std.proofs.lemmas.Nat.{mul-add-lt}
use Rattle.wt_tile.specs.declared.tile.Tile.{Tile}
use Rattle.wt_tile.specs.Matching.{matches, tile_at}
use Rattle.wt_grid.specs.First.{first_from}
use Rattle.wt_grid.specs.Grid.{Grid, cell, IsGrid}
use Rattle.wt_pattern.specs.declared.fault.Fault.{Fault}
use Rattle.wt_pattern.specs.Validity.{fault_at, fault_in, stranger_in, stranger_at}
use Rattle.wt_pattern.specs.Rows.{HasColours, AreMatched}
use Rattle.wt_pattern.proofs.First.{none_ahead}

-- Rows of a rectangle.

abbrev pub row : Grid → ℕ → List ℕ
row g y = slice_range g.cells (y * g.width) (y * g.width + g.width)

pub row_cell : (g : Grid) (x y : ℕ) → x < g.width → get_or (row g y) x 0 ≡ cell g x y
row_cell g x y lt = get_or-take (y * g.width + g.width - y * g.width) (drop (y * g.width) g.cells) x 0 (omega arith) ∙ get_or-drop (y * g.width) g.cells x 0

pub row_end : (g : Grid) (y : ℕ) → IsGrid g → y < g.height → y * g.width + g.width ≤ length g.cells
row_end g y grid lt =
    let last : y * g.width + (g.width - 1) < g.width * g.height = mul-add-lt y g.width (g.width - 1) g.height lt (let w = grid.wide in omega arith) in
    let whole = grid.whole in
    let wide = grid.wide in
    omega arith

pub row_length : (g : Grid) (y : ℕ) → IsGrid g → y < g.height → length (row g y) ≡ g.width
row_length g y grid lt =
    let e = row_end g y grid lt in
    omega (arith, length-take (y * g.width + g.width - y * g.width) (drop (y * g.width) g.cells), length-drop (y * g.width) g.cells)

-- Numbers below a bound.

each_below : (bound : ℕ) (cells : List ℕ) → list_all (λ x. nat_lt x bound) cells ≡ true → (k : ℕ) → k < length cells → get_or cells k 0 < bound
each_below bound [] e k lt = absurd (omega arith)
each_below bound (x ∷ xs) e zero lt = let t = (and_parts (nat_lt x bound) (list_all (λ x. nat_lt x bound) xs) e).0 in grind (arith, nat_tests, t)
each_below bound (x ∷ xs) e (suc k) lt = each_below bound xs (and_parts (nat_lt x bound) (list_all (λ x. nat_lt x bound) xs) e).1 k (omega arith)

-- where the numbers of a list are below a bound, so is each, and 0 past the last
pub all_small : (bound : ℕ) (cells : List ℕ) → list_all (λ x. nat_lt x bound) cells ≡ true → (k : ℕ) → 0 < bound → get_or cells k 0 < bound
all_small bound cells e k some = elim (cases_lt k (length cells)) [
  | inl lt ↦ each_below bound cells e k lt
  | inr le ↦ rw (get_or_past cells k 0 le) some
]

-- so is each of a part
pub part_small : (cells : List ℕ) (from end : ℕ) → ((k : ℕ) → get_or cells k 0 < 256) → (k : ℕ) → get_or (slice_range cells from end) k 0 < 256
part_small cells from end small k = elim (cases_lt k (end - from)) [
  | inl lt ↦ rw (get_or-take (end - from) (drop from cells) k 0 lt, get_or-drop from cells k 0) (small (from + k))
  | inr le ↦ rw (get_or_past (take (end - from) (drop from cells)) k 0 (omega (arith, length-take (end - from) (drop from cells)))) (omega arith)
]

-- a row whose cells are below a bound has no stranger
pub no_stranger : (n : ℕ) (g : Grid) (y : ℕ) (r : List ℕ) → r ≡ row g y → list_all (λ x. nat_lt x n) r ≡ true → length r ≡ g.width → None ≡ stranger_in n g y
no_stranger n g y r e all long = sym (all_none (stranger_at n g y) 0 g.width (λ k low high.
    let here : get_or r k 0 < n = each_below n r all k (omega (arith, high, long)) in
    let same : get_or r k 0 ≡ cell g k y = ap (λ (l : List ℕ). get_or l k 0) e ∙ row_cell g k y (omega (arith, high)) in
    let test : nat_lt (cell g k y) n ≡ true = grind (arith, nat_tests, here, same) in
    rw test refl))

-- Tables of colours.

-- one value more of a table
noted : (f : ℕ → ℕ) (xs : List ℕ) (n v : ℕ) → n < length xs → v ≡ f n → ((a : ℕ) → a < n → get_or xs a 0 ≡ f a) → (a : ℕ) → a < n + 1 → get_or (set xs n v) a 0 ≡ f a
noted f xs n v lt e before a la = elim (cases_lt a n) [
  | inl lo ↦ get_or-set_other xs n a v 0 (λ same. absurd (omega arith)) ∙ before a lo
  | inr hi ↦ let x : a ≡ n = omega arith in rw x (get_or-set_same xs n v 0 lt ∙ e)
]

pub colours_more : (ts : List Tile) (n : ℕ) (e o w s : List ℕ) → n < length e → n < length o → n < length w → n < length s → HasColours ts n e o w s
    → HasColours ts (n + 1) (set e n (tile_at ts n).east) (set o n (tile_at ts n).north) (set w n (tile_at ts n).west) (set s n (tile_at ts n).south)
colours_more ts n e o w s le lo lw ls h = record {
  east_of = noted (λ a. (tile_at ts a).east) e n (tile_at ts n).east le refl h.east_of;
  north_of = noted (λ a. (tile_at ts a).north) o n (tile_at ts n).north lo refl h.north_of;
  west_of = noted (λ a. (tile_at ts a).west) w n (tile_at ts n).west lw refl h.west_of;
  south_of = noted (λ a. (tile_at ts a).south) s n (tile_at ts n).south ls refl h.south_of;
}

-- tiles match where their colours do
pub by_colours : (ts : List Tile) (e o w s : List ℕ) → HasColours ts 256 e o w s → (a b : ℕ) → a < 256 → b < 256
    → (nat_eq (get_or e a 0) (get_or w b 0) ≡ matches ts One a b) × (nat_eq (get_or o a 0) (get_or s b 0) ≡ matches ts Two a b)
unfolding matches
by_colours ts e o w s h a b la lb = (rw (h.east_of a la, h.west_of b lb) refl, rw (h.north_of a la, h.south_of b lb) refl)

-- Cells that match.

-- one cell more
pub matched_more : (ts : List Tile) (r above : List ℕ) (n : ℕ) (b : Bool) → b ≡ true → b ≡ (matches ts One (get_or r n 0) (get_or r (n + 1) 0) && matches ts Two (get_or r n 0) (get_or above n 0))
    → AreMatched ts r above n → AreMatched ts r above (n + 1)
matched_more ts r above n b t e before k lt = elim (cases_lt k n) [
  | inl lo ↦ before k lo
  | inr hi ↦ let x : k ≡ n = omega arith in rw x (and_parts (matches ts One (get_or r n 0) (get_or r (n + 1) 0)) (matches ts Two (get_or r n 0) (get_or above n 0)) (sym e ∙ t))
]

none_of : (a b : Bool) (f g : Fault) → (if a && not true then Some f else if b && not true then Some g else None) ≡ None
none_of true true f g = refl
none_of true false f g = refl
none_of false true f g = refl
none_of false false f g = refl

-- a cell that matches has no fault
pub quiet_at : (ts : List Tile) (g : Grid) (y : ℕ) (r above : List ℕ) (n : ℕ) → r ≡ row g y → above ≡ row g (y + 1) → n < g.width → AreMatched ts r above n
    → (x : ℕ) → x < n → fault_at ts g y x ≡ None
quiet_at ts g y r above n er ea inside m x lt =
    let here : get_or r x 0 ≡ cell g x y = ap (λ (l : List ℕ). get_or l x 0) er ∙ row_cell g x y (omega arith) in
    let next : get_or r (x + 1) 0 ≡ cell g (x + 1) y = ap (λ (l : List ℕ). get_or l (x + 1) 0) er ∙ row_cell g (x + 1) y (omega arith) in
    let up : get_or above x 0 ≡ cell g x (y + 1) = ap (λ (l : List ℕ). get_or l x 0) ea ∙ row_cell g x (y + 1) (omega arith) in
    let one : matches ts One (cell g x y) (cell g (x + 1) y) ≡ true = rw (here, next) at (m x lt).0 in
    let two : matches ts Two (cell g x y) (cell g x (y + 1)) ≡ true = rw (here, up) at (m x lt).1 in
    rw (one, two) (none_of (nat_lt (x + 1) g.width) (nat_lt (y + 1) g.height) (record { axis = One; x = x; y = y }) (record { axis = Two; x = x; y = y }))

-- the first fault of a row is the first behind cells that have none
pub behind_quiet : (ts : List Tile) (g : Grid) (y start : ℕ) → start < g.width → ((x : ℕ) → x < start → fault_at ts g y x ≡ None) → first_from (fault_at ts g y) start (g.width - start) ≡ fault_in ts g y
behind_quiet ts g y start lt quiet =
    let zeroth : 0 + start ≡ start = omega arith in
    sym (none_ahead (fault_at ts g y) 0 g.width start (omega arith) (λ j low high. quiet j (omega (arith, high))) ∙ ap (λ (k : ℕ). first_from (fault_at ts g y) k (g.width - start)) zeroth)
