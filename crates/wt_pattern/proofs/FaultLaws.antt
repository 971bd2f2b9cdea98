-- A pattern without a fault is one whose cells are tiles, and whose neighbours match.
use Rattle.std.proofs.Common.{arith, ◌≡◌, ℕ, zero, suc, ◌+◌, ◌≤◌, ◌<◌, List, length, Option, None, Some, Bool, true, false, not, ◌&&◌, nat_lt, if◌then◌else◌, refl, sym, ◌∙◌}
use Rattle.wt_grid.specs.declared.axis.Axis.TheVariants.{One, Two}
use Rattle.wt_grid.specs.declared.axis.Axis.{Axis}
use Rattle.std.proofs.lemmas.Bool.Decides.{nat_tests}
use Rattle.wt_tile.specs.declared.tile.Tile.{Tile}
use Rattle.wt_tile.specs.Matching.{matches}
use Rattle.wt_grid.specs.First.{first_from}
use Rattle.wt_grid.specs.Grid.{Grid, cell, IsGrid, along, across}
use Rattle.wt_grid.specs.Parts.{AllBelow, IsValid, IsWindow}
use Rattle.wt_grid.proofs.First.{none_from, all_none}
use Rattle.wt_pattern.specs.declared.fault.Fault.{Fault}
use Rattle.wt_pattern.specs.Validity.{stranger_at, stranger_in, first_stranger, clashes, fault_at, fault_in, first_fault}
use Rattle.wt_pattern.specs.Windows.{window_size}

-- where none of n numbers has an answer, each has none, and the other way round
pub each_none : {A : Type 0} (f : ℕ → Option A) (n : ℕ) → first_from f 0 n ≡ None → (k : ℕ) → k < n → f k ≡ None
each_none f n e k lt = none_from f 0 n k e (omega arith) (omega arith)

pub none_each : {A : Type 0} (f : ℕ → Option A) (n : ℕ) → ((k : ℕ) → k < n → f k ≡ None) → first_from f 0 n ≡ None
none_each f n h = all_none f 0 n (λ k low high. h k (omega arith))

-- Tiles.

is_below : (a n : ℕ) (place : ℕ × ℕ) → (if nat_lt a n then None else Some place) ≡ None → a < n
is_below a n place e = by (nat_lt a n) refl
  where
    by : (b : Bool) → nat_lt a n ≡ b → a < n
    by true p = grind (arith, nat_tests, p)
    by false p = absurd (let h : Some place ≡ None = rw p at e in cc)

pub tiles_below : (n : ℕ) (g : Grid) → first_stranger n g ≡ None → AllBelow n g
tiles_below n g e x y lx ly = is_below (cell g x y) n (x, y) (each_none (stranger_at n g y) g.width (each_none (stranger_in n g) g.height e y ly) x lx)

pub no_stranger : (n : ℕ) (g : Grid) → AllBelow n g → first_stranger n g ≡ None
no_stranger n g h = none_each (stranger_in n g) g.height (λ y ly. none_each (stranger_at n g y) g.width (λ x lx.
    let below = h x y lx ly in
    let test : nat_lt (cell g x y) n ≡ true = grind (arith, nat_tests) in
    rw test refl))

-- Neighbours.

no_clash : (a b : Bool) (f g : Fault) → (if a then Some f else if b then Some g else None) ≡ None → (a ≡ false) × (b ≡ false)
no_clash true b f g e = absurd (cc)
no_clash false true f g e = absurd (cc)
no_clash false false f g e = (refl, refl)

not_false : (b : Bool) → not b ≡ false → b ≡ true
not_false true e = refl
not_false false e = absurd (cc)

clash_free : (ts : List Tile) (g : Grid) → first_fault ts g ≡ None → (x y : ℕ) → x < g.width → y < g.height → (clashes ts One g y x ≡ false) × (clashes ts Two g y x ≡ false)
clash_free ts g e x y lx ly = no_clash (clashes ts One g y x) (clashes ts Two g y x) _ _ (each_none (fault_at ts g y) g.width (each_none (fault_in ts g) g.height e y ly) x lx)

pub is_valid : (ts : List Tile) (g : Grid) → first_fault ts g ≡ None → IsValid (matches ts) g
is_valid ts g e One i j li lj =
    let next : suc i ≡ i + 1 = omega arith in
    let test : nat_lt (i + 1) g.width ≡ true = grind (arith, nat_tests) in
    let c = (clash_free ts g e i j (omega arith) lj).0 in
    let free : not (matches ts One (cell g i j) (cell g (i + 1) j)) ≡ false = rw test at c in
    rw next (not_false (matches ts One (cell g i j) (cell g (i + 1) j)) free)
is_valid ts g e Two i j li lj =
    let next : suc i ≡ i + 1 = omega arith in
    let test : nat_lt (i + 1) g.height ≡ true = grind (arith, nat_tests) in
    let c = (clash_free ts g e j i lj (omega arith)).1 in
    let free : not (matches ts Two (cell g j i) (cell g j (i + 1))) ≡ false = rw test at c in
    rw next (not_false (matches ts Two (cell g j i) (cell g j (i + 1))) free)

agrees : (b : Bool) (n m : ℕ) → (n < m → b ≡ true) → (nat_lt n m && not b) ≡ false
agrees b n m h = by (nat_lt n m) refl
  where
    by : (t : Bool) → nat_lt n m ≡ t → (nat_lt n m && not b) ≡ false
    by true p = let e : b ≡ true = h (grind (arith, nat_tests, p)) in rw (p, e) refl
    by false p = rw p refl

pub no_fault : (ts : List Tile) (g : Grid) → IsValid (matches ts) g → first_fault ts g ≡ None
no_fault ts g v = none_each (fault_in ts g) g.height (λ y ly. none_each (fault_at ts g y) g.width (λ x lx.
    let next : suc x ≡ x + 1 = omega arith in
    let up : suc y ≡ y + 1 = omega arith in
    let right : clashes ts One g y x ≡ false = agrees (matches ts One (cell g x y) (cell g (x + 1) y)) (x + 1) g.width (λ lt. let le : suc x < g.width = omega arith in rw next at (v One x y le ly)) in
    let above : clashes ts Two g y x ≡ false = agrees (matches ts Two (cell g x y) (cell g x (y + 1))) (y + 1) g.height (λ lt. let le : suc y < g.height = omega arith in rw up at (v Two y x le lx)) in
    rw (right, above) refl))

-- Windows.

pub window_sizes : (n : ℕ) (ts : List Tile) (axis : Axis) (a b r : ℕ) (g : Grid) → IsWindow n (matches ts) axis a b r g
    → (g.width ≡ (window_size axis r).0) × (g.height ≡ (window_size axis r).1)
window_sizes n ts One a b r g w = (w.long, w.wide)
window_sizes n ts Two a b r g w = (w.wide, w.long)
