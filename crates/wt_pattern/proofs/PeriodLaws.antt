-- A pattern without a fault of a period has that period.
use Rattle.std.proofs.Common.{arith, ◌≡◌, ℕ, zero, suc, ◌+◌, ◌-◌, ◌≤◌, ◌<◌, Option, None, Some, Bool, true, false, not, nat_lt, nat_le, nat_eq, if◌then◌else◌, refl, sym, ap, ◌∙◌}
use Rattle.wt_grid.specs.declared.axis.Axis.TheVariants.{One, Two}
use Rattle.wt_grid.specs.declared.axis.Axis.{Axis}
use Rattle.std.specs.Prelude.{ℤ, pos, negsuc, ◌+ℤ◌, neg_ℤ}
use Rattle.std.proofs.lemmas.Int.{ints}
use Rattle.std.proofs.lemmas.Bool.Decides.{nat_tests}
use Rattle.wt_grid.specs.First.{first_from}
use Rattle.wt_grid.specs.Grid.{Grid, cell, along, across, at}
use Rattle.wt_grid.specs.Shifts.{IsRepeated}
use Rattle.wt_pattern.specs.declared.periods.Shift.{Shift}
use Rattle.wt_pattern.specs.declared.periods.Shift.TheVariants.{Forward, Back}
use Rattle.wt_pattern.specs.Periods.{IsPeriod, IsPeriodAlong, shift_of, shifted, unlike, period_fault_at, period_fault_in, first_period_fault}
use Rattle.wt_pattern.proofs.FaultLaws.{each_none, none_each}
use Rattle.wt_pattern.proofs.PeriodFaults.{shifted_inside}

-- A shift moves a place by its component.

moves : (d : ℤ) (n x k : ℕ) → k < n → pos k ≡ pos x +ℤ d → shifted (shift_of d) n x ≡ Some k
moves (pos s) n x k lt e =
    let same : x + s ≡ k = omega (arith, ints) in
    let test : nat_lt (x + s) n ≡ true = grind (arith, nat_tests) in
    rw test (ap (λ i. Some i) same)
moves (negsuc s) n x k lt e =
    let same : k + suc s ≡ x = omega (arith, ints) in
    let test : nat_le (suc s) x ≡ true = grind (arith, nat_tests) in
    let there : x - suc s ≡ k = omega arith in
    rw test (ap (λ i. Some i) there)

moved : (d : ℤ) (n x k : ℕ) → shifted (shift_of d) n x ≡ Some k → pos k ≡ pos x +ℤ d
moved (pos s) n x k e = by (nat_lt (x + s) n) refl
  where
    by : (b : Bool) → nat_lt (x + s) n ≡ b → pos k ≡ pos x +ℤ pos s
    by true p = let h : Some (x + s) ≡ Some k = rw p at e in let same : x + s ≡ k = cc in omega (arith, ints)
    by false p = absurd (let h : None ≡ Some k = rw p at e in cc)
moved (negsuc s) n x k e = by (nat_le (suc s) x) refl
  where
    by : (b : Bool) → nat_le (suc s) x ≡ b → pos k ≡ pos x +ℤ negsuc s
    by true p =
        let h : Some (x - suc s) ≡ Some k = rw p at e in
        let same : x - suc s ≡ k = cc in
        let le : suc s ≤ x = grind (arith, nat_tests, p) in
        omega (arith, ints)
    by false p = absurd (let h : None ≡ Some k = rw p at e in cc)

alike : (a b : ℕ) (place : ℕ × ℕ) → (if nat_eq a b then None else Some place) ≡ None → a ≡ b
alike a b place e = by (nat_eq a b) refl
  where
    by : (t : Bool) → nat_eq a b ≡ t → a ≡ b
    by true p = grind (arith, nat_tests, p)
    by false p = absurd (let h : Some place ≡ None = rw p at e in cc)

pub is_period : (dx dy : ℤ) (g : Grid) → first_period_fault dx dy g ≡ None → IsPeriod g dx dy
is_period dx dy g e i j k l li lj lk ll ex ey =
    let none = each_none (period_fault_at (shift_of dx) (shift_of dy) g j) g.width (each_none (period_fault_in (shift_of dx) (shift_of dy) g) g.height e j lj) i li in
    let here : unlike g i j (Some k) (Some l) ≡ None = rw (moves dx g.width i k lk ex, moves dy g.height j l ll ey) at none in
    alike (cell g i j) (cell g k l) (i, j) here

same_cells : (g : Grid) (dx dy : ℤ) (x y : ℕ) → IsPeriod g dx dy → x < g.width → y < g.height → (a b : Option ℕ) → shifted (shift_of dx) g.width x ≡ a → shifted (shift_of dy) g.height y ≡ b
    → unlike g x y a b ≡ None
same_cells g dx dy x y h lx ly None b e f = refl
same_cells g dx dy x y h lx ly (Some k) None e f = refl
same_cells g dx dy x y h lx ly (Some k) (Some l) e f =
    let same : cell g x y ≡ cell g k l = h x y k l lx ly (shifted_inside (shift_of dx) g.width x k lx e) (shifted_inside (shift_of dy) g.height y l ly f) (moved dx g.width x k e) (moved dy g.height y l f) in
    let test : nat_eq (cell g x y) (cell g k l) ≡ true = grind (arith, nat_tests) in
    rw test refl

pub no_period_fault : (dx dy : ℤ) (g : Grid) → IsPeriod g dx dy → first_period_fault dx dy g ≡ None
no_period_fault dx dy g h = none_each (period_fault_in (shift_of dx) (shift_of dy) g) g.height (λ y ly.
    none_each (period_fault_at (shift_of dx) (shift_of dy) g y) g.width (λ x lx.
    same_cells g dx dy x y h lx ly (shifted (shift_of dx) g.width x) (shifted (shift_of dy) g.height y) refl refl))

-- Vectors, their opposites, and both axes.

pub opposite_period : (axis : Axis) (g : Grid) (d e : ℤ) → IsPeriodAlong axis g d e → IsPeriodAlong axis g (neg_ℤ d) (neg_ℤ e)
opposite_period axis g d e h i j k l li lj lk ll p q =
    let p' : pos i ≡ pos k +ℤ d = omega (arith, ints) in
    let q' : pos j ≡ pos l +ℤ e = omega (arith, ints) in
    sym (h k l i j lk ll li lj p' q')

pub turned_period : (g : Grid) (dx dy : ℤ) → IsPeriodAlong One g dx dy → IsPeriodAlong Two g dy dx
turned_period g dx dy h i j k l li lj lk ll p q = h j i l k lj li ll lk q p

pub turned_back : (g : Grid) (dx dy : ℤ) → IsPeriodAlong Two g dy dx → IsPeriodAlong One g dx dy
turned_back g dx dy h i j k l li lj lk ll p q = h j i l k lj li ll lk q p

-- Vectors without signs.

pub forward_repeated : (axis : Axis) (g : Grid) (d n : ℕ) → IsPeriodAlong axis g (pos d) (pos n) → IsRepeated axis d 0 n g
forward_repeated axis g d n h i j li la lb =
    let p : pos (i + d) ≡ pos i +ℤ pos d = omega (arith, ints) in
    let q : pos (j + n) ≡ pos (j + 0) +ℤ pos n = omega (arith, ints) in
    h i (j + 0) (i + d) (j + n) (omega arith) la li lb p q

pub back_repeated : (axis : Axis) (g : Grid) (d n : ℕ) → IsPeriodAlong axis g (pos d) (neg_ℤ (pos n)) → IsRepeated axis d n 0 g
back_repeated axis g d n h i j li la lb =
    let p : pos (i + d) ≡ pos i +ℤ pos d = omega (arith, ints) in
    let q : pos (j + 0) ≡ pos (j + n) +ℤ neg_ℤ (pos n) = omega (arith, ints) in
    h i (j + n) (i + d) (j + 0) (omega arith) la li lb p q

pub repeated_forward : (axis : Axis) (g : Grid) (d n : ℕ) → IsRepeated axis d 0 n g → IsPeriodAlong axis g (pos d) (pos n)
repeated_forward axis g d n h i j k l li lj lk ll p q =
    let pk : i + d ≡ k = omega (arith, ints) in
    let ql : j + n ≡ l = omega (arith, ints) in
    let z : j + 0 ≡ j = omega arith in
    let r : at axis g i (j + 0) ≡ at axis g (i + d) (j + n) = h i j (omega arith) (omega arith) (omega arith) in
    rw (z, pk, ql) at r

pub repeated_back : (axis : Axis) (g : Grid) (d n : ℕ) → IsRepeated axis d n 0 g → IsPeriodAlong axis g (pos d) (neg_ℤ (pos n))
repeated_back axis g d n h i j k l li lj lk ll p q =
    let pk : i + d ≡ k = omega (arith, ints) in
    let ql : l + n ≡ j = omega (arith, ints) in
    let z : l + 0 ≡ l = omega arith in
    let r : at axis g i (l + n) ≡ at axis g (i + d) (l + 0) = h i l (omega arith) (omega arith) (omega arith) in
    rw (ql, pk, z) at r
