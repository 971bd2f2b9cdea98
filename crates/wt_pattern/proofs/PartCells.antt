-- The cells of a part, row by row.
use Rattle.std.proofs.Common.{arith, ◌≡◌, ℕ, zero, suc, ◌+◌, ◌-◌, ◌*◌, ◌/◌, ◌%◌, ◌≤◌, ◌<◌, List, [], ◌∷◌, ◌++◌, take, drop, length, get_or, Bool, true, false, nat_lt, nat_le, ◌&&◌, refl, ap, sym, ◌∙◌}
use Rattle.wt_grid.proofs.Grids.{listed_same}
use Rattle.std.proofs.lemmas.Bool.{and_parts}
use Rattle.std.proofs.lemmas.Bool.Decides.{nat_tests}
use Rattle.std.proofs.lemmas.List.{get_or-take, get_or-drop, length-take, length-drop}
use Rattle.std.proofs.lemmas.Nat.{div-mul-add, mod-mul-add}
use Rattle.std.proofs.Math.Nat.{mul-suc, mul_comm}
use Rattle.wt_grid.specs.Grid.{Grid, cell, IsGrid, listed}
use Rattle.wt_grid.proofs.Bridge.{length-listed}
use Rattle.wt_pattern.specs.Shape.{IsShape, holds_part}
use Rattle.wt_pattern.proofs.RowFaults.{row, row_cell, row_length}

listed_more : {A : Type 0} (n m : ℕ) (f : ℕ → A) → listed n f ++ listed m (λ k. f (n + k)) ≡ listed (n + m) f
listed_more zero m f =
    let z : 0 + m ≡ m = omega arith in
    rw z (listed_same m (λ k. f (0 + k)) f (λ i lt. let e : 0 + i ≡ i = omega arith in ap f e))
listed_more (suc n) m f =
    let s : suc n + m ≡ suc (n + m) = omega arith in
    let r = listed_more n m (λ k. f (suc k)) in
    let t : listed m (λ k. f (suc n + k)) ≡ listed m (λ k. f (suc (n + k))) = listed_same m (λ k. f (suc n + k)) (λ k. f (suc (n + k))) (λ i lt. let e : suc n + i ≡ suc (n + i) = omega arith in ap f e) in
    rw (s, t) (ap (λ (l : List _). f 0 ∷ l) r)

by_index : (xs : List ℕ) → listed (length xs) (λ i. get_or xs i 0) ≡ xs
by_index [] = refl
by_index (x ∷ xs) = ap (λ (l : List ℕ). x ∷ l) (by_index xs)

-- part of a row
slice_listed : (g : Grid) (x y w : ℕ) → IsGrid g → y < g.height → x + w ≤ g.width → take (x + w - x) (drop x (row g y)) ≡ listed w (λ i. cell g (x + i) y)
slice_listed g x y w grid lt le =
    let m : x + w - x ≡ w = omega arith in
    let long : length (take w (drop x (row g y))) ≡ w = omega (arith, length-take w (drop x (row g y)), length-drop x (row g y), row_length g y grid lt) in
    rw m (sym (by_index (take w (drop x (row g y))))
    ∙ ap (λ n. listed n (λ i. get_or (take w (drop x (row g y))) i 0)) long
    ∙ listed_same w (λ i. get_or (take w (drop x (row g y))) i 0) (λ i. cell g (x + i) y)
    (λ i li. get_or-take w (drop x (row g y)) i 0 li ∙ get_or-drop x (row g y) i 0 ∙ row_cell g (x + i) y (omega arith)))

-- cell k of a part, in reading order
abbrev pub part_cell : Grid → ℕ → ℕ → ℕ → ℕ → ℕ
part_cell g x y w k = cell g (x + k % w) (y + k / w)

-- one more row of a part
pub part_more : (g : Grid) (x y w j : ℕ) (cells r : List ℕ) → cells ≡ listed (w * j) (part_cell g x y w) → r ≡ row g (y + j) → IsGrid g → y + j < g.height → x + w ≤ g.width
    → cells ++ take (x + w - x) (drop x r) ≡ listed (w * (j + 1)) (part_cell g x y w)
part_more g x y w j cells r e f grid lt le =
    let one : w * (j + 1) ≡ w * j + w = (let s : j + 1 ≡ suc j = omega arith in ap (λ k. w * k) s ∙ mul-suc w j) in
    let turn : w * j ≡ j * w = mul_comm w j in
    let next : listed w (λ i. cell g (x + i) (y + j)) ≡ listed w (λ i. part_cell g x y w (w * j + i)) =
    listed_same w (λ i. cell g (x + i) (y + j)) (λ i. part_cell g x y w (w * j + i)) (λ i li. rw (turn, mod-mul-add j w i li, div-mul-add j w i li) refl) in
    rw (e, f, one, slice_listed g x (y + j) w grid lt le, next) (listed_more (w * j) w (part_cell g x y w))

-- what holds of a part inside
pub inside : (g : Grid) (x y w h : ℕ) → holds_part g x y w h ≡ true → (1 ≤ w) × (1 ≤ h) × (x + w ≤ g.width) × (y + h ≤ g.height)
inside g x y w h e =
    let a = and_parts (nat_lt 0 w && nat_lt 0 h && nat_le (x + w) g.width) (nat_le (y + h) g.height) e in
    let b = and_parts (nat_lt 0 w && nat_lt 0 h) (nat_le (x + w) g.width) a.0 in
    let d = and_parts (nat_lt 0 w) (nat_lt 0 h) b.0 in
    (grind (arith, nat_tests, d.0), grind (arith, nat_tests, d.1), grind (arith, nat_tests, b.1), grind (arith, nat_tests, a.1))

-- a part inside is a pattern
pub part_shape : (g : Grid) (x y w h : ℕ) (cells : List ℕ) → IsShape g → holds_part g x y w h ≡ true → cells ≡ listed (w * h) (part_cell g x y w) → IsShape (record { width = w; height = h; cells = cells })
part_shape g x y w h cells s e f =
    let i = inside g x y w h e in
    let wide = s.wide in
    let high = s.high in
    record {
      grid = record { wide = i.0; high = i.1; whole = rw f (length-listed (w * h) (part_cell g x y w)) };
      wide = omega arith;
      high = omega arith;
    }
