-- Parts of valid rectangles.
use Rattle.std.proofs.Common.{arith, ◌≡◌, ℕ, suc, ◌+◌, ◌-◌, ◌*◌, ◌<◌, ◌≤◌, Bool, refl, sym, ◌∙◌, subst}
use Rattle.wt_grid.specs.declared.axis.Axis.TheVariants.{One, Two}
use Rattle.wt_grid.specs.declared.axis.Axis.{Axis}
use Rattle.wt_grid.specs.Grid.{Grid, cell, IsGrid, along, across, at, grid_of}
use Rattle.wt_grid.proofs.Bridge.{length-listed, cell_of}
use Rattle.wt_grid.specs.Parts.{part, part_along, core, AllBelow, IsValid, IsWindow}

pub grid_grid : (w h : ℕ) (f : ℕ → ℕ → ℕ) → 1 ≤ w → 1 ≤ h → IsGrid (grid_of w h f)
grid_grid w h f lw lh = record { wide = lw; high = lh; whole = length-listed (w * h) _ }

pub at_part : (g : Grid) (x y w h i j : ℕ) → i < w → j < h → cell (part g x y w h) i j ≡ cell g (x + i) (y + j)
at_part g x y w h i j li lj = cell_of w h i j (λ i j. cell g (x + i) (y + j)) li lj

pub below_part : (n : ℕ) (g : Grid) (x y w h : ℕ) → AllBelow n g → x + w ≤ g.width → y + h ≤ g.height → AllBelow n (part g x y w h)
below_part n g x y w h b lw lh i j li lj = rw (at_part g x y w h i j li lj) (b (x + i) (y + j) (omega arith) (omega arith))

pub valid_part : (m : Axis → ℕ → ℕ → Bool) (g : Grid) (x y w h : ℕ) → IsValid m g → x + w ≤ g.width → y + h ≤ g.height → IsValid m (part g x y w h)
valid_part m g x y w h v lw lh One i j li lj =
    let next : x + suc i ≡ suc (x + i) = omega arith in
    rw (at_part g x y w h i j (omega arith) lj, at_part g x y w h (suc i) j li lj, next) (v One (x + i) (y + j) (omega arith) (omega arith))
valid_part m g x y w h v lw lh Two i j li lj =
    let next : y + suc i ≡ suc (y + i) = omega arith in
    rw (at_part g x y w h j i lj (omega arith), at_part g x y w h j (suc i) lj li, next) (v Two (y + i) (x + j) (omega arith) (omega arith))

-- The window round a pair of a valid rectangle.
pub window_at : (n : ℕ) (m : Axis → ℕ → ℕ → Bool) (axis : Axis) (g : Grid) (i j r : ℕ) → AllBelow n g → IsValid m g → i + (r + r + 2) ≤ along axis g → j + (r + r + 1) ≤ across axis g
    → IsWindow n m axis (at axis g (i + r) (j + r)) (at axis g (suc (i + r)) (j + r)) r (part_along axis g i j (r + r + 2) (r + r + 1))
window_at n m One g i j r b v li lj = record {
  grid = grid_grid (r + r + 2) (r + r + 1) (λ x y. cell g (i + x) (j + y)) (omega arith) (omega arith);
  long = refl;
  wide = refl;
  tiles = below_part n g i j (r + r + 2) (r + r + 1) b li lj;
  valid = valid_part m g i j (r + r + 2) (r + r + 1) v li lj;
  first = at_part g i j (r + r + 2) (r + r + 1) r r (omega arith) (omega arith);
  second = let next : i + suc r ≡ suc (i + r) = omega arith in at_part g i j (r + r + 2) (r + r + 1) (suc r) r (omega arith) (omega arith) ∙ rw next refl;
}
window_at n m Two g i j r b v li lj = record {
  grid = grid_grid (r + r + 1) (r + r + 2) (λ x y. cell g (j + x) (i + y)) (omega arith) (omega arith);
  long = refl;
  wide = refl;
  tiles = below_part n g j i (r + r + 1) (r + r + 2) b lj li;
  valid = valid_part m g j i (r + r + 1) (r + r + 2) v lj li;
  first = at_part g j i (r + r + 1) (r + r + 2) r r (omega arith) (omega arith);
  second = let next : i + suc r ≡ suc (i + r) = omega arith in at_part g j i (r + r + 1) (r + r + 2) r (suc r) (omega arith) (omega arith) ∙ rw next refl;
}

-- A cell of the core, by lines.
pub at_core : (axis : Axis) (r : ℕ) (g : Grid) (i j : ℕ) → i < along axis (core r g) → j < across axis (core r g) → at axis (core r g) i j ≡ at axis g (r + i) (r + j)
at_core One r g i j li lj = at_part g r r (g.width - (r + r)) (g.height - (r + r)) i j li lj
at_core Two r g i j li lj = at_part g r r (g.width - (r + r)) (g.height - (r + r)) j i lj li

pub along_core : (axis : Axis) (r : ℕ) (g : Grid) → along axis (core r g) ≡ along axis g - (r + r)
along_core One r g = refl
along_core Two r g = refl

pub across_core : (axis : Axis) (r : ℕ) (g : Grid) → across axis (core r g) ≡ across axis g - (r + r)
across_core One r g = refl
across_core Two r g = refl

-- Each pair in a core has its window of a radius up to the core's.
pub core_window : (n : ℕ) (m : Axis → ℕ → ℕ → Bool) (axis : Axis) (g : Grid) (i j r s : ℕ) → AllBelow n g → IsValid m g → s ≤ r
    → suc i < along axis (core r g) → j < across axis (core r g)
    → (p : Grid) × IsWindow n m axis (at axis (core r g) i j) (at axis (core r g) (suc i) j) s p
core_window n m axis g i j r s b v le li lj =
    let la : suc i < along axis g - (r + r) = rw (sym (along_core axis r g)) li in
    let lb : j < across axis g - (r + r) = rw (sym (across_core axis r g)) lj in
    let w = window_at n m axis g (r + i - s) (r + j - s) s b v (omega arith) (omega arith) in
    let e : r + i - s + s ≡ r + i = omega arith in
    let f : r + j - s + s ≡ r + j = omega arith in
    let k : r + suc i ≡ suc (r + i) = omega arith in (
      part_along axis g (r + i - s) (r + j - s) (s + s + 2) (s + s + 1),
      rw (at_core axis r g i j (omega arith) lj, at_core axis r g (suc i) j li lj, k)
          (let P : ℕ → ℕ → Type 0 = λ x y. IsWindow n m axis (at axis g x y) (at axis g (suc x) y) s (part_along axis g (r + i - s) (r + j - s) (s + s + 2) (s + s + 1)) in
          subst (λ (x : ℕ). P x (r + j)) e (subst (λ (y : ℕ). P (r + i - s + s) y) f w)),
    )

-- A core of a valid rectangle is valid.
pub core_valid : (m : Axis → ℕ → ℕ → Bool) (r : ℕ) (g : Grid) → IsValid m g → IsValid m (core r g)
core_valid m r g v axis i j li lj =
    let la : suc i < along axis g - (r + r) = rw (sym (along_core axis r g)) li in
    let lb : j < across axis g - (r + r) = rw (sym (across_core axis r g)) lj in
    let k : r + suc i ≡ suc (r + i) = omega arith in
    rw (at_core axis r g i j (omega arith) lj, at_core axis r g (suc i) j li lj, k) (v axis (r + i) (r + j) (omega arith) (omega arith))

at_below : (axis : Axis) (n : ℕ) (g : Grid) → AllBelow n g → (i j : ℕ) → i < along axis g → j < across axis g → at axis g i j < n
at_below One n g b i j li lj = b i j li lj
at_below Two n g b i j li lj = b j i lj li

pub core_below : (axis : Axis) (n r : ℕ) (g : Grid) → AllBelow n g → (i j : ℕ) → i < along axis (core r g) → j < across axis (core r g) → at axis (core r g) i j < n
core_below axis n r g b i j li lj =
    let la : i < along axis g - (r + r) = rw (sym (along_core axis r g)) li in
    let lb : j < across axis g - (r + r) = rw (sym (across_core axis r g)) lj in
    rw (at_core axis r g i j li lj) (at_below axis n g b (r + i) (r + j) (omega arith) (omega arith))
