-- Parts of rectangles, and what is valid, said of lines along either axis.
use Rattle.std.specs.Prelude.{◌≡◌, ℕ, suc, ◌+◌, ◌-◌, ◌<◌, Bool, true}
use Rattle.wt_grid.specs.declared.axis.Axis.TheVariants.{One, Two}
use Rattle.wt_grid.specs.declared.axis.Axis.{Axis}
use Rattle.wt_grid.specs.Grid.{Grid, cell, IsGrid, along, across, at, grid_of}

-- w by h cells from (x, y) on
abbrev pub part : Grid → ℕ → ℕ → ℕ → ℕ → Grid
part g x y w h = grid_of w h (λ i j. cell g (x + i) (y + j))

-- n lines from line i on, m cells of each from cell j on
abbrev pub part_along : Axis → Grid → ℕ → ℕ → ℕ → ℕ → Grid
part_along One g i j n m = part g i j n m
part_along Two g i j n m = part g j i m n

-- without r lines on each side
abbrev pub core : ℕ → Grid → Grid
core r g = part g r r (g.width - (r + r)) (g.height - (r + r))

-- each cell is below n
abbrev pub AllBelow : ℕ → Grid → Type 0
AllBelow n g = (x y : ℕ) → x < g.width → y < g.height → cell g x y < n

-- neighbouring cells match along both axes
abbrev pub IsValid : (Axis → ℕ → ℕ → Bool) → Grid → Type 0
IsValid matches g = (axis : Axis) (i j : ℕ) → suc i < along axis g → j < across axis g → matches axis (at axis g i j) (at axis g (suc i) j) ≡ true

-- a valid window of a pair: a and b stand side by side in the middle, r lines from the border
pub record IsWindow (n : ℕ) (matches : Axis → ℕ → ℕ → Bool) (axis : Axis) (a b r : ℕ) (g : Grid) : Type 0 where
  pub grid : IsGrid g
  pub long : along axis g ≡ r + r + 2
  pub wide : across axis g ≡ r + r + 1
  pub tiles : AllBelow n g
  pub valid : IsValid matches g
  pub first : at axis g r r ≡ a
  pub second : at axis g (suc r) r ≡ b
