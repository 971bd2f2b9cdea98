-- Which pairs of tiles have a window, and the least window in reading order.
use Rattle.std.specs.Prelude.{◌≡◌, ◌⊎◌, ◌↔◌, ℕ, ◌<◌, ◌≤◌, Bool, true, false, nat_eq, nat_lt, List, length}
use Rattle.wt_grid.specs.Order.{IsBefore}
use Rattle.wt_grid.specs.declared.axis.Axis.TheVariants.{One, Two}
use Rattle.wt_grid.specs.declared.axis.Axis.{Axis}
use Rattle.wt_tile.specs.declared.tile.Tile.{Tile}
use Rattle.wt_tile.specs.Matching.{matches}
use Rattle.wt_grid.specs.Grid.{Grid}
use Rattle.wt_grid.specs.Parts.{IsWindow}
use Rattle.wt_lane.specs.Masks.{mask_bit}
use Rattle.wt_mask.specs.Masks.{mask_at}
use Rattle.wt_pattern.specs.Windows.{IsSurroundable}
use Rattle.wt_window.specs.Trials.{trials, window, cells, fillings}

-- the test of IsSurroundable: some filling of all cells of the window is valid
unfoldable pub surroundable : List Tile → Axis → ℕ → ℕ → ℕ → Bool
surroundable ts axis r a b = nat_lt 0 (length (fillings ts (window axis a b r) (cells (window axis a b r))))

-- f says yes exactly to the pairs of an axis that have a window of this radius
abbrev pub Tells : List Tile → Axis → ℕ → (ℕ → ℕ → Bool) → Type 0
Tells ts axis r f = (a b : ℕ) → (f a b ≡ true) ↔ IsSurroundable ts axis a b r

-- of two relations, the first for axis 1 and the second for axis 2, that of this axis
abbrev pub on : Axis → (ℕ → ℕ → Bool) → (ℕ → ℕ → Bool) → ℕ → ℕ → Bool
on One one two = one
on Two one two = two

-- a valid window of the pair, and each other one comes behind it in reading order
pub record IsLeastWindow (ts : List Tile) (axis : Axis) (a b r : ℕ) (g : Grid) : Type 0 where
  pub window : IsWindow (length ts) (matches ts) axis a b r g
  pub least : (h : Grid) → IsWindow (length ts) (matches ts) axis a b r h → (g.cells ≡ h.cells) ⊎ IsBefore g.cells h.cells

-- the table has the pair
abbrev pub allowed : List (List ℕ) → ℕ → ℕ → Bool
allowed rows a b = nat_eq (mask_bit (mask_at rows a) b) 1

-- the mask has those of the first n tiles that may follow a in a window, and no other
pub record IsRow (ts : List Tile) (axis : Axis) (a r n : ℕ) (mask : List ℕ) : Type 0 where
  pub has : (b : ℕ) → mask_bit mask b ≡ 1 → (b < n) × IsSurroundable ts axis a b r
  pub all : (b : ℕ) → b < n → IsSurroundable ts axis a b r → mask_bit mask b ≡ 1

-- at budget 0, none of the first n tiles may follow a
abbrev pub IsUnmatched : List Tile → Axis → ℕ → ℕ → ℕ → Type 0
IsUnmatched ts axis a n budget = budget ≡ 0 → (d : ℕ) → d < n → matches ts axis a d ≡ true → ⊥

-- tile b may follow a, and their window has more trials than the budget; at budget 0, b is the first that may
pub record IsSpentRow (ts : List Tile) (axis : Axis) (a b r budget : ℕ) : Type 0 where
  pub low : b < length ts
  pub fits : matches ts axis a b ≡ true
  pub over : budget < trials ts (window axis a b r)
  pub first : IsUnmatched ts axis a b budget

-- the first pair in the order of a, then b, that matches
pub record IsFirstMatch (ts : List Tile) (axis : Axis) (a b : ℕ) : Type 0 where
  pub first : a < length ts
  pub second : b < length ts
  pub fits : matches ts axis a b ≡ true
  pub none_before : (c d : ℕ) → c < a → d < length ts → matches ts axis c d ≡ true → ⊥
  pub none_beside : (d : ℕ) → d < b → matches ts axis a d ≡ true → ⊥

-- no tile from this one on may follow a
abbrev pub NoneFollows : List (List ℕ) → ℕ → ℕ → Type 0
NoneFollows rows a from = (b : ℕ) → from ≤ b → allowed rows a b ≡ false

-- b is the least tile from this one on that may follow a
abbrev pub IsNextAfter : List (List ℕ) → ℕ → ℕ → ℕ → Type 0
IsNextAfter rows a from b =
    (from ≤ b) × (allowed rows a b ≡ true) × ((c : ℕ) → from ≤ c → c < b → allowed rows a c ≡ false)
