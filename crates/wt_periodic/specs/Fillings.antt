-- Searches of wrapping rectangles in reading order, and how many trials they take.
use Rattle.std.specs.Prelude.{◌≡◌, ℕ, ◌+◌, ◌-◌, ◌*◌, ◌%◌, ◌<◌, ◌≤◌, Bool, true, ◌&&◌, nat_eq, nat_le, nat_lt, List, [], ◌∷◌, ◌++◌, length, slice_index}
use Rattle.wt_grid.specs.declared.axis.Axis.TheVariants.{One, Two}
use Rattle.wt_tile.specs.declared.tile.Tile.{Tile}
use Rattle.wt_tile.specs.Matching.{matches}
use Rattle.wt_lane.specs.Masks.{mask_bit}
use Rattle.wt_mask.specs.Masks.{bit}
use Rattle.wt_window.specs.Frames.{IsNext}
use Rattle.wt_window.specs.Trials.{Window, IsFilling, fillings, implies, sum_to, trials_after}

-- a rectangle of w by h cells as a window of no pair: the cells of its pair lie behind its last
abbrev pub open_window : ℕ → ℕ → Window
open_window w h = record { width = w; height = h; first = w * h; second = w * h; a = 0; b = 0 }

-- The trials of a size: over i from 0 to the number of cells, the fillings of the first i cells in reading order whose neighbours match inside the rectangle, summed.
abbrev pub wrap_trials : List Tile → ℕ → ℕ → ℕ
wrap_trials ts w h = sum_to (λ i. length (fillings ts (open_window w h) i)) (w * h)

-- A filling of the first i cells whose neighbours match inside the rectangle; and the last cell of each row, as far as it is filled, matches the first of its row, and each cell of the last row the cell of row 0 above it.
pub record IsClosed (ts : List Tile) (w h i : ℕ) (f : List ℕ) : Type 0 where
  pub filling : IsFilling ts (open_window w h) i f
  pub right : (k : ℕ) → k < i → k % w + 1 ≡ w → matches ts One (slice_index f k) (slice_index f (k + 1 - w)) ≡ true
  pub above : (k : ℕ) → k < i → w * h ≤ k + w → matches ts Two (slice_index f k) (slice_index f (k + w - w * h)) ≡ true

-- tile t, next behind the filling, matches the first cell of its row, if its cell is the last of the row
abbrev pub closes_row : List Tile → ℕ → List ℕ → ℕ → Bool
closes_row ts w f t = implies (nat_eq (length f % w + 1) w) (matches ts One t (slice_index (f ++ t ∷ []) (length f + 1 - w)))

-- tile t, next behind the filling, matches the cell of row 0 in its column, if its cell is in the last row
abbrev pub closes_column : List Tile → ℕ → ℕ → List ℕ → ℕ → Bool
closes_column ts w h f t = implies (nat_le (w * h) (length f + w)) (matches ts Two t (slice_index (f ++ t ∷ []) (length f + w - w * h)))

-- tile t may follow the filling, and closes what its cell closes
pub record IsClosing (ts : List Tile) (w h : ℕ) (f : List ℕ) (t : ℕ) : Type 0 where
  pub next : IsNext ts (open_window w h) f t
  pub row : closes_row ts w f t ≡ true
  pub column : closes_column ts w h f t ≡ true

-- a filling of all cells that wraps round, and has its least tile in its first cell
pub record IsSought (ts : List Tile) (w h : ℕ) (g : List ℕ) : Type 0 where
  pub closed : IsClosed ts w h (w * h) g
  pub low : (k : ℕ) → k < w * h → slice_index g 0 ≤ slice_index g k

-- the mask of the tiles that match themselves along an axis
abbrev pub IsSelves : List Tile → (ℕ → ℕ → Bool) → List ℕ → Type 0
IsSelves ts fits mask = (u : ℕ) → mask_bit mask u ≡ bit (nat_lt u (length ts) && fits u u)

-- the trials of a filling of the first i cells
abbrev pub trials_left : List Tile → ℕ → ℕ → ℕ → List ℕ → ℕ
trials_left ts w h i f = trials_after ts (open_window w h) i f

-- none of the first n numbers is less than the first
abbrev pub BeginsLeast : ℕ → List ℕ → Type 0
BeginsLeast n g = (k : ℕ) → k < n → slice_index g 0 ≤ slice_index g k

-- the mask has number n of a list
abbrev pub HasNext : ℕ → List ℕ → List ℕ → Type 0
HasNext n mask g = mask_bit mask (slice_index g n) ≡ 1
