-- Scaffolding: windows as a search of them holds them: a mask of tiles for each cell.
use Rattle.std.specs.Int.{bit_at}
use Rattle.std.specs.Prelude.{◌≡◌, ℕ, Bool, suc, ◌+◌, ◌-◌, ◌*◌, ◌%◌, ◌<◌, ◌≤◌, true, ◌&&◌, nat_lt, nat_le, if◌then◌else◌, Option, None, Some, List, length, take, slice_index}
use Rattle.wt_grid.specs.declared.axis.Axis.TheVariants.{One, Two}
use Rattle.wt_grid.specs.declared.axis.Axis.{Axis}
use Rattle.wt_tile.specs.declared.tile.Tile.{Tile}
use Rattle.wt_tile.specs.Matching.{matches}
use Rattle.wt_lane.specs.Masks.{mask_bit}
use Rattle.wt_pattern.specs.Windows.{window_size}
use Rattle.wt_mask.specs.Masks.{bit, mask_at, may_stand}
use Rattle.wt_mask.specs.declared.sides.Way.{Way}
use Rattle.wt_mask.specs.declared.sides.Way.TheVariants.{Right, Left, Up, Down}
use Rattle.wt_window.specs.declared.frame.Frame.{Frame}
use Rattle.wt_window.specs.Trials.{Window, IsFilling, cells, cell_number, may_follow}
use Rattle.wt_pattern.specs.declared.window.TheConstants.{MAX_CELLS}

-- for each tile the mask of those that may stand on this side of it
abbrev pub IsTable : List Tile → Way → List (List ℕ) → Type 0
IsTable ts way rows = (length rows ≡ length ts) × ((t u : ℕ) → t < length ts → mask_bit (mask_at rows t) u ≡ bit (nat_lt u (length ts) && may_stand ts way t u))

-- the window that a frame frames
abbrev pub frame_window : Frame → Window
frame_window f = record { width = f.width; height = f.height; first = f.first; second = f.second; a = f.a; b = f.b }

-- the number of the cell on this side of a cell, where the window has one
abbrev pub beside : Window → ℕ → Way → Option ℕ
beside w c Right = if nat_lt (c % w.width + 1) w.width then Some (c + 1) else None
beside w c Left = if nat_lt 0 (c % w.width) then Some (c - 1) else None
beside w c Up = if nat_lt (c + w.width) (cells w) then Some (c + w.width) else None
beside w c Down = if nat_le w.width c then Some (c - w.width) else None

-- a rectangle that 90 masks can hold
pub record IsBox (width height : ℕ) : Type 0 where
  pub wide : 0 < width
  pub low_width : width ≤ MAX_CELLS
  pub few : width * height ≤ MAX_CELLS

-- a window that 90 masks can hold, for two tiles of a list of this length
pub record IsFrame (n : ℕ) (w : Window) : Type 0 where
  pub box : IsBox w.width w.height
  pub first : w.a < n
  pub second : w.b < n
  pub first_in : w.first < cells w
  pub second_in : w.second < cells w

-- tiles that fill a rectangle so that neighbours match, whatever stands in its middle
pub record IsTiled (ts : List Tile) (width height : ℕ) (g : List ℕ) : Type 0 where
  pub size : length g ≡ width * height
  pub tiles : (k : ℕ) → k < width * height → slice_index g k < length ts
  pub right : (x y : ℕ) → suc x < width → cell_number width (suc x) y < width * height → matches ts One (slice_index g (cell_number width x y)) (slice_index g (cell_number width (suc x) y)) ≡ true
  pub above : (x y : ℕ) → x < width → cell_number width x (suc y) < width * height → matches ts Two (slice_index g (cell_number width x y)) (slice_index g (cell_number width x (suc y))) ≡ true

-- a filling of all cells of a frame's window
abbrev pub IsWhole : List Tile → Frame → List ℕ → Type 0
IsWhole ts f g = IsFilling ts (frame_window f) (cells (frame_window f)) g

-- each cell's tile is in the cell's mask
abbrev pub Stand : List (List ℕ) → List ℕ → Type 0
Stand masks g = (k : ℕ) → k < length g → mask_bit (mask_at masks k) (slice_index g k) ≡ 1

-- the new masks have each filling of the rectangle that the old ones have
abbrev pub HasAllOf : List Tile → ℕ → ℕ → List (List ℕ) → List (List ℕ) → Type 0
HasAllOf ts width height old new = (g : List ℕ) → IsTiled ts width height g → Stand old g → Stand new g

-- the masks have no filling of the rectangle
abbrev pub HasNoFilling : List Tile → ℕ → ℕ → List (List ℕ) → Type 0
HasNoFilling ts width height masks = (g : List ℕ) → IsTiled ts width height g → Stand masks g → ⊥

-- the masks have each filling of the windows of a radius, whatever stands in the middle
abbrev pub HasAllFillings : List Tile → Axis → ℕ → List (List ℕ) → Type 0
HasAllFillings ts axis r masks = (g : List ℕ) → IsTiled ts (window_size axis r).0 (window_size axis r).1 g → Stand masks g

-- the masks have each filling of the frame's window that has the same first cells
abbrev pub HasAllFrom : List Tile → Frame → ℕ → List ℕ → List (List ℕ) → Type 0
HasAllFrom ts f at filled masks = (g : List ℕ) → IsWhole ts f g → take at g ≡ take at filled → Stand masks g

-- the tile may follow the filling
pub record IsNext (ts : List Tile) (w : Window) (f : List ℕ) (t : ℕ) : Type 0 where
  pub low : t < length ts
  pub follow : may_follow ts w f t ≡ true

-- the mask has exactly those of the first n tiles that pass the test
abbrev pub HasThose : ℕ → (ℕ → Bool) → List ℕ → Type 0
HasThose n passes mask = (t : ℕ) → mask_bit mask t ≡ bit (nat_lt t n && passes t)

-- the mask has exactly the tiles that pass the test behind the filling
abbrev pub HasThoseBehind : (List Tile → Window → List ℕ → ℕ → Bool) → List Tile → Window → List ℕ → List ℕ → Type 0
HasThoseBehind passes ts w f mask = HasThose (length ts) (passes ts w f) mask

-- the mask has each tile that the table has for a tile of a word of 64, from a first one on
abbrev pub HasWordsTiles : List (List ℕ) → ℕ → ℕ → List ℕ → Type 0
HasWordsTiles table first word mask =
    (j u : ℕ) → j < 64 → first + j < length table → bit_at word j ≡ 1 → mask_bit (mask_at table (first + j)) u ≡ 1 → mask_bit mask u ≡ 1

-- the mask has each tile that the table has for a tile of another
abbrev pub HasSupport : List (List ℕ) → List ℕ → List ℕ → Type 0
HasSupport table other mask =
    (t u : ℕ) → t < length table → mask_bit other t ≡ 1 → mask_bit (mask_at table t) u ≡ 1 → mask_bit mask u ≡ 1

-- the new mask has each tile of the old one that the table has for a tile of another
abbrev pub KeepsSupported : List (List ℕ) → List ℕ → List ℕ → List ℕ → Type 0
KeepsSupported table other old new =
    (t u : ℕ) → t < length table → mask_bit other t ≡ 1 → mask_bit (mask_at table t) u ≡ 1 → mask_bit old u ≡ 1 → mask_bit new u ≡ 1
