-- Scaffolding: lines of tiles that close, stacked: what each wrapping rectangle gives, repeated across its lines.
use Rattle.std.specs.Prelude.{◌≡◌, ℕ, ◌+◌, ◌-◌, ◌%◌, ◌<◌, ◌≤◌, ◌&&◌, Bool, true, false, nat_lt, Option, None, Some, List, length, take, slice_index, slice_index_or}
use Rattle.wt_grid.specs.Axes.{other}
use Rattle.wt_grid.specs.declared.axis.Axis.TheVariants.{One, Two}
use Rattle.wt_grid.specs.declared.axis.Axis.{Axis}
use Rattle.wt_tile.specs.declared.tile.Tile.{Tile}
use Rattle.wt_tile.specs.Matching.{matches}
use Rattle.wt_lane.specs.Masks.{mask_bit}
use Rattle.wt_mask.specs.Masks.{bit, mask_at}
use Rattle.wt_pattern.specs.Windows.{IsSurroundable}
use Rattle.wt_window.specs.Surrounded.{allowed}
use Rattle.wt_window.specs.Begun.{AllBegun}
use Rattle.wt_periodic.specs.Fillings.{HasNext}
use Rattle.wt_periodic.specs.Wraps.{HasNoWrapOf}
use Rattle.wt_periodic.specs.declared.pairs.TheConstants.{RADIUS}

-- b stands ahead of a in a window along this axis
abbrev pub IsPair : List Tile → Axis → ℕ → ℕ → Type 0
IsPair ts axis a b = IsSurroundable ts axis a b RADIUS

-- each pair's second tile is in the mask of its first
abbrev pub HasAhead : List Tile → Axis → List (List ℕ) → Type 0
HasAhead ts axis masks = (t u : ℕ) → t < length ts → u < length ts → IsPair ts axis t u → (t < length masks) × (mask_bit (mask_at masks t) u ≡ 1)

-- each pair's first tile is in the mask of its second
abbrev pub HasBehind : List Tile → Axis → List (List ℕ) → Type 0
HasBehind ts axis masks = (t u : ℕ) → t < length ts → u < length ts → IsPair ts axis u t → (t < length masks) × (mask_bit (mask_at masks t) u ≡ 1)

-- each tile that stands ahead of itself is in the mask
abbrev pub HasSelves : List Tile → Axis → List ℕ → Type 0
HasSelves ts axis mask = (u : ℕ) → u < length ts → IsPair ts axis u u → mask_bit mask u ≡ 1

-- u stands ahead of t by the table; where there is no table, it matches t
abbrev pub stands : Option (List (List ℕ)) → List Tile → Axis → ℕ → ℕ → Bool
stands (Some rows) ts axis t u = allowed rows t u
stands None ts axis t u = matches ts axis t u

-- u stands ahead of t, or behind it
abbrev pub stands_beside : Option (List (List ℕ)) → List Tile → Axis → Bool → ℕ → ℕ → Bool
stands_beside table ts axis true t u = stands table ts axis u t
stands_beside table ts axis false t u = stands table ts axis t u

-- for each of n tiles the mask of those that stand beside it, as f says
abbrev pub AreMasks : ℕ → (ℕ → ℕ → Bool) → List (List ℕ) → Type 0
AreMasks n f masks = (length masks ≡ n) × ((t u : ℕ) → t < n → mask_bit (mask_at masks t) u ≡ bit (nat_lt u n && f t u))

-- Lines of w cells along an axis, stacked, n cells in all: neighbours are pairs, and the last cell of each line and its first are one. No tile is less than the first.
pub record IsCylinder (ts : List Tile) (axis : Axis) (w n : ℕ) (g : List ℕ) : Type 0 where
  pub size : length g ≡ n
  pub tiles : (k : ℕ) → k < n → slice_index g k < length ts
  pub along : (k : ℕ) → k < n → 0 < k % w → IsPair ts axis (slice_index g (k - 1)) (slice_index g k)
  pub close : (k : ℕ) → k < n → k % w + 1 ≡ w → IsPair ts axis (slice_index g k) (slice_index g (k + 1 - w))
  pub across : (k : ℕ) → k < n → w ≤ k → IsPair ts (other axis) (slice_index g (k - w)) (slice_index g k)
  pub low : (k : ℕ) → k < n → slice_index g 0 ≤ slice_index g k

-- The mask has the next tile of each cylinder along this axis that begins with as many of these cells, where the other axis is the one across.
abbrev pub KeepsCylinders : List Tile → Axis → Axis → ℕ → List ℕ → ℕ → List ℕ → Type 0
KeepsCylinders ts across axis w filled at mask =
    (g : List ℕ) → across ≡ other axis → IsCylinder ts axis w (length filled) g → take at g ≡ take at filled → mask_bit mask (slice_index g at) ≡ 1

-- no rectangle of this length along an axis wraps round, whatever its other side
abbrev pub IsDead : List Tile → Axis → ℕ → Type 0
IsDead ts One n = (h : ℕ) → HasNoWrapOf ts n h
IsDead ts Two n = (w : ℕ) → HasNoWrapOf ts w n

-- the lengths that are marked are dead
abbrev pub AreDead : List Tile → Axis → List Bool → Type 0
AreDead ts axis marks = (n : ℕ) → slice_index_or marks n false ≡ true → IsDead ts axis n

-- the mask has the next tile of each cylinder along this axis that begins with as many of these cells
abbrev pub HasNextTiles : List Tile → Axis → ℕ → List ℕ → ℕ → List ℕ → Type 0
HasNextTiles ts axis w filled at mask = AllBegun at filled (IsCylinder ts axis w (length filled)) (HasNext at mask)
