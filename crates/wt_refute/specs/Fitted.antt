-- Scaffolding: which tiles fit a cell, as a mask, and how many fit the free cells.
use Rattle.std.specs.Prelude.{◌≡◌, ℕ, Bool, true, ◌&&◌, nat_lt, List, length, Option, None, Some, slice_index}
use Rattle.wt_tile.specs.declared.tile.Tile.{Tile}
use Rattle.wt_lane.specs.Masks.{mask_bit}
use Rattle.wt_mask.specs.declared.sides.Way.{Way}
use Rattle.wt_mask.specs.Masks.{bit, may_stand}
use Rattle.wt_refute.specs.Placed.{Placed, is_free, fitting, fits_cell}

-- tile u may stand on this side of what is placed, where something is
abbrev pub joins : List Tile → Way → Option ℕ → ℕ → Bool
joins ts way None u = true
joins ts way (Some t) u = may_stand ts way t u

-- the mask has the tiles that fit the cell, and no other
abbrev pub IsFitMask : List Tile → Placed → ℕ → List ℕ → Type 0
IsFitMask ts p c mask = (t : ℕ) → mask_bit mask t ≡ bit (nat_lt t (length ts) && fits_cell ts p c t)

-- the count of a cell says how many tiles fit there
abbrev pub IsCounted : List Tile → Placed → List ℕ → ℕ → Type 0
IsCounted ts p counts c = slice_index counts c ≡ length (fitting ts p c)

-- the counts say of each free cell how many tiles fit there
abbrev pub AreCounted : List Tile → Placed → List ℕ → Type 0
AreCounted ts p counts = (c : ℕ) → is_free p c ≡ true → IsCounted ts p counts c
