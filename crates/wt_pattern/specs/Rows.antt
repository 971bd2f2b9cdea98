-- Scaffolding: what is found row by row: the first place of a row, and the cells that match their neighbours.
use Rattle.std.specs.Prelude.{◌≡◌, ℕ, ◌+◌, ◌<◌, Bool, true, List, Option, None, Some, slice_index, if◌then◌else◌}
use Rattle.wt_grid.specs.declared.axis.Axis.TheVariants.{One, Two}
use Rattle.wt_tile.specs.declared.tile.Tile.{Tile}
use Rattle.wt_tile.specs.Matching.{matches, tile_at}
use Rattle.wt_grid.specs.First.{first_from}

-- a number that passes, as an answer
abbrev pub flagged : (ℕ → Bool) → ℕ → Option ℕ
flagged passes x = if passes x then Some x else None

-- the first of n numbers that passes
abbrev pub first_place : (ℕ → Bool) → ℕ → Option ℕ
first_place passes n = first_from (flagged passes) 0 n

-- the colours of the four edges of each of the first n tile numbers, in four lists
pub record HasColours (ts : List Tile) (n : ℕ) (east north west south : List ℕ) : Type 0 where
  pub east_of : (a : ℕ) → a < n → slice_index east a ≡ (tile_at ts a).east
  pub north_of : (a : ℕ) → a < n → slice_index north a ≡ (tile_at ts a).north
  pub west_of : (a : ℕ) → a < n → slice_index west a ≡ (tile_at ts a).west
  pub south_of : (a : ℕ) → a < n → slice_index south a ≡ (tile_at ts a).south

-- each of the first n cells of a row matches the cell to its right, and the cell of the row above it
abbrev pub AreMatched : List Tile → List ℕ → List ℕ → ℕ → Type 0
AreMatched ts row above n = (k : ℕ) → k < n
    → (matches ts One (slice_index row k) (slice_index row (k + 1)) ≡ true) × (matches ts Two (slice_index row k) (slice_index above k) ≡ true)
