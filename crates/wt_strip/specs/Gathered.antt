-- Scaffolding: rows that are appended in ascending order.
use Rattle.std.specs.Prelude.{◌≡◌, ℕ, suc, ◌*◌, ◌<◌, ◌≤◌, List, length, slice_index, true}
use Rattle.wt_tile.specs.declared.tile.Tile.{Tile}
use Rattle.wt_strip.specs.Listed.{rows_in, row_at, is_before}
use Rattle.wt_strip.specs.Walks.{IsWay, AreAlike}

-- Behind the old rows stand others, in ascending order: rows that their columns allow, that agree with a row in the first x columns, and whose tile in column x is below t.
pub record AreGathered (ts : List Tile) (allowed : List (List ℕ)) (w x t : ℕ) (start old new : List ℕ) : Type 0 where
  pub whole : length new ≡ rows_in w new * w
  pub longer : rows_in w old ≤ rows_in w new
  pub kept : (r : ℕ) → r < rows_in w old → row_at w new r ≡ row_at w old r
  pub ways : (r : ℕ) → rows_in w old ≤ r → r < rows_in w new → IsWay ts allowed w (row_at w new r)
  pub agree : (r : ℕ) → rows_in w old ≤ r → r < rows_in w new → AreAlike x (row_at w new r) start
  pub below : (r : ℕ) → rows_in w old ≤ r → r < rows_in w new → slice_index (row_at w new r) x < t
  pub ascending : (r : ℕ) → rows_in w old ≤ r → suc r < rows_in w new → is_before (row_at w new r) (row_at w new (suc r)) ≡ true

-- none of those rows is left out
abbrev pub HasAllGathered : List Tile → List (List ℕ) → ℕ → ℕ → ℕ → List ℕ → List ℕ → List ℕ → Type 0
HasAllGathered ts allowed w x t start old new =
    (q : List ℕ) → length q ≡ w → IsWay ts allowed w q → AreAlike x q start → slice_index q x < t
    → (r : ℕ) × (rows_in w old ≤ r) × (r < rows_in w new) × (row_at w new r ≡ q)

-- the same where column x may have any tile
abbrev pub HasEachGathered : List Tile → List (List ℕ) → ℕ → ℕ → List ℕ → List ℕ → List ℕ → Type 0
HasEachGathered ts allowed w x start old new = HasAllGathered ts allowed w x (length ts) start old new
