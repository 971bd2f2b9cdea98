-- Layers of valid rows, each upon the layer below it.
use Rattle.std.specs.Prelude.{◌≡◌, ℕ, zero, suc, ◌<◌, List, length, slice_index, true, false}
use Rattle.wt_tile.specs.declared.tile.Tile.{Tile}
use Rattle.wt_grid.specs.declared.axis.Axis.TheVariants.{One, Two}
use Rattle.wt_tile.specs.Matching.{matches}

-- a valid row of width w: tiles of the list, of which each matches the one to its right
pub record IsRow (ts : List Tile) (w : ℕ) (q : List ℕ) : Type 0 where
  pub long : length q ≡ w
  pub tiles : (x : ℕ) → x < w → slice_index q x < length ts
  pub across : (x : ℕ) → suc x < w → matches ts One (slice_index q x) (slice_index q (suc x)) ≡ true

-- row p can lie below row q: at each of w columns the tile of p matches the one of q above it
abbrev pub IsUnder : List Tile → ℕ → List ℕ → List ℕ → Type 0
IsUnder ts w p q = (x : ℕ) → x < w → matches ts Two (slice_index p x) (slice_index q x) ≡ true

-- the valid rows of width w that can be laid upon n layers of rows: the rows of layer n, counted from 0
abbrev pub IsInLayer : List Tile → ℕ → ℕ → List ℕ → Type 0
IsInLayer ts w zero q = IsRow ts w q
IsInLayer ts w (suc n) q = IsRow ts w q × ((p : List ℕ) × IsInLayer ts w n p × IsUnder ts w p q)

-- each tile of a row matches the one to its right
abbrev pub MatchesAcross : List Tile → List ℕ → Type 0
MatchesAcross ts q = (x : ℕ) → suc x < length q → matches ts One (slice_index q x) (slice_index q (suc x)) ≡ true

-- at column x of row q, the tile of p below it doesn't match
abbrev pub IsMismatch : List Tile → List ℕ → List ℕ → ℕ → Type 0
IsMismatch ts p q x = (x < length q) × (matches ts Two (slice_index p x) (slice_index q x) ≡ false)
