-- What is made of a tile set and a width: all layers up to an empty one, or the least pattern.
use Rattle.std.specs.Prelude.{◌≡◌, ◌⊎◌, ℕ, zero, suc, ◌-◌, ◌<◌, ◌≤◌, List, [], length, slice_index_or}
use Rattle.wt_tile.specs.declared.tile.Tile.{Tile}
use Rattle.wt_grid.specs.Grid.{Grid}
use Rattle.wt_grid.specs.Order.{IsBefore}
use Rattle.wt_grid.specs.Shifts.{fill}
use Rattle.wt_pattern.specs.Patterns.{IsPattern}
use Rattle.wt_strip.specs.declared.limits.TheConstants.{MAX_ROWS}
use Rattle.wt_strip.specs.declared.layers.StripFault.{StripFault}
use Rattle.wt_strip.specs.declared.making.Stripped.{Stripped}
use Rattle.wt_strip.specs.declared.making.Stripped.TheVariants.{Empty, Filled}
use Rattle.wt_strip.specs.declared.making.StripEnd.{StripEnd}
use Rattle.wt_strip.specs.declared.making.StripEnd.TheVariants.{TooManyRows, OutOfMemory}
use Rattle.wt_strip.specs.Layers.{IsRow, IsUnder, IsInLayer}
use Rattle.wt_strip.specs.Listed.{rows_in, row_at, IsListed, IsSorted, IsLayer, HasMore}
use Rattle.wt_strip.specs.Exact.{IsExact, IsStripFault}
use Rattle.wt_strip.specs.Walks.{IsNotBehind}

-- the first layers of valid rows, none of them empty, that have no more rows in all than there may be
pub record AreFilled (ts : List Tile) (w : ℕ) (made : List (List ℕ)) : Type 0 where
  pub layers : (k : ℕ) → k < length made → IsLayer (IsInLayer ts w k) w (slice_index_or made k [])
  pub filled : (k : ℕ) → k < length made → 0 < rows_in w (slice_index_or made k [])
  pub few : fill (rows_in w) made ≤ MAX_ROWS

-- the layer of this number, counted from 1, is the first with which the rows of all layers so far are more than there may be
abbrev pub IsTooMany : List Tile → ℕ → ℕ → Type 0
IsTooMany ts w layer = (made : List (List ℕ)) × (layer ≡ suc (length made)) × AreFilled ts w made
    × HasMore (IsInLayer ts w (length made)) w (MAX_ROWS - fill (rows_in w) made)

-- a valid pattern of a width and a height, and each other one comes behind it in reading order
pub record IsLeastPattern (ts : List Tile) (w h : ℕ) (g : Grid) : Type 0 where
  pub valid : IsPattern ts g
  pub wide : g.width ≡ w
  pub high : g.height ≡ h
  pub least : (k : Grid) → IsPattern ts k → k.width ≡ w → k.height ≡ h → (g.cells ≡ k.cells) ⊎ IsBefore g.cells k.cells

-- what layers of width w up to n give: the exact ones, where one is empty; else the least pattern of as many rows
abbrev pub IsStripped : List Tile → ℕ → ℕ → Stripped → Type 0
IsStripped ts w limit (Empty l) = IsExact ts l × (l.width ≡ w) × (length l.layers ≤ limit)
IsStripped ts w limit (Filled g) = IsLeastPattern ts w limit g × ((made : List (List ℕ)) × (length made ≡ limit) × AreFilled ts w made)

-- why they give nothing: at the first layer with which the rows are too many
abbrev pub IsStripEnd : List Tile → ℕ → ℕ → StripEnd → Type 0
IsStripEnd ts w limit (TooManyRows layer) = (layer ≤ limit) × IsTooMany ts w layer
IsStripEnd ts w limit OutOfMemory = Unit {0}

-- layers that are given have no fault
abbrev pub HasNoFault : List Tile → Stripped → Type 0
HasNoFault ts (Empty l) = (f : StripFault) → IsStripFault ts l f → ⊥
HasNoFault ts (Filled g) = Unit {0}

-- upon row p n rows can be laid, one upon the other
abbrev pub CanRise : List Tile → ℕ → ℕ → List ℕ → Type 0
CanRise ts w zero p = Unit {0}
CanRise ts w (suc m) p = (q : List ℕ) × IsRow ts w q × IsUnder ts w p q × CanRise ts w m q

-- ascending rows upon which m rows can't be laid; each other row of a set has m rows upon it
pub record AreStuck (ts : List Tile) (w m : ℕ) (In : List ℕ → Type 0) (cells : List ℕ) : Type 0 where
  pub sorted : IsSorted w cells
  pub stuck : (r : ℕ) → r < rows_in w cells → CanRise ts w m (row_at w cells r) → ⊥
  pub others : (q : List ℕ) → In q → IsListed w cells q ⊎ CanRise ts w m q

-- the same of the layer below m others, of h layers
abbrev pub AreStuckUnder : List Tile → ℕ → ℕ → ℕ → List ℕ → Type 0
AreStuckUnder ts w h m cells = AreStuck ts w m (IsInLayer ts w (h - suc m)) cells

-- q can be row y where row p is the one below it; row 0 is any valid row
abbrev pub IsNextRow : List Tile → ℕ → ℕ → List ℕ → List ℕ → Type 0
IsNextRow ts w zero p q = IsRow ts w q
IsNextRow ts w (suc y) p q = IsRow ts w q × IsUnder ts w p q

-- for each of h layers, the rows that are stuck under m others, m from 0 on
abbrev pub AreAllStuck : List Tile → ℕ → ℕ → List (List ℕ) → Type 0
AreAllStuck ts w h stuck = (length stuck ≡ h) × ((m : ℕ) → m < h → AreStuckUnder ts w h m (slice_index_or stuck m []))

-- the row comes at latest with each next row that isn't listed
abbrev pub LeadsNext : List Tile → ℕ → ℕ → List ℕ → List ℕ → List ℕ → Type 0
LeadsNext ts w y p listed row = (q : List ℕ) → IsNextRow ts w y p q → (IsListed w listed q → ⊥) → IsNotBehind w row q

-- each next row is listed
abbrev pub ListsNext : List Tile → ℕ → ℕ → List ℕ → List ℕ → Type 0
ListsNext ts w y p listed = (q : List ℕ) → IsNextRow ts w y p q → IsListed w listed q
