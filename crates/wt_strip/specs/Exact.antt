-- Exact layers, and the first fault of others.
use Rattle.std.specs.Prelude.{◌≡◌, ◌⊎◌, ℕ, suc, ◌+◌, ◌%◌, ◌<◌, ◌≤◌, Result, MatchResult, List, [], ◌∷◌, length, slice_index_or, Bool, true, false, ◌&&◌, nat_eq, nat_le, if◌then◌else◌}
use Rattle.wt_tile.specs.declared.tile.Tile.{Tile}
use Rattle.std.specs.List.{list_all}
use Rattle.wt_grid.specs.Grid.{Grid}
use Rattle.wt_grid.specs.Order.{is_below}
use Rattle.wt_grid.specs.Shifts.{fill}
use Rattle.wt_pattern.specs.Patterns.{IsPattern}
use Rattle.wt_strip.specs.declared.layers.Layers.{Layers}
use Rattle.wt_strip.specs.declared.limits.TheConstants.{MAX_COLUMNS, MAX_LAYERS, MAX_ROWS}
use Rattle.wt_strip.specs.declared.layers.StripFault.{StripFault}
use Rattle.wt_strip.specs.declared.layers.StripFault.TheVariants.{Shape, Order, Row, Missing}
use Rattle.wt_strip.specs.Layers.{IsInLayer}
use Rattle.wt_strip.specs.Listed.{rows_in, row_at, is_before, IsAscending, IsListed, IsListOf}

-- whole rows of tiles, of n there are
abbrev pub are_rows : ℕ → ℕ → List ℕ → Bool
are_rows n w cells = nat_eq (length cells % w) 0 && list_all (is_below n) cells

-- the last layer is empty, and no other
abbrev pub ends_empty : List (List ℕ) → Bool
ends_empty [] = false
ends_empty (l ∷ ls) = if nat_eq (length l) 0 then nat_eq (length ls) 0 else ends_empty ls

-- layers within the limits, of whole rows of tiles, of which the last is the only empty one; n tiles there are
abbrev pub is_shaped : ℕ → Layers → Bool
is_shaped n l =
    nat_le 1 l.width && nat_le l.width MAX_COLUMNS && nat_le 1 (length l.layers) && nat_le (length l.layers) MAX_LAYERS
    && list_all (are_rows n l.width) l.layers && nat_le (fill (rows_in l.width) l.layers) MAX_ROWS && ends_empty l.layers

-- layer n, counted from 0
abbrev pub layer_at : Layers → ℕ → List ℕ
layer_at l n = slice_index_or l.layers n []

-- the first n layers are the layers of valid rows
abbrev pub AreExact : List Tile → Layers → ℕ → Type 0
AreExact ts l n = (k : ℕ) → k < n → IsListOf (IsInLayer ts l.width k) l.width (layer_at l k)

-- exact layers: the layers of valid rows up to the first empty one
pub record IsExact (ts : List Tile) (l : Layers) : Type 0 where
  pub shape : is_shaped (length ts) l ≡ true
  pub layers : AreExact ts l (length l.layers)

-- row r is the first that isn't greater than the one before it
abbrev pub IsDrop : ℕ → List ℕ → ℕ → Type 0
IsDrop w cells r = (k : ℕ) × (r ≡ suc k) × (r < rows_in w cells) × IsAscending w cells r × (is_before (row_at w cells k) (row_at w cells r) ≡ false)

-- row r is the first that isn't in the set
abbrev pub IsStranger : (List ℕ → Type 0) → ℕ → List ℕ → ℕ → Type 0
IsStranger In w cells r = (r < rows_in w cells) × ((k : ℕ) → k < r → In (row_at w cells k)) × (In (row_at w cells r) → ⊥)

-- a row of the set isn't listed
abbrev pub HasMissing : (List ℕ → Type 0) → ℕ → List ℕ → Type 0
HasMissing In w cells = (q : List ℕ) × In q × (IsListed w cells q → ⊥)

-- the first fault of a layer that should list a set: the order, then the rows, then missing rows
abbrev pub IsLayerFault : (List ℕ → Type 0) → ℕ → List ℕ → ℕ → StripFault → Type 0
IsLayerFault In w cells layer Shape = ⊥
IsLayerFault In w cells layer (Order k r) = (k ≡ layer) × IsDrop w cells r
IsLayerFault In w cells layer (Row k r) = (k ≡ layer) × IsAscending w cells (rows_in w cells) × IsStranger In w cells r
IsLayerFault In w cells layer (Missing k) = (k ≡ layer) × IsAscending w cells (rows_in w cells)
    × ((r : ℕ) → r < rows_in w cells → In (row_at w cells r)) × HasMissing In w cells

-- the first fault of layers: their shape, else that of the first layer that isn't exact; faults count layers from 1
abbrev pub IsStripFault : List Tile → Layers → StripFault → Type 0
IsStripFault ts l f =
    ((f ≡ Shape) × (is_shaped (length ts) l ≡ false))
    ⊎ ((is_shaped (length ts) l ≡ true)
    × ((n : ℕ) × (n < length l.layers) × AreExact ts l n × IsLayerFault (IsInLayer ts l.width n) l.width (layer_at l n) (n + 1) f))

-- whether a layer lists a set of rows is told: that it does, or its first fault
abbrev pub TellsLayer : (List ℕ → Type 0) → ℕ → List ℕ → ℕ → Result (Unit {0}) StripFault → Type 0
TellsLayer In w cells layer result = MatchResult result (λ u. IsListOf In w cells) (IsLayerFault In w cells layer)

-- no valid pattern has at least the width and height of the layers
abbrev pub Forbids : List Tile → Layers → Type 0
Forbids ts l = (g : Grid) → IsPattern ts g → l.width ≤ g.width → length l.layers ≤ g.height → ⊥

-- there is a valid pattern of this width and height
abbrev pub HasPattern : List Tile → ℕ → ℕ → Type 0
HasPattern ts w h = (g : Grid) × IsPattern ts g × (g.width ≡ w) × (g.height ≡ h)
