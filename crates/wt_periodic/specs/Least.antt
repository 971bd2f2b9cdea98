-- The least wrapping rectangle of the sizes up to a limit.
use Rattle.std.specs.Prelude.{◌≡◌, ◌⊎◌, ℕ, ◌*◌, ◌<◌, ◌≤◌, List, take, Option, Result, MatchOption, MatchResult}
use Rattle.wt_tile.specs.declared.tile.Tile.{Tile}
use Rattle.wt_grid.specs.Grid.{Grid}
use Rattle.wt_grid.specs.Order.{IsBefore}
use Rattle.wt_periodic.specs.Wraps.{IsWrapOf}
use Rattle.wt_periodic.specs.Wraps.{HasNoWrapOf}
use Rattle.wt_periodic.specs.Fillings.{wrap_trials}
use Rattle.wt_periodic.specs.declared.least.TheConstants.{MAX_CELLS}
use Rattle.wt_periodic.specs.declared.search.Size.{Size}
use Rattle.wt_periodic.specs.declared.least.WrapEnd.{WrapEnd}
use Rattle.wt_periodic.specs.declared.least.WrapEnd.TheVariants.{Spent, OutOfMemory}

-- a width and a height from 1 to the limit
pub record IsSize (limit w h : ℕ) : Type 0 where
  pub wide : 1 ≤ w
  pub high : 1 ≤ h
  pub low_width : w ≤ limit
  pub low_height : h ≤ limit

-- w by h comes before w' by h': it has fewer cells, or as many and a smaller width
abbrev pub IsEarlier : ℕ → ℕ → ℕ → ℕ → Type 0
IsEarlier w h w' h' = (w * h < w' * h') ⊎ ((w * h ≡ w' * h') × (w < w'))

-- no rectangle of a size before w by h wraps round
abbrev pub HasNoEarlier : List Tile → ℕ → ℕ → ℕ → Type 0
HasNoEarlier ts limit w h = (m n : ℕ) → IsSize limit m n → IsEarlier m n w h → HasNoWrapOf ts m n

-- no rectangle of a size up to the limit wraps round
abbrev pub HasNone : List Tile → ℕ → Type 0
HasNone ts limit = (w h : ℕ) → IsSize limit w h → HasNoWrapOf ts w h

-- g wraps round, and each other rectangle of its size that does comes behind it in reading order
pub record IsLeastOf (ts : List Tile) (w h : ℕ) (g : Grid) : Type 0 where
  pub wrap : IsWrapOf ts w h g
  pub least : (other : Grid) → IsWrapOf ts w h other → (g.cells ≡ other.cells) ⊎ IsBefore g.cells other.cells

-- the wrapping rectangle that is least in reading order, at the first size that has one
pub record IsLeastWrap (ts : List Tile) (limit : ℕ) (g : Grid) : Type 0 where
  pub size : IsSize limit g.width g.height
  pub first : HasNoEarlier ts limit g.width g.height
  pub least : IsLeastOf ts g.width g.height g

-- the rectangle of this size whose cells are the first of these, count in number
abbrev pub front_of : Size → ℕ → List ℕ → Grid
front_of size count cells = record { width = size.width; height = size.height; cells = take count cells }

-- the first of these cells are the wrapping rectangle that is least in reading order, at the first size that has one, which is this size
abbrev pub IsLeastFront : List Tile → ℕ → Size → List ℕ → Type 0
IsLeastFront ts limit size cells = (size.width * size.height ≤ MAX_CELLS) × IsLeastWrap ts limit (front_of size (size.width * size.height) cells)

-- the budget may be spent at w by h: the size has more trials, and no earlier size has a wrapping rectangle; at budget 0 it is 1 by 1
pub record IsSpentAt (ts : List Tile) (limit budget w h : ℕ) : Type 0 where
  pub size : IsSize limit w h
  pub first : HasNoEarlier ts limit w h
  pub over : budget < wrap_trials ts w h
  pub at_zero : budget ≡ 0 → (w ≡ 1) × (h ≡ 1)

-- a search of the sizes up to a limit may end so without an answer: the budget is spent at a size, or memory is wanting, but not at budget 0
abbrev pub MayEndAt : List Tile → ℕ → ℕ → WrapEnd → Type 0
MayEndAt ts limit budget end = ((end ≡ OutOfMemory) × (0 < budget)) ⊎ ((w : ℕ) × (h : ℕ) × (end ≡ Spent w h) × IsSpentAt ts limit budget w h)

-- What a search of the sizes up to a limit may answer: the least wrapping rectangle, or that there is none; or an end without an answer, as always at budget 0.
abbrev pub MayAnswerWrap : List Tile → ℕ → ℕ → Result (Option Grid) WrapEnd → Type 0
MayAnswerWrap ts limit budget answer = MatchResult answer
    (λ found. MatchOption found (HasNone ts limit) (IsLeastWrap ts limit) × (0 < budget))
    (MayEndAt ts limit budget)

-- the same of cells as many as this area
abbrev pub IsLeastFrontOf : List Tile → ℕ → ℕ → Size → List ℕ → Type 0
IsLeastFrontOf ts limit area size cells = IsLeastWrap ts limit (front_of size area cells) × (size.width * size.height ≡ area)

-- the rectangle of this size with these cells
abbrev pub sized : Size → List ℕ → Grid
sized size cells = record { width = size.width; height = size.height; cells = cells }

-- no size up to the limit has more trials than the budget
abbrev pub IsEnough : List Tile → ℕ → ℕ → Type 0
IsEnough ts limit budget = (m n : ℕ) → IsSize limit m n → wrap_trials ts m n ≤ budget
