-- Scaffolding: rows that are filled column by column, with the tiles that each column allows.
use Rattle.std.specs.Prelude.{◌≡◌, ◌⊎◌, ℕ, suc, ◌+◌, ◌<◌, ◌≤◌, List, length, slice_index, nat_eq, Bool, true}
use Rattle.wt_tile.specs.declared.tile.Tile.{Tile}
use Rattle.wt_grid.specs.declared.axis.Axis.TheVariants.{One, Two}
use Rattle.wt_tile.specs.Matching.{matches}
use Rattle.wt_lane.specs.Masks.{mask_bit}
use Rattle.wt_mask.specs.Masks.{mask_at}
use Rattle.wt_strip.specs.Layers.{IsRow, IsUnder}
use Rattle.wt_strip.specs.Listed.{IsUpon, IsListed}

-- the mask of a column allows tile t
abbrev pub column_allows : List ℕ → ℕ → Bool
column_allows column t = nat_eq (mask_bit column t) 1

-- column x allows tile t
abbrev pub is_allowed : List (List ℕ) → ℕ → ℕ → Bool
is_allowed allowed x t = column_allows (mask_at allowed x) t

-- the first n cells are tiles that match from left to right, each allowed in its column
pub record IsWay (ts : List Tile) (allowed : List (List ℕ)) (n : ℕ) (q : List ℕ) : Type 0 where
  pub long : n ≤ length q
  pub tiles : (x : ℕ) → x < n → slice_index q x < length ts
  pub across : (x : ℕ) → suc x < n → matches ts One (slice_index q x) (slice_index q (suc x)) ≡ true
  pub stands : (x : ℕ) → x < n → is_allowed allowed x (slice_index q x) ≡ true

-- tile t may come behind the first x cells of a row: a tile that its column allows and the one before matches
abbrev pub MayCome : List Tile → List (List ℕ) → List ℕ → ℕ → ℕ → Type 0
MayCome ts allowed row x t = (t < length ts) × (is_allowed allowed x t ≡ true) × ((k : ℕ) → x ≡ suc k → matches ts One (slice_index row k) t ≡ true)

-- columns that allow fewer tiles, and yet each way
pub record IsPruned (ts : List Tile) (allowed : List (List ℕ)) (w : ℕ) (left : List (List ℕ)) : Type 0 where
  pub fewer : (x t : ℕ) → is_allowed left x t ≡ true → is_allowed allowed x t ≡ true
  pub kept : (q : List ℕ) → IsWay ts allowed w q → IsWay ts left w q

-- two rows agree in the first n columns
abbrev pub AreAlike : ℕ → List ℕ → List ℕ → Type 0
AreAlike n p q = (x : ℕ) → x < n → slice_index p x ≡ slice_index q x

-- p comes at latest with q: they agree in w columns, or p has the lower tile where they first differ
abbrev pub IsNotBehind : ℕ → List ℕ → List ℕ → Type 0
IsNotBehind w p q = AreAlike w p q ⊎ ((x : ℕ) × (x < w) × AreAlike x p q × (slice_index p x < slice_index q x))

-- upon the first n tiles of row p a valid row of n tiles can be laid
abbrev pub CanBear : List Tile → ℕ → List ℕ → Type 0
CanBear ts n p = (q : List ℕ) × IsRow ts n q × IsUnder ts n p q

-- tile u may stand behind a tile of the mask of a column
abbrev pub StandsBehind : List Tile → List ℕ → ℕ → Type 0
StandsBehind ts column u = (t : ℕ) × (mask_bit column t ≡ 1) × (u < length ts) × (matches ts One t u ≡ true)

-- the same tiles may stand above the first n tiles of p and of q, column by column
abbrev pub ShowAlike : List Tile → ℕ → List ℕ → List ℕ → Type 0
ShowAlike ts n p q = (x t : ℕ) → x < n → matches ts Two (slice_index p x) t ≡ matches ts Two (slice_index q x) t

-- each valid row upon a row of the first list lies upon one of the second too
abbrev pub BearNoOther : List Tile → ℕ → List ℕ → List ℕ → Type 0
BearNoOther ts w cells more = (q : List ℕ) → IsUpon ts w 1 cells q → IsUpon ts w 1 more q

-- a row of w cells that their columns allow
abbrev pub IsWholeWay : List Tile → List (List ℕ) → ℕ → List ℕ → Type 0
IsWholeWay ts allowed w q = (length q ≡ w) × IsWay ts allowed w q

-- each of the first columns allows exactly the tiles that may stand above row p
abbrev pub AllowsAbove : List Tile → List ℕ → List (List ℕ) → Type 0
AllowsAbove ts p allowed =
    (x t : ℕ) → x < length p → t < length ts → is_allowed allowed x t ≡ matches ts Two (slice_index p x) t

-- the column allows each tile that may stand to the left of one that the next column allows
abbrev pub AllowsBefore : List Tile → List ℕ → List ℕ → Type 0
AllowsBefore ts next column =
    (t u : ℕ) → t < length ts → column_allows next u ≡ true → matches ts One t u ≡ true → column_allows column t ≡ true

-- the new column allows those of them that the old one does
abbrev pub KeepsBefore : List Tile → List ℕ → List ℕ → List ℕ → Type 0
KeepsBefore ts old next new =
    (t u : ℕ) → t < length ts → column_allows old t ≡ true → column_allows next u ≡ true → matches ts One t u ≡ true → column_allows new t ≡ true

-- no valid row can be laid upon the tiles of p up to column x
abbrev pub IsBlockedAt : List Tile → List ℕ → ℕ → Type 0
IsBlockedAt ts p x = (x < length p) × (CanBear ts (x + 1) p → ⊥)

-- a row that the columns allow isn't listed
abbrev pub MissesWay : List Tile → List (List ℕ) → ℕ → List ℕ → Type 0
MissesWay ts allowed w cells = (q : List ℕ) × (length q ≡ w) × IsWay ts allowed w q × (IsListed w cells q → ⊥)

-- each row that the columns allow is listed
abbrev pub ListsWays : List Tile → List (List ℕ) → ℕ → List ℕ → Type 0
ListsWays ts allowed w cells = (q : List ℕ) → length q ≡ w → IsWay ts allowed w q → IsListed w cells q

-- the row comes at latest with each of them that isn't listed
abbrev pub LeadsMissing : List Tile → List (List ℕ) → ℕ → List ℕ → List ℕ → Type 0
LeadsMissing ts allowed w cells row =
    (q : List ℕ) → length q ≡ w → IsWay ts allowed w q → (IsListed w cells q → ⊥) → IsNotBehind w row q

-- the same of those that agree with a row in the first x columns
abbrev pub ListsWaysAlike : List Tile → List (List ℕ) → ℕ → ℕ → List ℕ → List ℕ → Type 0
ListsWaysAlike ts allowed w x start cells =
    (q : List ℕ) → length q ≡ w → IsWay ts allowed w q → AreAlike x q start → IsListed w cells q

-- the row comes at latest with each of these that isn't listed
abbrev pub LeadsMissingAlike : List Tile → List (List ℕ) → ℕ → ℕ → List ℕ → List ℕ → List ℕ → Type 0
LeadsMissingAlike ts allowed w x start cells row =
    (q : List ℕ) → length q ≡ w → IsWay ts allowed w q → AreAlike x q start → (IsListed w cells q → ⊥) → IsNotBehind w row q
