-- Lists of rows, kept one row after the other.
use Rattle.std.specs.Prelude.{◌≡◌, ℕ, zero, suc, ◌+◌, ◌*◌, ◌/◌, ◌<◌, List, length, slice_range, Bool, true, Option, MatchOption, Vec}
use Rattle.std.specs.declared.alloc.Global.{Global}
use Rattle.std.specs.Ordering.{nat_cmp, is_lt}
use Rattle.std.specs.Cmp.Lexicographic.{slice_cmp}
use Rattle.wt_tile.specs.declared.tile.Tile.{Tile}
use Rattle.wt_strip.specs.Layers.{IsRow, IsUnder}

-- how many rows of width w the cells are
abbrev pub rows_in : ℕ → List ℕ → ℕ
rows_in w cells = length cells / w

-- row r of them
abbrev pub row_at : ℕ → List ℕ → ℕ → List ℕ
row_at w cells r = slice_range cells (r * w) (r * w + w)

-- p comes before q in the order of lists: by the first number in which they differ
abbrev pub is_before : List ℕ → List ℕ → Bool
is_before p q = is_lt (slice_cmp nat_cmp p q)

-- of the first n rows each comes before the next
abbrev pub IsAscending : ℕ → List ℕ → ℕ → Type 0
IsAscending w cells n = (r : ℕ) → suc r < n → is_before (row_at w cells r) (row_at w cells (suc r)) ≡ true

-- q is one of the rows
abbrev pub IsListed : ℕ → List ℕ → List ℕ → Type 0
IsListed w cells q = (r : ℕ) × (r < rows_in w cells) × (row_at w cells r ≡ q)

-- the cells are the rows of a set of rows, strictly ascending
pub record IsListOf (In : List ℕ → Type 0) (w : ℕ) (cells : List ℕ) : Type 0 where
  pub ascending : IsAscending w cells (rows_in w cells)
  pub right : (r : ℕ) → r < rows_in w cells → In (row_at w cells r)
  pub whole : (q : List ℕ) → In q → IsListed w cells q

-- whole rows, strictly ascending
pub record IsSorted (w : ℕ) (cells : List ℕ) : Type 0 where
  pub whole : length cells ≡ rows_in w cells * w
  pub ascending : IsAscending w cells (rows_in w cells)

-- the cells are a set of rows, as whole rows in ascending order
pub record IsLayer (In : List ℕ → Type 0) (w : ℕ) (cells : List ℕ) : Type 0 where
  pub sorted : IsSorted w cells
  pub lists : IsListOf In w cells

-- a set has more than n rows of width w
abbrev pub HasMore : (List ℕ → Type 0) → ℕ → ℕ → Type 0
HasMore In w room = (cells : List ℕ) × IsSorted w cells × ((r : ℕ) → r < rows_in w cells → In (row_at w cells r)) × (room < rows_in w cells)

-- the valid rows upon listed rows; upon no layer, all valid rows
abbrev pub IsUpon : List Tile → ℕ → ℕ → List ℕ → List ℕ → Type 0
IsUpon ts w zero below q = IsRow ts w q
IsUpon ts w (suc n) below q = IsRow ts w q × ((r : ℕ) × (r < rows_in w below) × IsUnder ts w (row_at w below r) q)

-- q is row r
abbrev pub IsRowAt : ℕ → List ℕ → List ℕ → ℕ → Type 0
IsRowAt w cells q r = (r < rows_in w cells) × (row_at w cells r ≡ q)

-- each row is in the set
abbrev pub AllRows : (List ℕ → Type 0) → ℕ → List ℕ → Type 0
AllRows In w cells = (r : ℕ) → r < rows_in w cells → In (row_at w cells r)

-- q can't be laid upon any of the rows
abbrev pub NoneUnder : List Tile → ℕ → List ℕ → List ℕ → Type 0
NoneUnder ts w below q = (r : ℕ) → r < rows_in w below → IsUnder ts w (row_at w below r) q → ⊥

-- what is found are the rows of a set, or None where they are more than there is room for
abbrev pub IsLayerOrMore : (List ℕ → Type 0) → ℕ → ℕ → Option (Vec ℕ Global) → Type 0
IsLayerOrMore In w room found = MatchOption found (HasMore In w room) (λ cells. IsLayer In w cells.items)
