-- The least renaming of one tile set onto another.
use Rattle.std.specs.Prelude.{ℕ, zero, suc, ◌≡◌, ◌⊎◌, List, [], ◌∷◌, ◌++◌, length, Option, None, Some, is_none, if◌then◌else◌}
use Rattle.wt_tile.specs.declared.tile.Tile.{Tile}
use Rattle.wt_grid.specs.First.{first_from}
use Rattle.wt_grid.specs.Order.{IsBefore}
use Rattle.wt_bijection.specs.Renaming.{renaming_fault}
use Rattle.wt_bijection.specs.Carried.{IsRenaming}

-- a renaming, and each other one comes behind it
pub record IsLeastRenaming (from to : List Tile) (list : List ℕ) : Type 0 where
  pub renames : IsRenaming from to list
  pub least : (other : List ℕ) → IsRenaming from to other → (list ≡ other) ⊎ IsBefore list other

-- the same with one number more behind the list
abbrev pub with_next : (List ℕ → Option (List ℕ)) → List ℕ → ℕ → Option (List ℕ)
with_next rest list t = rest (list ++ t ∷ [])

-- the first renaming among the lists that begin so and have n numbers more, as lists of numbers are ordered
abbrev pub least_behind : List Tile → List Tile → ℕ → List ℕ → Option (List ℕ)
least_behind from to zero list = if is_none (renaming_fault from to list) then Some list else None
least_behind from to (suc n) list = first_from (with_next (least_behind from to n) list) 0 (length to)

-- the least renaming, where there is one
abbrev pub least_renaming : List Tile → List Tile → Option (List ℕ)
least_renaming from to = least_behind from to (length from) []
