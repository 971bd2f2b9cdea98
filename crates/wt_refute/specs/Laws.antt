-- What laws on trees say of entries, and of tiles in patterns.
use Rattle.std.specs.Prelude.{◌≡◌, ℕ, ◌<◌, true, List, [], length, Option, None, Some, slice_get}
use Rattle.wt_tile.specs.declared.tile.Tile.{Tile}
use Rattle.wt_tile.specs.Matching.{matches}
use Rattle.wt_grid.specs.Grid.{Grid, cell}
use Rattle.wt_pattern.specs.Windows.{IsEmptyWindow}
use Rattle.wt_refute.specs.declared.tree.Refuted.{Refuted}
use Rattle.wt_refute.specs.declared.tree.Tree.{Tree}
use Rattle.wt_refute.specs.View.{refutation}
use Rattle.wt_refute.specs.Placed.{window_of, tile_window}
use Rattle.wt_refute.specs.Standard.{standard_tree}
use Rattle.wt_refute.specs.Refutes.{Refutes, tree_fault}

-- the first wrong node of an entry's tree, with these known entries
abbrev pub entry_fault : List Tile → List Refuted → Refuted → Option ℕ
entry_fault ts known k = tree_fault ts k.axis k.a k.b k.radius known k.tree

-- the entry's tree refutes the window of its two tiles
abbrev pub RefutesEntry : List Tile → List Refuted → Refuted → Type 0
RefutesEntry ts known k = Refutes ts k.radius known (window_of k.axis k.a k.b k.radius) (refutation k.tree)

-- the tree refutes the square window of a tile
abbrev pub RefutesTile : List Tile → ℕ → ℕ → Tree → Type 0
RefutesTile ts tile radius tree = Refutes ts radius [] (tile_window tile radius) (refutation tree)

-- the window of the entry is empty
abbrev pub IsEmptyEntry : List Tile → Refuted → Type 0
IsEmptyEntry ts k = IsEmptyWindow ts k.axis k.a k.b k.radius

-- each tree of the list is right, with the whole list known
abbrev pub AreRefuted : List Tile → List Refuted → Type 0
AreRefuted ts known = (i : ℕ) (k : Refuted) → slice_get known i ≡ Some k → entry_fault ts known k ≡ None

-- each window of the list is empty
abbrev pub AreEmpty : List Tile → List Refuted → Type 0
AreEmpty ts known = (i : ℕ) (k : Refuted) → slice_get known i ≡ Some k → IsEmptyEntry ts k

-- two tiles that match, whose window is empty, and their standard tree
pub record IsStandardEntry (ts : List Tile) (known : List Refuted) (k : Refuted) : Type 0 where
  pub first : k.a < length ts
  pub second : k.b < length ts
  pub fits : matches ts k.axis k.a k.b ≡ true
  pub empty : IsEmptyEntry ts k
  pub standard : refutation k.tree ≡ standard_tree ts k.axis k.a k.b k.radius known

-- the tile stands at no cell
abbrev pub IsAbsent : ℕ → Grid → Type 0
IsAbsent tile g = (x y : ℕ) → x < g.width → y < g.height → cell g x y ≡ tile → ⊥
