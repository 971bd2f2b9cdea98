-- What is said of trees that were built.
use Rattle.std.specs.Prelude.{ℕ, ◌+◌, ◌≡◌, List, None}
use Rattle.wt_grid.specs.declared.axis.Axis.{Axis}
use Rattle.wt_tile.specs.declared.tile.Tile.{Tile}
use Rattle.wt_pattern.specs.Windows.{IsEmptyWindow}
use Rattle.wt_refute.specs.declared.tree.Refuted.{Refuted}
use Rattle.wt_refute.specs.declared.tree.Tree.{Tree}
use Rattle.wt_refute.specs.Refutation.{Refutation, node_count}
use Rattle.wt_refute.specs.View.{refutation}
use Rattle.wt_refute.specs.Refutes.{tree_fault}
use Rattle.wt_refute.specs.Standard.{standard_tree}

-- how many nodes the standard tree has
abbrev pub standard_nodes : List Tile → Axis → ℕ → ℕ → ℕ → List Refuted → ℕ
standard_nodes ts axis a b radius known = node_count (standard_tree ts axis a b radius known)

-- if the window of the two tiles is empty, this tree refutes them
abbrev pub RefutesEmpty : List Tile → Axis → ℕ → ℕ → ℕ → List Refuted → Tree → Type 0
RefutesEmpty ts axis a b radius known tree = IsEmptyWindow ts axis a b radius → tree_fault ts axis a b radius known tree ≡ None

-- a tree that is the one wanted, and what its nodes leave of the budget
abbrev pub IsGrown : Refutation → ℕ → Tree × ℕ → Type 0
IsGrown wanted budget grown = (refutation grown.0 ≡ wanted) × (grown.1 + node_count wanted ≡ budget)
