-- Budgets that are enough.
use Rattle.std.specs.Prelude.{ℕ, ◌≡◌, ◌<◌, ◌≤◌, true, List, [], length}
use Rattle.wt_grid.specs.declared.axis.Axis.{Axis}
use Rattle.wt_tile.specs.declared.tile.Tile.{Tile}
use Rattle.wt_tile.specs.declared.tile.TileList.{TileList}
use Rattle.wt_tile.specs.Matching.{matches}
use Rattle.wt_pattern.specs.Windows.{IsEmptyWindow}
use Rattle.wt_refute.specs.Refutation.{node_count}
use Rattle.wt_refute.specs.Standard.{standard_tree}
use Rattle.wt_chain.specs.Sets.{last_set}
use Rattle.wt_window.specs.Trials.{trials, window}
use Rattle.wt_search.specs.declared.end.SearchEnd.{SearchEnd}
use Rattle.wt_search.specs.declared.end.SearchEnd.TheVariants as ends
use Rattle.wt_search.specs.Asked.{Asked}
use Rattle.wt_search.specs.Found.{Progress, going, over, progress}

-- No window of two tiles that match has more trials than the budget, and where it is empty, the standard tree has no more nodes.
pub record HasEnough (ts : List Tile) (radius budget : ℕ) : Type 0 where
  pub windows : (axis : Axis) (a b : ℕ) → a < length ts → b < length ts → matches ts axis a b ≡ true → trials ts (window axis a b radius) ≤ budget
  pub trees : (axis : Axis) (a b : ℕ) → a < length ts → b < length ts → matches ts axis a b ≡ true → IsEmptyWindow ts axis a b radius
      → node_count (standard_tree ts axis a b radius []) ≤ budget

-- the budget is enough for the set that the search has come to
abbrev pub HasEnoughAfter : Asked → TileList → Progress → Type 0
HasEnoughAfter s set (going links nodes) = HasEnough (last_set set links).tiles s.radius s.budget
HasEnoughAfter s set (over end) = Unit {0}

-- the budget is enough at each level that is searched
abbrev pub IsEnough : Asked → TileList → ℕ → Type 0
IsEnough s set levels = (level : ℕ) → level < levels → HasEnoughAfter s set (progress s set level)

-- the end is another than a spent window or tree
abbrev pub IsNotSpent : SearchEnd → Type 0
IsNotSpent e = (level : ℕ) (axis : Axis) (a b : ℕ) → e ≡ ends.Spent level axis a b → ⊥
