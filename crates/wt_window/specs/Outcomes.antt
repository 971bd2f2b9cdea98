-- What searches of windows may answer.
use Rattle.std.specs.Prelude.{◌≡◌, ◌⊎◌, ℕ, ◌<◌, true, List, length, Option, Result, MatchOption, MatchResult}
use Rattle.wt_grid.specs.declared.axis.Axis.{Axis}
use Rattle.wt_tile.specs.declared.tile.Tile.{Tile}
use Rattle.wt_tile.specs.Matching.{matches}
use Rattle.wt_grid.specs.Grid.{Grid}
use Rattle.wt_pattern.specs.Windows.{IsEmptyWindow}
use Rattle.wt_window.specs.declared.window.WindowEnd.{WindowEnd}
use Rattle.wt_window.specs.declared.window.WindowEnd.TheVariants as window_end
use Rattle.wt_window.specs.declared.domino_table.TableEnd.{TableEnd}
use Rattle.wt_window.specs.declared.domino_table.TableEnd.TheVariants as table_end
use Rattle.wt_window.specs.Trials.{trials, window}
use Rattle.wt_window.specs.Surrounded.{IsLeastWindow, IsFirstMatch, Tells, allowed}

-- no tile may stand next to another along the axis
abbrev pub HasNoMatch : List Tile → Axis → Type 0
HasNoMatch ts axis = (a b : ℕ) → a < length ts → b < length ts → matches ts axis a b ≡ true → ⊥

-- What a search of the window of a and b with a budget may answer: the least window, or that there is none; and of tiles that match, that the budget is spent, or that memory is wanting. At budget 0 it is spent for all tiles that match; for tiles that don't there is none, whatever the budget.
abbrev pub MayAnswerWindow : List Tile → Axis → ℕ → ℕ → ℕ → ℕ → Result (Option Grid) WindowEnd → Type 0
MayAnswerWindow ts axis a b r budget answer = MatchResult answer
    (λ found. MatchOption found (IsEmptyWindow ts axis a b r) (IsLeastWindow ts axis a b r) × (matches ts axis a b ≡ true → 0 < budget))
    (λ end. (matches ts axis a b ≡ true) × (((end ≡ window_end.OutOfMemory) × (0 < budget)) ⊎ ((end ≡ window_end.Spent) × (budget < trials ts (window axis a b r)))))

-- The table of an axis may be given up at the pair a, b: the two match, and their window has more trials than the budget. At budget 0 it is the first pair that matches.
pub record IsSpentPair (ts : List Tile) (axis : Axis) (a b r budget : ℕ) : Type 0 where
  pub first : a < length ts
  pub second : b < length ts
  pub fits : matches ts axis a b ≡ true
  pub over : budget < trials ts (window axis a b r)
  pub at_zero : budget ≡ 0 → IsFirstMatch ts axis a b

-- What a search of the windows of all pairs of an axis, each with a budget, may answer: the table of exactly the pairs that have a window; or a pair at which the budget is spent; or that memory is wanting. At budget 0 there is a table only where no pair matches.
abbrev pub MayAnswerTable : List Tile → Axis → ℕ → ℕ → Result (List (List ℕ)) TableEnd → Type 0
MayAnswerTable ts axis r budget answer = MatchResult answer
    (λ rows. Tells ts axis r (allowed rows) × (budget ≡ 0 → HasNoMatch ts axis))
    (λ end. (end ≡ table_end.OutOfMemory) ⊎ ((a : ℕ) × (b : ℕ) × (end ≡ table_end.Spent a b) × IsSpentPair ts axis a b r budget))
