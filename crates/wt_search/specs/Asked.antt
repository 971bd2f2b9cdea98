-- What a search is asked for, and the step that it takes at a level.
use Rattle.std.specs.Prelude.{ℕ, ◌%◌, ◌≡◌, ◌⊎◌, Bool, Option, None, Some, List, length, slice_get, slice_index_or, Result, Ok, Err, MatchResult}
use Rattle.wt_grid.specs.declared.axis.Axis.{Axis}
use Rattle.wt_grid.specs.declared.axis.Axis.TheVariants.{One, Two}
use Rattle.wt_grid.specs.declared.axis.Side.{Side}
use Rattle.wt_tile.specs.declared.tile.Tile.{Tile}
use Rattle.wt_tile.specs.declared.tile.TileList.{TileList}
use Rattle.wt_step.specs.declared.raw.RawStep.{RawStep}
use Rattle.wt_window.specs.Surrounded.{surroundable}
use Rattle.wt_window.specs.Outcomes.{HasNoMatch, IsSpentPair}
use Rattle.wt_marker.specs.declared.end.DeriveEnd.{DeriveEnd}
use Rattle.wt_marker.specs.declared.end.DeriveEnd.TheVariants.{EmptySet, TooManyTiles, Repeated, Spent, TooManyNodes, OutOfMemory}
use Rattle.wt_marker.specs.Classes.{kept_on}
use Rattle.wt_marker.specs.Derived.{Plan, plan, derive_fault, derived}
use Rattle.wt_search.specs.declared.end.SearchEnd.{SearchEnd}
use Rattle.wt_search.specs.declared.end.SearchEnd.TheVariants as ends

-- The axes of the levels in turn, the side and radius of all steps, and the budget of each window and each tree.
pub record Asked : Type 0 where
  pub axes : List Axis
  pub side : Side
  pub radius : ℕ
  pub budget : ℕ

-- these four as one question
abbrev pub asked : List Axis → Side → ℕ → ℕ → Asked
asked axes side radius budget = record { axes = axes; side = side; radius = radius; budget = budget }

-- axes are taken in turn
abbrev pub turn_axis : List Axis → ℕ → Axis
turn_axis axes level = slice_index_or axes (level % length axes) One

-- the axis of a level
abbrev pub axis_at : Asked → ℕ → Axis
axis_at s level = turn_axis s.axes level

-- the dominoes of an axis
abbrev pub dominoes_of : Asked → TileList → Axis → ℕ → ℕ → Bool
dominoes_of s set axis = surroundable set.tiles axis s.radius

-- the kept classes of the level's axis
abbrev pub classes_at : Asked → ℕ → TileList → List (List ℕ)
classes_at s level set = kept_on (length set.tiles) (axis_at s level) (dominoes_of s set One) (dominoes_of s set Two)

-- what the step of a class is derived from
abbrev pub plan_at : Asked → ℕ → TileList → List ℕ → Plan
plan_at s level set class = plan set (axis_at s level) s.side s.radius class (dominoes_of s set One) (dominoes_of s set Two)

-- why no step is derived, told with the level
abbrev pub at_level : ℕ → DeriveEnd → SearchEnd
at_level level EmptySet = ends.EmptySet level
at_level level TooManyTiles = ends.TooManyTiles level
at_level level (Repeated first second) = ends.Repeated level
at_level level (Spent axis a b) = ends.Spent level axis a b
at_level level TooManyNodes = ends.TooManyNodes level
at_level level OutOfMemory = ends.OutOfMemory

-- the step, unless there is a reason against it
abbrev pub step_or_end : ℕ → RawStep → Option DeriveEnd → Result RawStep SearchEnd
step_or_end level step None = Ok step
step_or_end level step (Some e) = Err (at_level level e)

-- the step that is derived from a plan
abbrev pub planned_step : ℕ → ℕ → Plan → Result RawStep SearchEnd
planned_step level budget p = step_or_end level (derived p) (derive_fault p budget)

-- the step of the first class
abbrev pub first_step : Asked → ℕ → TileList → Option (List ℕ) → Result RawStep SearchEnd
first_step s level set None = Err (ends.NoMarker level)
first_step s level set (Some class) = planned_step level s.budget (plan_at s level set class)

-- The step that takes apart the set of a level, or why there is none.
unfoldable pub step_at : Asked → ℕ → TileList → Result RawStep SearchEnd
step_at s level set = first_step s level set (slice_get (classes_at s level set) 0)

-- Windows of axis 1 are asked first; so at budget 0 one of axis 2 is asked only where no two tiles match along axis 1.
abbrev pub IsAskedFor : List Tile → ℕ → Axis → Type 0
IsAskedFor ts budget One = Unit {0}
IsAskedFor ts budget Two = budget ≡ 0 → HasNoMatch ts One

-- At a level with this set the search of a window is given up: its trials are more than the budget, and at budget 0 it is the first that is asked.
abbrev pub IsSpent : List Tile → ℕ → ℕ → ℕ → SearchEnd → Type 0
IsSpent ts radius budget level e =
    (axis : Axis) × (a : ℕ) × (b : ℕ) × (e ≡ ends.Spent level axis a b) × IsSpentPair ts axis a b radius budget × IsAskedFor ts budget axis

-- no window is asked
abbrev pub HasNoMatches : List Tile → Type 0
HasNoMatches ts = HasNoMatch ts One × HasNoMatch ts Two

-- the answer is that a window of the level is spent, or that memory ran out
abbrev pub IsGivenUp : {A : Type 0} → List Tile → ℕ → ℕ → ℕ → Result A SearchEnd → Type 0
IsGivenUp ts radius budget level result = MatchResult result (λ _. ⊥) (λ e. (e ≡ ends.OutOfMemory) ⊎ IsSpent ts radius budget level e)

-- At budget 0 the search of a set with a pair that matches is given up at this level.
abbrev pub EndsAtZero : {A : Type 0} → List Tile → ℕ → ℕ → ℕ → Result A SearchEnd → Type 0
EndsAtZero ts radius budget level result = budget ≡ 0 → HasNoMatches ts ⊎ IsGivenUp ts radius budget level result

-- a call ends as it must, or because memory ran out
abbrev pub EndsAs : {A : Type 0} → Result A SearchEnd → SearchEnd → Type 0
EndsAs met e = (e ≡ ends.OutOfMemory) ⊎ (met ≡ Err e)

-- the table of an axis ends so: memory ran out, or a window is spent
abbrev pub MayEndTable : List Tile → Axis → ℕ → ℕ → ℕ → SearchEnd → Type 0
MayEndTable ts axis radius budget level e =
    (e ≡ ends.OutOfMemory) ⊎ ((a : ℕ) × (b : ℕ) × (e ≡ ends.Spent level axis a b) × IsSpentPair ts axis a b radius budget)

-- a level ends so: memory ran out, a window is spent, or else as its step must
abbrev pub MayEndLevel : Asked → ℕ → TileList → SearchEnd → Type 0
MayEndLevel s level set e =
    (e ≡ ends.OutOfMemory) ⊎ IsSpent set.tiles s.radius s.budget level e ⊎ (step_at s level set ≡ Err e)
