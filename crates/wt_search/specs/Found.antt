-- The chain that a search finds, or why it finds none.
use Rattle.std.specs.Prelude.{ℕ, zero, suc, ◌+◌, ◌≡◌, ◌⊎◌, ◌<◌, ◌≤◌, Option, None, Some, option_map, List, [], ◌∷◌, ◌++◌, length, drop, nat_lt, if◌then◌else◌, Result, Ok, Err, IfOk, IfErr}
use Rattle.wt_chain.specs.Limits.{nodes_with}
use Rattle.wt_tile.specs.declared.tile.TileList.{TileList}
use Rattle.wt_tile.specs.Sets.{set_fault}
use Rattle.wt_grid.specs.First.{first_from}
use Rattle.wt_refute.specs.declared.tree.Refuted.{Refuted}
use Rattle.wt_refute.specs.Refutation.{node_count}
use Rattle.wt_refute.specs.View.{refutation}
use Rattle.wt_bijection.specs.Least.{least_renaming}
use Rattle.wt_step.specs.declared.raw.RawStep.{RawStep}
use Rattle.wt_step.specs.declared.raw.RawLink.{RawLink}
use Rattle.wt_step.specs.declared.raw.RawLink.TheVariants.{Marker}
use Rattle.wt_chain.specs.declared.raw.RawChain.{RawChain}
use Rattle.wt_chain.specs.declared.raw.End.TheVariants.{Loop}
use Rattle.wt_chain.specs.Versions.{version_of}
use Rattle.wt_chain.specs.Sets.{set_at, last_set, first_count}
use Rattle.wt_chain.specs.Faults.{least_expansion}
use Rattle.wt_search.specs.declared.end.SearchEnd.{SearchEnd}
use Rattle.wt_search.specs.declared.end.SearchEnd.TheVariants.{TooManyNodes, NotGrowing, Levels, OutOfMemory}
use Rattle.wt_search.specs.declared.limits.TheConstants.{MAX_LEVELS, MAX_NODES}
use Rattle.wt_search.specs.Asked.{Asked, step_at, IsSpent, EndsAtZero}

-- n nodes, where they are within the limit
abbrev pub limited : ℕ → Option ℕ
limited nodes = if nat_lt MAX_NODES nodes then None else Some nodes

-- An earlier level whose set the last set is equivalent to, with the least renaming.

-- a level, and the renaming of the last set onto its set
abbrev pub at_start : ℕ → List ℕ → ℕ × List ℕ
at_start level renaming = (level, renaming)

-- the level, where the last set is equivalent to its set
abbrev pub meets : Option TileList → ℕ → Option TileList → Option (ℕ × List ℕ)
meets None level earlier = None
meets (Some last) level None = None
meets (Some last) level (Some earlier) = option_map (at_start level) (least_renaming last.tiles earlier.tiles)

-- the same of the steps so far
abbrev pub meets_at : List RawLink → ℕ → Option (ℕ × List ℕ)
meets_at links level = meets (set_at links (length links)) level (set_at links level)

-- The first such level.
abbrev pub meeting : List RawLink → Option (ℕ × List ℕ)
meeting links = first_from (meets_at links) 0 (length links)

-- the chain closed there by this expansion, where there is one
abbrev pub closed_by : List RawLink → ℕ × List ℕ → Option ℕ → Result RawChain SearchEnd
closed_by links m None = Err (NotGrowing m.0)
closed_by links m (Some expansion) = Ok (record { version = version_of links; steps = links; end = Loop m.0 m.1 expansion })

-- The chain closed there by the least expansion, where images grow.
abbrev pub closed : List RawLink → ℕ × List ℕ → Result RawChain SearchEnd
closed links m = closed_by links m (least_expansion (drop m.0 links) m.1 (first_count (drop m.0 links)))

-- A search has come so far: it goes on with these steps, whose trees have n nodes, or it is over.
pub data Progress : Type 0 where
  going : List RawLink → ℕ → Progress
  over : Result RawChain SearchEnd → Progress

-- where a set comes again, the search is over
abbrev pub after_meeting : List RawLink → ℕ → Option (ℕ × List ℕ) → Progress
after_meeting links nodes None = going links nodes
after_meeting links nodes (Some m) = over (closed links m)

-- and where the trees have too many nodes
abbrev pub with_nodes : ℕ → List RawLink → Option ℕ → Progress
with_nodes level links None = over (Err (TooManyNodes level))
with_nodes level links (Some nodes) = after_meeting links nodes (meeting links)

-- with one step more
abbrev pub with_step : ℕ → List RawLink → ℕ → Result RawStep SearchEnd → Progress
with_step level links nodes (Err e) = over (Err e)
with_step level links nodes (Ok step) = with_nodes level (links ++ Marker step ∷ []) (limited (nodes_with nodes step.refuted))

-- one level on
abbrev pub next : Asked → TileList → ℕ → Progress → Progress
next s set level (going links nodes) = with_step level links nodes (step_at s level (last_set set links))
next s set level (over end) = over end

-- after n levels
abbrev pub progress : Asked → TileList → ℕ → Progress
progress s set zero = going [] 0
progress s set (suc level) = next s set level (progress s set level)

-- where a search still goes on, all levels are used up
abbrev pub outcome : Progress → Result RawChain SearchEnd
outcome (going links nodes) = Err Levels
outcome (over end) = end

-- The chain that is found within n levels, or why none is.
abbrev pub found : Asked → TileList → ℕ → Result RawChain SearchEnd
found s set levels = outcome (progress s set levels)

-- at the level that the search has come to, a window is spent
abbrev pub SpentAfter : Asked → TileList → ℕ → Progress → SearchEnd → Type 0
SpentAfter s set level (going links nodes) e = IsSpent (last_set set links).tiles s.radius s.budget level e
SpentAfter s set level (over end) e = ⊥

-- at one of the levels that are searched, a window is spent
abbrev pub IsSpentBelow : Asked → TileList → ℕ → SearchEnd → Type 0
IsSpentBelow s set levels e = (level : ℕ) × (level < levels) × SpentAfter s set level (progress s set level) e

-- A search may end so: out of memory; at a spent window; else as is said above.
abbrev pub MayEnd : Asked → TileList → ℕ → SearchEnd → Type 0
MayEnd s set levels e = (e ≡ OutOfMemory) ⊎ IsSpentBelow s set levels e ⊎ (found s set levels ≡ Err e)

-- What a search may answer.
pub record MayAnswerSearch (s : Asked) (set : TileList) (levels : ℕ) (result : Result RawChain SearchEnd) : Type 0 where
  pub found : IfOk result (λ c. found s set levels ≡ Ok c)
  pub ended : IfErr result (MayEnd s set levels)
  -- at budget 0 the first window that is asked is spent
  pub at_zero : EndsAtZero set.tiles s.radius s.budget 0 result

-- the steps of a chain, or none
abbrev pub links_of : Option (List RawLink) → List RawLink
links_of None = []
links_of (Some links) = links

-- one level on, a search may end so: memory ran out, a window is spent, or else as it must
abbrev pub MayEndNext : Asked → TileList → ℕ → List RawLink → ℕ → SearchEnd → Type 0
MayEndNext s set level links nodes e =
    (e ≡ OutOfMemory) ⊎ IsSpent (last_set set links).tiles s.radius s.budget level e ⊎ (next s set level (going links nodes) ≡ over (Err e))

-- a chain that a search finds for a tile set, at a radius and within levels that may be asked
pub record IsFound (s : Asked) (set : TileList) (levels : ℕ) (c : RawChain) : Type 0 where
  pub radius : s.radius ≤ 4
  pub few : levels ≤ MAX_LEVELS
  pub good : set_fault set ≡ None
  pub found : found s set levels ≡ Ok c
