-- The first failing condition of a chain.
use Rattle.std.specs.Prelude.{ℕ, ◌+◌, List, [], ◌∷◌, length, drop, Option, None, Some, ◌≢◌, Bool, ◌&&◌, option_map, is_none, nat_lt, if◌then◌else◌}
use Rattle.wt_grid.specs.Unless.{unless}
use Rattle.wt_tile.specs.declared.tile.TileList.{TileList}
use Rattle.wt_grid.specs.First.{or_else, first_from}
use Rattle.wt_bijection.specs.Renaming.{renaming_fault}
use Rattle.wt_step.specs.declared.raw.RawLink.{RawLink}
use Rattle.wt_step.specs.Links.{link_fault, fine_of, coarse_of}
use Rattle.wt_chain.specs.declared.raw.RawChain.{RawChain}
use Rattle.wt_chain.specs.declared.raw.End.{End}
use Rattle.wt_chain.specs.declared.raw.End.TheVariants.{Open, Loop}
use Rattle.wt_chain.specs.declared.raw.Refusal.{Refusal}
use Rattle.wt_chain.specs.declared.raw.Refusal.TheVariants.{Empty, TooManySteps, Version, Step, NotNext, Start, Renaming, Expansion}
use Rattle.wt_chain.specs.Versions.{version_fits}
use Rattle.wt_chain.specs.Sets.{comes_next, last_set, first_count}
use Rattle.wt_chain.specs.Growth.{has_grown}
use Rattle.wt_chain.specs.Tables.{entry}

-- 1 to 32 steps, in a version that has them
abbrev pub size_fault : RawChain → Option Refusal
size_fault c =
    or_else (unless (nat_lt 0 (length c.steps)) Empty)
    (or_else (unless (nat_lt (length c.steps) 33) TooManySteps)
    (unless (version_fits c.version c.steps) Version))

-- step k is good, and takes apart the set before it
abbrev pub step_fault_at : ℕ → Option TileList → RawLink → Option Refusal
step_fault_at k before link = or_else (option_map (Step k) (link_fault link)) (unless (comes_next before link) (NotNext k))

-- the first fault of the steps from number k on, behind a set
abbrev pub steps_fault_from : ℕ → Option TileList → List RawLink → Option Refusal
steps_fault_from k before [] = None
steps_fault_from k before (link ∷ links) = or_else (step_fault_at k before link) (steps_fault_from (k + 1) (Some (coarse_of link)) links)

-- the first fault of the steps of a chain
abbrev pub steps_fault : List RawLink → Option Refusal
steps_fault links = steps_fault_from 0 None links

-- the image of tile t isn't two wide and two high after these turns
abbrev pub growth_fault_at : List RawLink → List ℕ → ℕ → ℕ → Option Refusal
growth_fault_at loop renaming expansion t = unless (has_grown loop renaming expansion t) (Expansion t)

-- the first of n tiles whose image doesn't grow
abbrev pub growth_fault : List RawLink → List ℕ → ℕ → ℕ → Option Refusal
growth_fault loop renaming expansion n = first_from (growth_fault_at loop renaming expansion) 0 n

-- one turn more than these, where after them the images of n tiles have grown
abbrev pub enough : List RawLink → List ℕ → ℕ → ℕ → Option ℕ
enough loop renaming n turns = if is_none (growth_fault loop renaming (turns + 1) n) then Some (turns + 1) else None

-- the least number of turns, from 1 to the number n of tiles, after which their images have grown
abbrev pub least_expansion : List RawLink → List ℕ → ℕ → Option ℕ
least_expansion loop renaming n = first_from (enough loop renaming n) 0 n

-- the same, as the tables of both axes tell it
abbrev pub small_at : List Bool → List Bool → ℕ → Option Refusal
small_at wide high t = unless (entry wide t && entry high t) (Expansion t)

-- the first of n tiles that the tables tell to be small
abbrev pub first_small : List Bool → List Bool → ℕ → Option Refusal
first_small wide high n = first_from (small_at wide high) 0 n

-- the loop's steps, those from its start on; there is one, the renaming leads from the last set to the first, and images grow
abbrev pub loop_fault : List RawLink → List ℕ → ℕ → Option Refusal
loop_fault [] renaming expansion = Some Start
loop_fault (link ∷ links) renaming expansion =
    or_else (option_map Renaming (renaming_fault (last_set (coarse_of link) links).tiles (fine_of link).tiles renaming))
    (growth_fault (link ∷ links) renaming expansion (length (fine_of link).tiles))

-- an open end has no fault, a loop that of its steps from `start` on
abbrev pub end_fault : List RawLink → End → Option Refusal
end_fault links Open = None
end_fault links (Loop start renaming expansion) = loop_fault (drop start links) renaming expansion

-- The first failing condition, in the order of the variants: first the number of steps and the version, then each step with the set before it, then the end.
unfoldable pub chain_fault : RawChain → Option Refusal
chain_fault c = or_else (size_fault c) (or_else (steps_fault c.steps) (end_fault c.steps c.end))

-- the first condition of a loop that fails, where these steps are closed so
abbrev pub close_fault : List RawLink → ℕ → List ℕ → ℕ → Option Refusal
close_fault links start renaming expansion = end_fault links (Loop start renaming expansion)

-- after no number of turns the image of each tile is wide and high enough
abbrev pub NeverGrows : List RawLink → List ℕ → Type 0
NeverGrows loop renaming = (turns : ℕ) → growth_fault loop renaming turns (first_count loop) ≢ None
