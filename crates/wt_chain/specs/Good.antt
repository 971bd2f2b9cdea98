-- Good chains, as a record of what holds. The first fault of a chain says the same (`good_chains`).
use Rattle.std.specs.Prelude.{ℕ, ◌≡◌, ◌<◌, ◌≤◌, List, [], ◌∷◌, length, drop, true}
use Rattle.wt_bijection.specs.Carried.{IsRenaming}
use Rattle.wt_step.specs.declared.raw.RawLink.{RawLink}
use Rattle.wt_step.specs.Links.{fine_of, coarse_of}
use Rattle.wt_chain.specs.declared.raw.RawChain.{RawChain}
use Rattle.wt_chain.specs.declared.raw.End.{End}
use Rattle.wt_chain.specs.declared.raw.End.TheVariants.{Open, Loop}
use Rattle.wt_chain.specs.Versions.{version_fits}
use Rattle.wt_tile.specs.declared.tile.TileList.{TileList}
use Rattle.wt_step.specs.Good.{IsGoodLink}
use Rattle.wt_chain.specs.Sets.{last_set}
use Rattle.wt_chain.specs.Turns.{turned_times, single}

-- good steps, of which the first takes apart this set, and each other one the coarse set of the step before it
abbrev pub AreGoodSteps : TileList → List RawLink → Type 0
AreGoodSteps set [] = Unit {0}
AreGoodSteps set (link ∷ links) = IsGoodLink link × (fine_of link ≡ set) × AreGoodSteps (coarse_of link) links

-- good steps, each of which takes apart the coarse set of the one before it
abbrev pub IsGoodRun : List RawLink → Type 0
IsGoodRun [] = Unit {0}
IsGoodRun (link ∷ links) = AreGoodSteps (fine_of link) (link ∷ links)

-- the image of tile t after n turns is at least two wide and two high
pub record HasGrown (loop : List RawLink) (renaming : List ℕ) (n t : ℕ) : Type 0 where
  pub wide : 2 ≤ (turned_times loop renaming n (single t)).width
  pub high : 2 ≤ (turned_times loop renaming n (single t)).height

-- the steps of a loop: there is one, the renaming carries the last set onto the first, and the image of each tile there grows
abbrev pub IsGoodLoop : List RawLink → List ℕ → ℕ → Type 0
IsGoodLoop [] renaming expansion = ⊥
IsGoodLoop (link ∷ links) renaming expansion =
    IsRenaming (last_set (coarse_of link) links).tiles (fine_of link).tiles renaming
    × ((t : ℕ) → t < length (fine_of link).tiles → HasGrown (link ∷ links) renaming expansion t)

-- an open end, or a loop that leads from the last set back to that of level `start`
abbrev pub IsGoodEnd : List RawLink → End → Type 0
IsGoodEnd links Open = Unit {0}
IsGoodEnd links (Loop start renaming expansion) = IsGoodLoop (drop start links) renaming expansion

-- a good chain
pub record IsGoodChain (c : RawChain) : Type 0 where
  -- 1 to 32 steps
  pub some : 0 < length c.steps
  pub few : length c.steps ≤ 32
  -- in version one no tree cites, each refutation has its step's radius, and no step restricts
  pub version : version_fits c.version c.steps ≡ true
  -- each step is good, and takes apart the set before it
  pub run : IsGoodRun c.steps
  -- an open end, or a loop along which the image of each tile grows
  pub end : IsGoodEnd c.steps c.end
