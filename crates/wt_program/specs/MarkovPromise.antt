-- What an answer of `markov` promises of the partition that came in.
use Rattle.std.specs.Prelude.{◌≡◌, ℕ, List, true, Option, None, Some, Ok, slice_get}
use Rattle.wt_text.specs.Words.{value_from}
use Rattle.wt_grid.specs.Grid.{Grid}
use Rattle.wt_tile.specs.declared.tile.Tile.{Tile}
use Rattle.wt_tile.specs.declared.tile.TileList.{TileList}
use Rattle.wt_pattern.specs.Patterns.{IsPattern}
use Rattle.wt_plane.specs.HalfPlanes.{Spot, IsSpot}
use Rattle.wt_torus.specs.declared.partition.Partition.{Partition}
use Rattle.wt_torus.specs.Codes.{IsCode}
use Rattle.wt_step.specs.declared.raw.RawStep.{RawStep}
use Rattle.wt_step.specs.declared.raw.RawLink.TheVariants.{Marker}
use Rattle.wt_step.specs.Meaning.{IsMarkerDesubstitution}
use Rattle.wt_step.specs.Coarse.{has_margin}
use Rattle.wt_chain.specs.declared.raw.RawChain.{RawChain}
use Rattle.wt_markov.specs.Agree.{Agrees}
use Rattle.wt_script.specs.declared.torus.RawTorus.{RawTorus}
use Rattle.wt_session.specs.Partitions.{partition_of}
use Rattle.wt_program.specs.Markovs.{set_and_torus, chain_and_torus}
use Rattle.wt_program.specs.Commands.{Command, check, run, desub, bound, expand, periodic, strip, strip_check, markov, markov_step, sample}

-- each code of the partition is a valid pattern over these tiles
abbrev pub HasValidCodes : List Tile → Partition → Type 0
HasValidCodes ts p = (z : Spot) → IsSpot z → (g : Grid) → IsCode p z g → IsPattern ts g

-- the step takes each code apart that has its margin: into a coarse pattern with, at each block where the induced code is defined, the tile whose image is the
-- image of the induced letter
abbrev pub HasCodesApart : RawStep → Partition → Type 0
HasCodesApart s p = (z : Spot) → IsSpot z → (g : Grid) → IsCode p z g → has_margin (Marker s) g ≡ true
    → (q : Grid) × IsMarkerDesubstitution s g q × IsPattern s.coarse.tiles q × Agrees s p z g q

-- the bytes are a set and a torus, which make a partition whose codes are valid patterns over the set
abbrev pub IsCoding : List ℕ → Type 0
IsCoding bytes = (list : TileList) × (torus : RawTorus) × (p : Partition) × (set_and_torus bytes ≡ Ok (list, torus)) × (partition_of torus.sides torus.regions ≡ Ok p) × HasValidCodes list.tiles p

-- the bytes are a chain and a torus, which make a partition whose codes are valid patterns over the fine set of this step, and are taken apart by it
abbrev pub IsCodingApart : List ℕ → List ℕ → Type 0
IsCodingApart step bytes = (c : RawChain) × (torus : RawTorus) × (p : Partition) × (s : RawStep)
    × (chain_and_torus bytes ≡ Ok (c, torus)) × (partition_of torus.sides torus.regions ≡ Ok p) × (slice_get c.steps (value_from 0 step) ≡ Some (Marker s))
    × HasValidCodes s.fine.tiles p × HasCodesApart s p

-- what an answer promises: of both words of `markov`; of the other words nothing
abbrev pub IsMarkovPromise : Option Command → List ℕ → Type 0
IsMarkovPromise None bytes = Unit {0}
IsMarkovPromise (Some check) bytes = Unit {0}
IsMarkovPromise (Some run) bytes = Unit {0}
IsMarkovPromise (Some (desub step)) bytes = Unit {0}
IsMarkovPromise (Some (bound x y)) bytes = Unit {0}
IsMarkovPromise (Some (expand width height)) bytes = Unit {0}
IsMarkovPromise (Some (periodic limit budget)) bytes = Unit {0}
IsMarkovPromise (Some (strip w h)) bytes = Unit {0}
IsMarkovPromise (Some strip_check) bytes = Unit {0}
IsMarkovPromise (Some (sample side)) bytes = Unit {0}
IsMarkovPromise (Some markov) bytes = IsCoding bytes
IsMarkovPromise (Some (markov_step step)) bytes = IsCodingApart step bytes
