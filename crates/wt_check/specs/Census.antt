-- The census of a tile under turns of a chain's loop, and why there is none.
use Rattle.std.specs.Prelude.{◌≡◌, ℕ, ◌<◌, ◌≤◌, List, length, drop, slice_index}
use Rattle.wt_step.specs.declared.raw.RawLink.{RawLink}
use Rattle.wt_chain.specs.declared.raw.End.{End}
use Rattle.wt_chain.specs.declared.raw.End.TheVariants.{Open, Loop}
use Rattle.wt_chain.specs.Sets.{first_count}
use Rattle.wt_check.specs.Powers.{power, count, HasLarge, AreCounts}
use Rattle.wt_check.specs.declared.counts.CensusFault.{CensusFault}
use Rattle.wt_check.specs.declared.counts.CensusFault.TheVariants.{OpenChain, NoTile, TooLarge, OutOfMemory}

-- a tile stands 2^128 times or more in what n turns or fewer make of a tile
abbrev pub IsTooLarge : List RawLink → List ℕ → ℕ → ℕ → Type 0
IsTooLarge loop renaming turns tile = (k : ℕ) × (k ≤ turns) × HasLarge (power loop renaming k tile)

-- the counts of what n turns make of a tile; none is too large
abbrev pub AreCountsAfter : List RawLink → List ℕ → ℕ → ℕ → List ℕ → Type 0
AreCountsAfter loop renaming turns tile counts = AreCounts counts (power loop renaming turns tile) × (IsTooLarge loop renaming turns tile → ⊥)

-- a number for each tile of the loop's first set: how often it stands in what n turns make of a tile
abbrev pub IsLoopCensus : List RawLink → List ℕ → ℕ → ℕ → List ℕ → Type 0
IsLoopCensus loop renaming turns tile counts =
    (length counts ≡ first_count loop) × ((u : ℕ) → u < first_count loop → slice_index counts u ≡ count u (power loop renaming turns tile))

-- the same for a chain's loop
abbrev pub IsCensus : List RawLink → End → ℕ → ℕ → List ℕ → Type 0
IsCensus steps Open turns tile counts = ⊥
IsCensus steps (Loop start renaming expansion) turns tile counts = IsLoopCensus (drop start steps) renaming turns tile counts

-- there is a census: the tile is one of the loop's first set, and no count is too large
abbrev pub HasLoopCensus : List RawLink → List ℕ → ℕ → ℕ → Type 0
HasLoopCensus loop renaming turns tile = (tile < first_count loop) × (IsTooLarge loop renaming turns tile → ⊥)

-- a census, where there is one
abbrev pub IsWholeCensus : List RawLink → List ℕ → ℕ → ℕ → List ℕ → Type 0
IsWholeCensus loop renaming turns tile counts = IsLoopCensus loop renaming turns tile counts × HasLoopCensus loop renaming turns tile

-- the same for a chain's loop
abbrev pub HasNoFault : List RawLink → End → ℕ → ℕ → Type 0
HasNoFault steps Open turns tile = ⊥
HasNoFault steps (Loop start renaming expansion) turns tile = HasLoopCensus (drop start steps) renaming turns tile

-- there is none, for this reason; memory wants only where there is one
abbrev pub HasLoopFault : List RawLink → List ℕ → ℕ → ℕ → CensusFault → Type 0
HasLoopFault loop renaming turns tile OpenChain = ⊥
HasLoopFault loop renaming turns tile NoTile = first_count loop ≤ tile
HasLoopFault loop renaming turns tile TooLarge = (tile < first_count loop) × IsTooLarge loop renaming turns tile
HasLoopFault loop renaming turns tile OutOfMemory = HasLoopCensus loop renaming turns tile

-- the same for a chain's loop, or the chain is open
abbrev pub HasFault : List RawLink → End → ℕ → ℕ → CensusFault → Type 0
HasFault steps Open turns tile e = e ≡ OpenChain
HasFault steps (Loop start renaming expansion) turns tile e = HasLoopFault (drop start steps) renaming turns tile e
