-- What holds of a good chain: its steps take patterns apart in exactly one way, and where it is looped, there are valid patterns of every size over its first set, and no large one has a period.
use Rattle.std.specs.Prelude.{◌≡◌, ◌⊎◌, ◌^◌, ◌<◌, ◌≤◌, ◌∷◌, ℕ, ℤ, List, slice_get, Some}
use Rattle.wt_grid.specs.Grid.{Grid, IsGrid}
use Rattle.wt_tile.specs.declared.tile.Tile.{Tile}
use Rattle.wt_pattern.specs.Patterns.{IsPattern}
use Rattle.wt_pattern.specs.Periods.{IsPeriod}
use Rattle.wt_step.specs.declared.raw.RawLink.{RawLink}
use Rattle.wt_step.specs.declared.raw.RawLink.TheVariants.{Marker, Restrict}
use Rattle.wt_step.specs.Links.{fine_of}
use Rattle.wt_step.specs.Coarse.{IsDesubstitution, HasMargin, HasValidDesubstitution}
use Rattle.wt_step.specs.Cores.{HasSharedBlocks}
use Rattle.wt_step.specs.Carried.{magnitude}
use Rattle.wt_chain.specs.declared.raw.RawChain.{RawChain}
use Rattle.wt_chain.specs.Looped.{IsLooped, first_tiles}
use Rattle.wt_scale.specs.Loops.{loop_size}
use Rattle.wt_scale.specs.Existence.{HasPattern}

-- Of any other coarse rectangle r whose image is a run of whole lines of the core, each block but the one at the open end is a block of q, at the same lines. For a restrict step q has the whole core as its image, so there is no other.
abbrev pub IsUniqueUpToCut : RawLink → Grid → Grid → Type 0
IsUniqueUpToCut (Marker s) p q = (r : Grid) → IsGrid r → HasSharedBlocks s p q r
IsUniqueUpToCut (Restrict s) p q = (r : Grid) → IsGrid r → IsDesubstitution (Restrict s) p r → q ≡ r

-- The step takes every valid rectangle with its margin apart in exactly one way, and into a valid one, up to a cut at the border.
pub record HasUniqueDesubstitution (link : RawLink) : Type 0 where
  pub some : (p : Grid) → IsPattern (fine_of link).tiles p → HasMargin link p → HasValidDesubstitution link p
  pub one : (p q r : Grid) → IsPattern (fine_of link).tiles p → HasMargin link p → IsGrid q → IsGrid r
      → IsDesubstitution link p q → IsDesubstitution link p r → q ≡ r
  pub others : (p q : Grid) → IsPattern (fine_of link).tiles p → HasMargin link p → IsGrid q
      → IsDesubstitution link p q → IsUniqueUpToCut link p q

-- every step of the chain does so
abbrev pub HasUniqueDesubstitutions : RawChain → Type 0
HasUniqueDesubstitutions chain = (k : ℕ) (link : RawLink) → slice_get chain.steps k ≡ Some link → HasUniqueDesubstitution link

-- Where the chain is looped, there are valid patterns of every size over its first set.
abbrev pub HasEverySize : RawChain → Type 0
HasEverySize chain = (loop : IsLooped chain)
    → (w h : ℕ) → 1 ≤ w → 1 ≤ h → HasPattern (first_tiles loop) w h

-- a vector is no period of any valid pattern that is at least this wide and high
abbrev pub HasNoPeriodFrom : List Tile → ℕ → ℤ → ℤ → Type 0
HasNoPeriodFrom tiles size x y = (p : Grid) → IsPattern tiles p → size ≤ p.width → size ≤ p.height → IsPeriod p x y → ⊥

-- the same of the chain's first set
abbrev pub IsExcludedFrom : RawChain → ℕ → ℤ → ℤ → Type 0
IsExcludedFrom chain size x y = (first : RawLink) (rest : List RawLink) → chain.steps ≡ first ∷ rest → HasNoPeriodFrom (fine_of first).tiles size x y

-- Where the chain is looped, no nonzero vector is a period of any valid pattern over its first set that is large enough: for components up to m and k with m < 2^k, as large as `size_of` says.
abbrev pub HasNoPeriod : RawChain → Type 0
HasNoPeriod chain = (loop : IsLooped chain)
    → (x y : ℤ) (m k : ℕ) → magnitude x ≤ m → magnitude y ≤ m → m < 2 ^ k → (1 ≤ magnitude x) ⊎ (1 ≤ magnitude y)
    → HasNoPeriodFrom (first_tiles loop) (loop_size loop k m) x y

-- what holds of a good chain (`good_chains_hold`)
pub record Holds (chain : RawChain) : Type 0 where
  pub desubstitutes : HasUniqueDesubstitutions chain
  pub every_size : HasEverySize chain
  pub no_period : HasNoPeriod chain
