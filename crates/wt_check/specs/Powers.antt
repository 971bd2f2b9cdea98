-- What n turns of a loop make of a tile of its first set, and how often a tile stands there.
use Rattle.std.specs.Prelude.{◌≡◌, ℕ, zero, suc, ◌+◌, ◌*◌, ◌^◌, ◌<◌, ◌≤◌, nat_eq, if◌then◌else◌, List, [], ◌∷◌, length, drop, slice_index, Option, MatchOption}
use Rattle.wt_grid.specs.Traces.{piece_tiles}
use Rattle.wt_tile.specs.declared.tile.TileList.{TileList}
use Rattle.wt_bijection.specs.Carried.{IsRenaming}
use Rattle.wt_grid.specs.Grid.{Grid}
use Rattle.wt_grid.specs.Widths.{total}
use Rattle.wt_pattern.specs.Patterns.{IsPattern}
use Rattle.wt_step.specs.declared.raw.RawLink.{RawLink}
use Rattle.wt_chain.specs.declared.raw.RawChain.{RawChain}
use Rattle.wt_chain.specs.Looped.{IsLooped}
use Rattle.wt_chain.specs.Sets.{AreLinked, last_set, first_count}
use Rattle.wt_chain.specs.Growth.{image_of, origin}
use Rattle.wt_chain.specs.Turns.{turned_times, turned, image_through, single}
use Rattle.wt_grid.specs.declared.limits.TheConstants.{MAX_TILES}

-- the power of the loop's map, on one tile
abbrev pub power : List RawLink → List ℕ → ℕ → ℕ → Grid
power loop renaming turns tile = turned_times loop renaming turns (single tile)

-- what n turns of a chain's loop make of a tile
abbrev pub loop_power : {c : RawChain} → IsLooped c → ℕ → ℕ → Grid
loop_power {c} loop turns tile = power (drop loop.start c.steps) loop.renaming turns tile

-- 1 for this tile, and 0 for any other
abbrev pub unit : ℕ → ℕ → ℕ
unit u t = if nat_eq t u then 1 else 0

-- how often a tile stands in a list
abbrev pub units : ℕ → List ℕ → ℕ
units u ts = total (unit u) ts

-- how often it stands in a rectangle
abbrev pub count : ℕ → Grid → ℕ
count u g = units u g.cells

-- a tile stands 2^128 times or more in the rectangle
abbrev pub HasLarge : Grid → Type 0
HasLarge g = (u : ℕ) × (2 ^ 128 ≤ count u g)

-- the numbers are the counts of 256 tiles
abbrev pub AreCounts : List ℕ → Grid → Type 0
AreCounts ns g = (u : ℕ) → u < MAX_TILES → slice_index ns u ≡ count u g

-- f 0, f 1 and so on, n of them, added up
abbrev pub sum_below : ℕ → (ℕ → ℕ) → ℕ
sum_below zero f = 0
sum_below (suc n) f = sum_below n f + f n

-- the tiles that a coarse tile of a step stands for
abbrev pub tiles_under : RawLink → ℕ → List ℕ
tiles_under link t = piece_tiles (image_of link t)

-- the tile that one of the loop's first set is renamed back to
abbrev pub tile_back : List ℕ → ℕ → List ℕ
tile_back renaming t = origin renaming t ∷ []

-- how often tile u stands in what the first n tiles stand for, where each tile stands as often as the numbers say
unfoldable pub pushed : (ℕ → List ℕ) → List ℕ → ℕ → ℕ → ℕ
pushed tiles ns n u = sum_below n (λ x. slice_index ns x * units u (tiles x))

-- n has been added to the count of each tile of a list, as often as it stands there
abbrev pub AreAdded : List ℕ → List ℕ → ℕ → List ℕ → Type 0
AreAdded old new n tiles = (u : ℕ) → u < MAX_TILES → slice_index new u ≡ slice_index old u + n * units u tiles

-- some count would be 2^128 or more then
abbrev pub IsAddedTooLarge : List ℕ → ℕ → List ℕ → Type 0
IsAddedTooLarge old n tiles = (u : ℕ) × (u < MAX_TILES) × (2 ^ 128 ≤ slice_index old u + n * units u tiles)

-- the numbers are those that are pushed
abbrev pub ArePushed : (ℕ → List ℕ) → List ℕ → List ℕ → Type 0
ArePushed tiles ns next = (u : ℕ) → u < MAX_TILES → slice_index next u ≡ pushed tiles ns MAX_TILES u

-- some number that is pushed is 2^128 or more
abbrev pub IsPushedTooLarge : (ℕ → List ℕ) → List ℕ → Type 0
IsPushedTooLarge tiles ns = (u : ℕ) × (u < MAX_TILES) × (2 ^ 128 ≤ pushed tiles ns MAX_TILES u)

-- the counts of a rectangle, or none where one is 2^128 or more
abbrev pub AreCountsOrLarge : Option (List ℕ) → Grid → Type 0
AreCountsOrLarge counts g = MatchOption counts (HasLarge g) (λ ns. AreCounts ns g)

-- a loop: good steps from its first set on, and a renaming from the last set to the first
pub record IsClosed (loop : List RawLink) (renaming : List ℕ) : Type 0 where
  pub set : TileList
  pub few : length set.tiles ≤ MAX_TILES
  pub counted : length set.tiles ≡ first_count loop
  pub linked : AreLinked set loop
  pub renames : IsRenaming (last_set set loop).tiles set.tiles renaming

-- n has been added to the count of one tile
abbrev pub IsOneAdded : List ℕ → List ℕ → ℕ → ℕ → Type 0
IsOneAdded old new n tile = (u : ℕ) → u < MAX_TILES → slice_index new u ≡ slice_index old u + n * unit u tile

-- its count would be 2^128 or more then
abbrev pub IsOneTooLarge : List ℕ → ℕ → ℕ → Type 0
IsOneTooLarge old n tile = (tile < MAX_TILES) × (2 ^ 128 ≤ slice_index old tile + n)

-- the counts of a valid pattern of the last set become those of its image under these steps, or none where one is 2^128 or more
abbrev pub CountsThrough : List RawLink → List ℕ → Option (List ℕ) → Type 0
CountsThrough links old new =
    (set : TileList) (q : Grid) → AreLinked set links → IsPattern (last_set set links).tiles q → AreCounts old q
    → AreCountsOrLarge new (image_through links q)

-- the counts of a valid pattern of a loop's first set become those of what one turn makes of it, or none where one is 2^128 or more
abbrev pub CountsTurned : List RawLink → List ℕ → List ℕ → Option (List ℕ) → Type 0
CountsTurned loop renaming old new =
    (closed : IsClosed loop renaming) (g : Grid) → IsPattern closed.set.tiles g → AreCounts old g
    → AreCountsOrLarge new (turned loop renaming g)

-- a tile of the loop's first set
abbrev pub IsLoopTile : {c : RawChain} → IsLooped c → ℕ → Type 0
IsLoopTile {c} loop t = t < first_count (drop loop.start c.steps)

-- how often tile u stands in what n turns make of tile t
abbrev pub loop_count : {c : RawChain} → IsLooped c → ℕ → ℕ → ℕ → ℕ
loop_count loop n t u = count u (loop_power loop n t)

-- the same of all tiles that m turns make of tile t, together
abbrev pub count_after : {c : RawChain} → IsLooped c → ℕ → ℕ → ℕ → ℕ → ℕ
count_after loop m n t u = total (λ v. loop_count loop n v u) (loop_power loop m t).cells
