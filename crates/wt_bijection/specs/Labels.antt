-- Scaffolding: labels of tiles: numbers that tell tiles of two sets apart which no renaming carries onto each other.
use Rattle.std.specs.Prelude.{ℕ, zero, suc, ◌≡◌, ◌<◌, ◌+◌, ◌*◌, ◌%◌, ◌^◌, List, length, map, slice_index, slice_set, nat_eq, nat_lt, if◌then◌else◌}
use Rattle.wt_grid.specs.declared.axis.Axis.TheVariants.{One, Two}
use Rattle.wt_grid.specs.declared.axis.Axis.{Axis}
use Rattle.std.specs.Int.{rotate_left, w64}
use Rattle.std.specs.List.{range_with_len}
use Rattle.wt_tile.specs.declared.tile.Tile.{Tile}
use Rattle.wt_tile.specs.Matching.{tile_at, ahead, behind}
use Rattle.wt_grid.specs.declared.limits.TheConstants.{MAX_TILES, MAX_COLOURS}

-- the sum of h at the numbers below n
abbrev pub sum_below : (ℕ → ℕ) → ℕ → ℕ
sum_below h zero = 0
sum_below h (suc n) = sum_below h n + h n

-- numbers are held to 64 bits
abbrev pub wrapped : ℕ → ℕ
wrapped x = x % 2 ^ 64

-- a number with its bits stirred
unfoldable pub scrambled : ℕ → ℕ
scrambled x = wrapped (rotate_left w64 (wrapped (x * wrapped (wrapped (x * 2) + 1))) 23 + 11400714819323198485)

-- one number of two, in their order
unfoldable pub mixed : ℕ → ℕ → ℕ
mixed x y = scrambled (wrapped (x + y))

-- what tile i adds to the label of colour c: its own label by its edge ahead, and that label stirred by its edge behind
abbrev pub share : Axis → List Tile → List ℕ → ℕ → ℕ → ℕ
share axis tiles labels c i =
    (if nat_eq (ahead axis (tile_at tiles i)) c then slice_index labels i else 0)
    + (if nat_eq (behind axis (tile_at tiles i)) c then scrambled (slice_index labels i) else 0)

-- colour c gets so much more, held to 64 bits
abbrev pub added : List ℕ → ℕ → ℕ → List ℕ
added sums c x = if nat_lt c MAX_COLOURS then slice_set sums c (wrapped (slice_index sums c + x)) else sums

-- the label of a colour: what all tiles add to it
abbrev pub colour_label : Axis → List Tile → List ℕ → ℕ → ℕ
colour_label axis tiles labels c = if nat_lt c MAX_COLOURS then wrapped (sum_below (share axis tiles labels c) (length tiles)) else 0

-- nothing is added to colour c yet
abbrev pub cleared : List ℕ → ℕ → List ℕ
cleared sums c = if nat_lt c MAX_COLOURS then slice_set sums c 0 else sums

-- nothing is added yet to the colours of the first n tiles
abbrev pub AreCleared : Axis → List Tile → ℕ → List ℕ → Type 0
AreCleared axis tiles n sums =
    (i : ℕ) → i < n → (slice_index sums (ahead axis (tile_at tiles i)) ≡ 0) × (slice_index sums (behind axis (tile_at tiles i)) ≡ 0)

-- a list has the labels of the colours that the tiles show
abbrev pub AreSummed : Axis → List Tile → List ℕ → List ℕ → Type 0
AreSummed axis tiles labels sums =
    (i : ℕ) → i < length tiles
    → (slice_index sums (ahead axis (tile_at tiles i)) ≡ colour_label axis tiles labels (ahead axis (tile_at tiles i)))
    × (slice_index sums (behind axis (tile_at tiles i)) ≡ colour_label axis tiles labels (behind axis (tile_at tiles i)))

-- a label, and in turn those of four colours
abbrev pub mixed_in : ℕ → ℕ → ℕ → ℕ → ℕ → ℕ
mixed_in own east north west south = mixed (mixed (mixed (mixed own east) north) west) south

-- the next label of tile i: of its own and those of its colours
unfoldable pub next_label : List Tile → List ℕ → ℕ → ℕ
next_label tiles labels i =
    mixed_in (slice_index labels i)
    (colour_label One tiles labels (ahead One (tile_at tiles i))) (colour_label Two tiles labels (ahead Two (tile_at tiles i)))
    (colour_label One tiles labels (behind One (tile_at tiles i))) (colour_label Two tiles labels (behind Two (tile_at tiles i)))

-- the next label of tile i; past the last tile all stays
abbrev pub label_or_own : List Tile → List ℕ → ℕ → ℕ
label_or_own tiles labels i = if nat_lt i (length tiles) then next_label tiles labels i else slice_index labels i

-- the next labels of 256 tiles
unfoldable pub next_labels : List Tile → List ℕ → List ℕ
next_labels tiles labels = map (label_or_own tiles labels) (range_with_len 0 MAX_TILES)

-- n rounds
abbrev pub rounds : List Tile → ℕ → List ℕ → List ℕ
rounds tiles zero labels = labels
rounds tiles (suc n) labels = rounds tiles n (next_labels tiles labels)

-- tile t is told apart from all others
abbrev pub marked : List ℕ → ℕ → List ℕ
marked labels t = slice_set labels t (scrambled (scrambled (slice_index labels t)))

-- what tile i adds to the sum of all labels
abbrev pub summand : List ℕ → ℕ → ℕ
summand labels i = scrambled (slice_index labels i)

-- the labels of n tiles in one number, in whatever order
abbrev pub label_sum : List ℕ → ℕ → ℕ
label_sum labels n = wrapped (sum_below (summand labels) n)

-- the sum of all labels some rounds after tile t was told apart
abbrev pub apart_label : List Tile → ℕ → List ℕ → ℕ → ℕ
apart_label tiles n labels t = if nat_lt t (length tiles) then label_sum (rounds tiles n (marked labels t)) (length tiles) else 0

-- the same for each of 256 tiles
unfoldable pub apart_labels : List Tile → ℕ → List ℕ → List ℕ
apart_labels tiles n labels = map (apart_label tiles n labels) (range_with_len 0 MAX_TILES)
