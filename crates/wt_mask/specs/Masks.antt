-- Masks of tiles: a bit for each, 256 in all.
use Rattle.std.specs.Prelude.{◌≡◌, ℕ, ◌<◌, ◌≤◌, Bool, true, false, ◌&&◌, nat_eq, nat_lt, List, [], length, slice_index_or}
use Rattle.std.specs.List.{list_any}
use Rattle.wt_grid.specs.declared.axis.Axis.TheVariants.{One, Two}
use Rattle.wt_tile.specs.declared.tile.Tile.{Tile}
use Rattle.wt_tile.specs.Matching.{matches, ahead, behind, tile_at}
use Rattle.wt_lane.specs.Masks.{mask_bit}
use Rattle.wt_grid.specs.Pairs.{is_this_pair}
use Rattle.wt_grid.specs.declared.limits.TheConstants.{MAX_COLOURS, MAX_TILES}
use Rattle.wt_mask.specs.declared.sides.Way.{Way}
use Rattle.wt_mask.specs.declared.sides.Way.TheVariants.{Right, Left, Up, Down}

-- the bit that says whether a test holds
abbrev pub bit : Bool → ℕ
bit true = 1
bit false = 0

-- the mask of a cell, or of a colour
abbrev pub mask_at : List (List ℕ) → ℕ → List ℕ
mask_at masks k = slice_index_or masks k []

-- no bit of the mask is set from a number on
abbrev pub IsEmptyFrom : ℕ → List ℕ → Type 0
IsEmptyFrom from a = (i : ℕ) → from ≤ i → mask_bit a i ≡ 0

-- bit n is the first of the mask that is set from a number on
abbrev pub IsNextBit : ℕ → List ℕ → ℕ → Type 0
IsNextBit from a n = (from ≤ n) × (n < 256) × (mask_bit a n ≡ 1) × ((i : ℕ) → from ≤ i → i < n → mask_bit a i ≡ 0)

-- the mask has the second tiles of those of the pairs whose first tile is a
abbrev pub IsRow : List (ℕ × ℕ) → ℕ → List ℕ → Type 0
IsRow pairs a mask = (b : ℕ) → b < MAX_TILES → mask_bit mask b ≡ bit (list_any (is_this_pair a b) pairs)

-- tile u may stand beside tile t, on this side of it
abbrev pub may_stand : List Tile → Way → ℕ → ℕ → Bool
may_stand ts Right t u = matches ts One t u
may_stand ts Left t u = matches ts One u t
may_stand ts Up t u = matches ts Two t u
may_stand ts Down t u = matches ts Two u t

-- the colour of a tile's edge on this side
abbrev pub edge : Way → Tile → ℕ
edge Right t = ahead One t
edge Left t = behind One t
edge Up t = ahead Two t
edge Down t = behind Two t

-- the colour of the edge that a tile on this side turns to the tile in the middle
abbrev pub turned : Way → Tile → ℕ
turned Right t = behind One t
turned Left t = ahead One t
turned Up t = behind Two t
turned Down t = ahead Two t

-- the mask has those of the first n tiles that meet this colour, when they stand on this side
abbrev pub IsMet : List Tile → Way → ℕ → ℕ → List ℕ → Type 0
IsMet ts way n colour mask = (u : ℕ) → mask_bit mask u ≡ bit (nat_lt u n && nat_eq colour (turned way (tile_at ts u)))

-- for each of the colours that have a mask of their own, the tiles that meet it on this side
abbrev pub IsSide : List Tile → Way → List (List ℕ) → Type 0
IsSide ts way rows = (colour : ℕ) → colour < MAX_COLOURS → IsMet ts way (length ts) colour (mask_at rows colour)
