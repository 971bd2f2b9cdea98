-- Scaffolding: how a pattern is read: blocks of one or two lines, and the coarse tile of each.
use Rattle.std.specs.Prelude.{ℕ, zero, suc, ◌+◌, ◌-◌, ◌*◌, ◌/◌, ◌%◌, ◌<◌, ◌≡◌, Bool, true, false, ◌&&◌, nat_lt, List, [], ◌∷◌, length, slice_get, slice_index, slice_index_or, slice_set, Some, if◌then◌else◌}
use Rattle.wt_grid.specs.declared.image.Image.TheVariants as image
use Rattle.wt_grid.specs.declared.image.Image.{Image}
use Rattle.wt_grid.specs.declared.axis.Axis.TheVariants.{One, Two}
use Rattle.wt_grid.specs.declared.axis.Axis.{Axis}
use Rattle.wt_grid.specs.Grid.{Grid, along, across, at, grid_of, listed}
use Rattle.wt_step.specs.declared.raw.RawStep.{RawStep}
use Rattle.wt_step.specs.declared.raw.RawRestrict.{RawRestrict}
use Rattle.wt_step.specs.declared.blocks.Block.{Block}
use Rattle.wt_step.specs.declared.index.Index.{Index}
use Rattle.wt_step.specs.Words.{is_marker, joined, ends_block}
use Rattle.wt_step.specs.Cores.{core_length}

-- cell j of line i, or 0 outside
abbrev pub cell_at : Grid → Axis → ℕ → ℕ → ℕ
cell_at p axis i j = if nat_lt i (along axis p) && nat_lt j (across axis p) then at axis p i j else 0

-- cell j of line i of the core
abbrev pub core_at : RawStep → Grid → ℕ → ℕ → ℕ
core_at s p i j = cell_at p s.axis (s.radius + i) (s.radius + j)

-- Whether line i of the core is a line of markers, as the code reads it: a line outside counts as tile 0. In a core it is `is_marked` of Coarse.
abbrev pub marks_in_code : RawStep → Grid → ℕ → Bool
marks_in_code s p i = is_marker s (core_at s p i 0)

-- lines i and i + 1 are one block
abbrev pub pairs_at : RawStep → Grid → ℕ → Bool
pairs_at s p i = joined s.side (marks_in_code s p i) (marks_in_code s p (i + 1))

-- the blocks of n lines from line i on, where the first of them may end a block
abbrev pub blocks_in : (ℕ → Bool) → Bool → ℕ → ℕ → List Block
blocks_in pairs inside i zero = []
blocks_in pairs true i (suc n) = blocks_in pairs false (i + 1) n
blocks_in pairs false i (suc zero) = record { line = i; double = false } ∷ []
blocks_in pairs false i (suc (suc n)) = record { line = i; double = pairs i } ∷ blocks_in pairs (pairs i) (i + 1) (suc n)

-- the numbers of the first k images, by their tiles of n
pub record IsIndexed (images : List Image) (n k : ℕ) (singles pairs : List ℕ) : Type 0 where
  pub size1 : length singles ≡ n
  pub size2 : length pairs ≡ n * n
  pub ones : (i a : ℕ) → i < k → slice_get images i ≡ Some (image.One a) → slice_index singles a ≡ i
  pub twos : (i a b : ℕ) → i < k → slice_get images i ≡ Some (image.Two a b) → slice_index pairs (a * n + b) ≡ i

-- the list of single tiles with image number i noted at its tile
abbrev pub note_single : Image → ℕ → List ℕ → List ℕ
note_single (image.One a) i singles = slice_set singles a i
note_single (image.Two a b) i singles = singles

-- the list of pairs of tiles, n in a row, with image number i noted at its two
abbrev pub note_pair : ℕ → Image → ℕ → List ℕ → List ℕ
note_pair n (image.One a) i pairs = pairs
note_pair n (image.Two a b) i pairs = slice_set pairs (a * n + b) i

-- the coarse tile of cell j of a block
abbrev pub block_tile : RawStep → Grid → List ℕ → List ℕ → Block → ℕ → ℕ
block_tile s p singles pairs block j =
    if block.double then slice_index pairs (core_at s p block.line j * length s.fine.tiles + core_at s p (block.line + 1) j)
    else slice_index singles (core_at s p block.line j)

-- block i; an empty one past the last
abbrev pub block_at : List Block → ℕ → Block
block_at blocks i = slice_index_or blocks i (record { line = 0; double = false })

-- the coarse tile at column x of row y
abbrev pub coarse_at : RawStep → Grid → List ℕ → List ℕ → List Block → Axis → ℕ → ℕ → ℕ
coarse_at s p singles pairs blocks One x y = block_tile s p singles pairs (block_at blocks x) y
coarse_at s p singles pairs blocks Two x y = block_tile s p singles pairs (block_at blocks y) x

-- the same at column x, the row first
abbrev pub coarse_in : RawStep → Grid → List ℕ → List ℕ → List Block → ℕ → ℕ → ℕ
coarse_in s p singles pairs blocks y x = coarse_at s p singles pairs blocks s.axis x y

-- cell k in reading order
abbrev pub coarse_cell : RawStep → Grid → List ℕ → List ℕ → List Block → ℕ → ℕ → ℕ
coarse_cell s p singles pairs blocks width k = coarse_at s p singles pairs blocks s.axis (k % width) (k / width)

-- the first n cells of row y
abbrev pub coarse_row : RawStep → Grid → Index → List Block → ℕ → ℕ → List ℕ
coarse_row s p index blocks y n = listed n (coarse_in s p index.singles.items index.pairs.items blocks y)

-- w by h cells in reading order
abbrev pub coarse_cells : RawStep → Grid → Index → List Block → ℕ → ℕ → List ℕ
coarse_cells s p index blocks w h = listed (w * h) (coarse_cell s p index.singles.items index.pairs.items blocks w)

-- the number in a table for the number at place i of a line
abbrev pub found_at : List ℕ → List ℕ → ℕ → ℕ
found_at table line i = slice_index table (slice_index line i)

-- the number in a table of pairs, n in a row, for the numbers at place i of two lines
abbrev pub pair_found_at : List ℕ → ℕ → List ℕ → List ℕ → ℕ → ℕ
pair_found_at table n low high i = slice_index table (slice_index low i * n + slice_index high i)

-- the coarse tile of a block in a row of fine cells, of n tiles
abbrev pub tile_in : ℕ → List ℕ → List ℕ → List ℕ → Block → ℕ
tile_in n singles pairs row block =
    if block.double then slice_index pairs (slice_index row block.line * n + slice_index row (block.line + 1))
    else slice_index singles (slice_index row block.line)

-- the same for block i
abbrev pub block_in : ℕ → List ℕ → List ℕ → List ℕ → List Block → ℕ → ℕ
block_in n singles pairs row blocks i = tile_in n singles pairs row (block_at blocks i)

-- a block lies in the first n lines
abbrev pub IsWithin : ℕ → Block → Type 0
IsWithin n block = (block.line < n) × (block.double ≡ true → block.line + 1 < n)

-- each block does
abbrev pub AreWithin : ℕ → List Block → Type 0
AreWithin n blocks = (i : ℕ) → i < length blocks → IsWithin n (block_at blocks i)

-- the width of n lines of m cells each
abbrev pub width_of : Axis → ℕ → ℕ → ℕ
width_of One n m = n
width_of Two n m = m

-- and their height
abbrev pub height_of : Axis → ℕ → ℕ → ℕ
height_of One n m = m
height_of Two n m = n

-- the coarse rectangle of these blocks, of m cells each along the other axis
abbrev pub coarse_grid : RawStep → Grid → List ℕ → List ℕ → List Block → Axis → ℕ → Grid
coarse_grid s p singles pairs blocks axis m = grid_of (width_of axis (length blocks) m) (height_of axis (length blocks) m) (coarse_at s p singles pairs blocks axis)

-- how many lines a cut takes
abbrev pub one_if : Bool → ℕ
one_if true = 1
one_if false = 0

-- the blocks of the core without its first line, where that is cut, and its last, where that is cut
abbrev pub core_blocks : RawStep → Grid → Bool → Bool → List Block
core_blocks s p low high = blocks_in (pairs_at s p) false (one_if low) (core_length s p - (one_if low + one_if high))

-- whether line i of the core ends a block
abbrev pub ends_at : RawStep → Grid → ℕ → Bool
ends_at s p i = ends_block s.side (marks_in_code s p i)

-- the places of the first k kept tiles, by tile, for n tiles
pub record IsPlaced (kept : List ℕ) (n k : ℕ) (places : List ℕ) : Type 0 where
  pub size : length places ≡ n
  pub at : (i a : ℕ) → i < k → slice_get kept i ≡ Some a → slice_index places a ≡ i

-- the coarse tile of a restrict step at column x of row y
abbrev pub kept_tile : RawRestrict → Grid → List ℕ → ℕ → ℕ → ℕ
kept_tile s p places x y = slice_index places (cell_at p One (s.radius + x) (s.radius + y))

-- the same, the row first
abbrev pub kept_in : RawRestrict → Grid → List ℕ → ℕ → ℕ → ℕ
kept_in s p places y x = kept_tile s p places x y

-- the same for cell k in reading order
abbrev pub kept_cell : RawRestrict → Grid → List ℕ → ℕ → ℕ → ℕ
kept_cell s p places width k = kept_tile s p places (k % width) (k / width)
