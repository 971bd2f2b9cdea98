-- The words in which the conditions on a step are said.
use Rattle.std.specs.Prelude.{ℕ, ◌+◌, List, slice_index_or, Option, Bool, false, ◌&&◌, not, nat_eq, nat_lt, nat_le, if◌then◌else◌}
use Rattle.std.specs.List.{list_any, find}
use Rattle.wt_grid.specs.Axes.{same_axis}
use Rattle.wt_grid.specs.Images.{first_tile, last_tile}
use Rattle.wt_grid.specs.declared.image.Image.TheVariants as image
use Rattle.wt_grid.specs.declared.image.Image.{Image}
use Rattle.wt_grid.specs.declared.axis.Side.TheVariants.{After, Before}
use Rattle.wt_grid.specs.declared.axis.Side.{Side}
use Rattle.wt_grid.specs.declared.axis.Axis.TheVariants.{One, Two}
use Rattle.wt_grid.specs.declared.axis.Axis.{Axis}
use Rattle.wt_tile.specs.declared.tile.Tile.{Tile}
use Rattle.wt_tile.specs.Matching.{matches}
use Rattle.wt_refute.specs.declared.tree.Refuted.{Refuted}
use Rattle.wt_step.specs.declared.raw.RawStep.{RawStep}
use Rattle.wt_refute.specs.Entries.{is_entry}
use Rattle.wt_grid.specs.Pairs.{is_this_pair}
use Rattle.wt_grid.specs.First.{count_from}

-- Refutations.

-- a refutation has at most this radius, and its tiles are among n
abbrev pub entry_fits : ℕ → ℕ → Refuted → Bool
entry_fits radius n r = nat_le r.radius radius && nat_lt r.a n && nat_lt r.b n

-- Images.

-- the tiles of an image are among n
abbrev pub image_fits : ℕ → Image → Bool
image_fits n (image.One a) = nat_lt a n
image_fits n (image.Two a b) = nat_lt a n && nat_lt b n

-- two images are equal
abbrev pub same_image : Image → Image → Bool
same_image (image.One a) (image.One b) = nat_eq a b
same_image (image.One a) (image.Two c d) = false
same_image (image.Two a b) (image.One c) = false
same_image (image.Two a b) (image.Two c d) = nat_eq a c && nat_eq b d

-- images of one length match piece by piece
abbrev pub pieces_match : List Tile → Axis → Image → Image → Bool
pieces_match ts axis (image.One a) (image.One b) = matches ts axis a b
pieces_match ts axis (image.One a) (image.Two c d) = false
pieces_match ts axis (image.Two a b) (image.One c) = false
pieces_match ts axis (image.Two a b) (image.Two c d) = matches ts axis a c && matches ts axis b d

-- What a step says.

-- the list of the allowed pairs of an axis
abbrev pub allowed : RawStep → Axis → List (ℕ × ℕ)
allowed s One = s.allowed1
allowed s Two = s.allowed2

-- a and b are an allowed pair: b stands to the right of a along axis 1, above it along axis 2
abbrev pub allows : RawStep → Axis → ℕ → ℕ → Bool
allows s axis a b = list_any (is_this_pair a b) (allowed s axis)

-- tile a is a marker
abbrev pub is_marker : RawStep → ℕ → Bool
is_marker s a = list_any (nat_eq a) s.markers

-- a matching pair that isn't allowed
abbrev pub is_barred : RawStep → Axis → ℕ → ℕ → Bool
is_barred s axis a b = matches s.fine.tiles axis a b && not (allows s axis a b)

-- the refutation of the pair a, b at a radius, where there is one
abbrev pub entry_at : RawStep → Axis → ℕ → ℕ → ℕ → Option Refuted
entry_at s axis a b radius = find (is_entry radius axis a b) s.refuted

-- how often the refutations name a pair
abbrev pub times : RawStep → Axis → ℕ → ℕ → ℕ
times s axis a b = count_from (entry_at s axis a b) 0 (s.radius + 1)

-- a line and the one behind it are one block, told by whether they are of markers: for the side after a marker line ends a block, for the side before it begins one
abbrev pub joined : Side → Bool → Bool → Bool
joined After m n = not m && n
joined Before m n = m && not n

-- these two stand for one coarse tile, where they are an allowed pair of the axis
abbrev pub is_block : RawStep → ℕ → ℕ → Bool
is_block s a b = joined s.side (is_marker s a) (is_marker s b)

-- this pair makes the tile u an image, where u is a non-marker
abbrev pub demands_by : Side → RawStep → ℕ → ℕ × ℕ → Bool
demands_by After s u p = nat_eq p.0 u && not (is_marker s p.1)
demands_by Before s u p = nat_eq p.1 u && not (is_marker s p.0)

-- the same for the side of the step
abbrev pub demands : RawStep → ℕ → ℕ × ℕ → Bool
demands s u p = demands_by s.side s u p

-- the image of coarse tile i; tile 0 past the last
abbrev pub image_at : RawStep → ℕ → Image
image_at s i = slice_index_or s.images i (image.One 0)

-- two images match: along the step's axis the last tile of the first with the first tile of the second, and along the other piece by piece
abbrev pub images_match : RawStep → Axis → Image → Image → Bool
images_match s axis x y =
    if same_axis axis s.axis then matches s.fine.tiles axis (last_tile x) (first_tile y)
    else pieces_match s.fine.tiles axis x y

-- whether a line ends a block, given whether it is a line of markers
abbrev pub ends_block : Side → Bool → Bool
ends_block After marked = marked
ends_block Before marked = not marked
