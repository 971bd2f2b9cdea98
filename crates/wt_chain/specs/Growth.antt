-- How large the images of tiles grow in a loop.
use Rattle.std.specs.Prelude.{ℕ, zero, suc, ◌+◌, List, [], ◌∷◌, length, Bool, true, false, ◌&&◌, nat_eq, nat_le, slice_index, slice_index_or, if◌then◌else◌}
use Rattle.wt_grid.specs.Axes.{same_axis}
use Rattle.wt_grid.specs.Traces.{piece_tiles}
use Rattle.wt_grid.specs.Images.{first_tile}
use Rattle.wt_grid.specs.declared.image.Image.TheVariants as image
use Rattle.wt_grid.specs.declared.image.Image.{Image}
use Rattle.wt_grid.specs.declared.axis.Axis.TheVariants.{One, Two}
use Rattle.wt_grid.specs.declared.axis.Axis.{Axis}
use Rattle.wt_grid.specs.Widths.{Stage, width}
use Rattle.wt_step.specs.declared.raw.RawLink.{RawLink}
use Rattle.wt_step.specs.declared.raw.RawLink.TheVariants.{Marker, Restrict}

-- what a coarse tile stands for; a restrict step keeps one tile for it
abbrev pub image_of : RawLink → ℕ → Image
image_of (Marker s) t = slice_index_or s.images t (image.One 0)
image_of (Restrict s) t = image.One (slice_index s.kept t)

-- images of two tiles lie along this axis
abbrev pub is_along : Axis → RawLink → Bool
is_along axis (Marker s) = same_axis axis s.axis
is_along axis (Restrict s) = false

-- a step's images, as they widen a row along an axis
abbrev pub stage : Axis → RawLink → Stage
stage axis link = record { is_along = is_along axis link; pieces = λ t. piece_tiles (image_of link t); first = λ t. first_tile (image_of link t) }

-- the tile that is carried onto t
abbrev pub origin_from : ℕ → List ℕ → ℕ → ℕ
origin_from i [] t = 0
origin_from i (r ∷ rs) t = if nat_eq r t then i else origin_from (i + 1) rs t

-- the tile of the last set that is carried onto t; 0 where there is none
abbrev pub origin : List ℕ → ℕ → ℕ
origin renaming t = origin_from 0 renaming t

-- tiles are renamed back
abbrev pub renaming_stage : List ℕ → Stage
renaming_stage renaming = record { is_along = false; pieces = λ t. origin renaming t ∷ []; first = λ t. origin renaming t }

-- the images of the last step come first; then what is left follows
abbrev pub stages : Axis → List RawLink → List Stage → List Stage
stages axis [] left = left
stages axis (link ∷ links) left = stages axis links (stage axis link ∷ left)

-- one turn of a loop: tiles are renamed back to the last set, and then the images of its steps are taken, last step first
abbrev pub turn : Axis → List RawLink → List ℕ → List Stage → List Stage
turn axis loop renaming left = renaming_stage renaming ∷ stages axis loop left

-- n turns
abbrev pub turn_stages : Axis → List RawLink → List ℕ → ℕ → List Stage
turn_stages axis loop renaming zero = []
turn_stages axis loop renaming (suc n) = turn axis loop renaming (turn_stages axis loop renaming n)

-- after n turns the image of tile t is at least two wide and two high
abbrev pub has_grown : List RawLink → List ℕ → ℕ → ℕ → Bool
has_grown loop renaming n t = nat_le 2 (width (turn_stages One loop renaming n) t) && nat_le 2 (width (turn_stages Two loop renaming n) t)
