-- The tiles at the corners of rectangles, and of what turns of a loop make of tiles.
use Rattle.std.specs.Prelude.{◌≡◌, ℕ, ◌-◌, ◌<◌, Bool, true, false, ◌&&◌, ◌||◌, if◌then◌else◌, List, [], ◌∷◌, length, slice_index}
use Rattle.wt_morphism.specs.Strands.{tile_of}
use Rattle.wt_grid.specs.declared.image.Image.TheVariants as image
use Rattle.wt_grid.specs.declared.image.Image.{Image}
use Rattle.wt_grid.specs.declared.axis.Axis.TheVariants.{One, Two}
use Rattle.wt_grid.specs.Grid.{Grid, cell}
use Rattle.wt_step.specs.declared.raw.RawLink.{RawLink}
use Rattle.wt_tile.specs.declared.tile.TileList.{TileList}
use Rattle.wt_chain.specs.Sets.{AreLinked, last_set, first_count}
use Rattle.wt_chain.specs.Growth.{image_of, is_along}
use Rattle.wt_check.specs.Powers.{power}
use Rattle.wt_check.specs.declared.corners.Corner.{Corner}

-- the first or the last of n places
abbrev pub end_place : Bool → ℕ → ℕ
end_place far n = if far then n - 1 else 0

-- the tile at a corner of a rectangle
abbrev pub corner_of : Corner → Grid → ℕ
corner_of c g = cell g (end_place c.right g.width) (end_place c.upper g.height)

-- a step's images have their second tile at the corner
abbrev pub is_far : Corner → RawLink → Bool
is_far c link = (c.right && is_along One link) || (c.upper && is_along Two link)

-- the tile at a corner of what a coarse tile stands for
abbrev pub corner_under : Corner → RawLink → ℕ → ℕ
corner_under c link t = tile_of (is_far c link) (image_of link t)

-- the same under several steps, the last step first
abbrev pub corner_through : Corner → List RawLink → ℕ → ℕ
corner_through c [] t = t
corner_through c (link ∷ links) t = corner_under c link (corner_through c links t)

-- the table has the values of f at the tiles of a set of n
abbrev pub AreTableOf : ℕ → List ℕ → (ℕ → ℕ) → Type 0
AreTableOf n table f = (t : ℕ) → t < n → slice_index table t ≡ f t

-- a table of a step's coarse set tells of the corners what that of its fine set does, through several steps
abbrev pub IsCarriedTable : Corner → List RawLink → List ℕ → List ℕ → Type 0
IsCarriedTable c links old new = (set : TileList) (f : ℕ → ℕ) → AreLinked set links → AreTableOf (length set.tiles) old f
    → AreTableOf (length (last_set set links).tiles) new (λ t. f (corner_through c links t))

-- the table has for each tile of the loop's first set the tile at a corner of what n turns make of it
abbrev pub AreCorners : Corner → List RawLink → List ℕ → ℕ → List ℕ → Type 0
AreCorners c loop renaming turns table = AreTableOf (first_count loop) table (λ t. corner_of c (power loop renaming turns t))
