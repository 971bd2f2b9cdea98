-- What a loop makes of a rectangle over its first set.
use Rattle.std.specs.Prelude.{ℕ, zero, suc, List, [], ◌∷◌}
use Rattle.wt_grid.specs.declared.axis.Axis.TheVariants.{One}
use Rattle.wt_grid.specs.declared.axis.Axis.{Axis}
use Rattle.wt_grid.specs.Grid.{Grid, cell, grid_of}
use Rattle.wt_grid.specs.Images.{image_grid}
use Rattle.wt_step.specs.declared.raw.RawLink.{RawLink}
use Rattle.wt_step.specs.declared.raw.RawLink.TheVariants.{Marker, Restrict}
use Rattle.wt_step.specs.Meaning.{pieces_of}
use Rattle.wt_chain.specs.Growth.{origin}

-- the axis along which a step's images lie; those of a restrict step are single tiles
abbrev pub axis_of : RawLink → Axis
axis_of (Marker s) = s.axis
axis_of (Restrict s) = One

-- the rectangle that a coarse rectangle stands for
abbrev pub image_under : RawLink → Grid → Grid
image_under link q = image_grid (axis_of link) (pieces_of link) q

-- the same under several steps, the last step's images first
abbrev pub image_through : List RawLink → Grid → Grid
image_through [] q = q
image_through (link ∷ links) q = image_under link (image_through links q)

-- a rectangle over the first set of a loop, renamed back to the last
abbrev pub renamed_back : List ℕ → Grid → Grid
renamed_back renaming g = grid_of g.width g.height (λ x y. origin renaming (cell g x y))

-- one turn of a loop: the rectangle is renamed back to the last set, and then its images are taken, down to the first set
abbrev pub turned : List RawLink → List ℕ → Grid → Grid
turned loop renaming g = image_through loop (renamed_back renaming g)

-- n turns
abbrev pub turned_times : List RawLink → List ℕ → ℕ → Grid → Grid
turned_times loop renaming zero g = g
turned_times loop renaming (suc n) g = turned_times loop renaming n (turned loop renaming g)

-- the rectangle of one tile
abbrev pub single : ℕ → Grid
single t = record { width = 1; height = 1; cells = t ∷ [] }
