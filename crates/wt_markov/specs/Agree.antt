-- Where a step takes the code of a point apart: the blocks, as points of the torus.
use Rattle.std.specs.Prelude.{◌≡◌, ℕ, ◌+◌, ◌<◌, Some, slice_get}
use Rattle.wt_plane.specs.HalfPlanes.{Spot}
use Rattle.wt_grid.specs.Grid.{Grid, along, across, at}
use Rattle.wt_torus.specs.declared.letter.Letter.TheVariants.{One}
use Rattle.wt_torus.specs.declared.partition.Partition.{Partition}
use Rattle.wt_torus.specs.Letters.{letter}
use Rattle.wt_induce.specs.Induced.{induced, images}
use Rattle.wt_induce.specs.Law.{reached_along}
use Rattle.wt_step.specs.declared.raw.RawStep.{RawStep}
use Rattle.wt_step.specs.declared.raw.RawLink.TheVariants.{Marker}
use Rattle.wt_step.specs.Words.{image_at}
use Rattle.wt_step.specs.Blocks.{one_if}
use Rattle.wt_step.specs.Coarse.{cuts_low}
use Rattle.wt_step.specs.Carried.{lines_below}

-- the line of the pattern g at which block k of its cut core begins, where q has that cut core as its image
abbrev pub block_line : RawStep → Grid → Grid → ℕ → ℕ
block_line s g q k = s.radius + (one_if (cuts_low (Marker s) g) + lines_below s q k)

-- the point of cell j of that line, where g is the code at z
abbrev pub block_spot : RawStep → Partition → Spot → Grid → Grid → ℕ → ℕ → Spot
block_spot s p z g q k j = reached_along s.axis p.torus z (block_line s g q k) (s.radius + j)

-- At each block where the induced code is defined, the coarse tile is the one whose image is the induced letter's image.
abbrev pub Agrees : RawStep → Partition → Spot → Grid → Grid → Type 0
Agrees s p z g q = (k j n : ℕ) → k < along s.axis q → j < across s.axis q
    → letter (induced s.axis p) (block_spot s p z g q k j) ≡ One n
    → slice_get (images s.axis p) n ≡ Some (image_at s (at s.axis q k j))
