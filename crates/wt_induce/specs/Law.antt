-- What the coding law says: windows, blocks and codes along an axis.
use Rattle.std.specs.Prelude.{◌≡◌, ◌<◌, ◌≤◌, ℕ, None, ◌*ℤ◌, Bool, true, false, ◌&&◌, not}
use Rattle.wt_grid.specs.declared.axis.Axis.TheVariants.{One, Two}
use Rattle.wt_grid.specs.declared.axis.Axis.{Axis}
use Rattle.wt_golden.specs.Whole.{Whole, opposite, is_positive}
use Rattle.wt_golden.specs.Fractions.{Fraction, top}
use Rattle.wt_plane.specs.HalfPlanes.{Spot, IsSpot, x_of, y_of}
use Rattle.wt_grid.specs.Grid.{Grid, grid_of, along, across}
use Rattle.wt_morphism.specs.Images.{image, uneven}
use Rattle.wt_induce.specs.Induced.{morphism, induced}
use Rattle.wt_torus.specs.declared.partition.Partition.{Partition}
use Rattle.wt_torus.specs.Boxes.{Rotation, length_of, move_of, is_below}
use Rattle.wt_torus.specs.Rotation.{window, returns}
use Rattle.wt_torus.specs.Letters.{letter, number_in}
use Rattle.wt_torus.specs.Codes.{spread, reached, IsCode}
use Rattle.wt_torus.specs.Sound.{IsSound}
use Rattle.wt_induce.specs.Zones.{twice, frame_on}

-- twice the move is the length
abbrev pub is_half : Axis → Rotation → Bool
is_half axis r =
    not (is_below (top (twice (move_of axis r))) (twice (move_of axis r)).d (length_of axis r))
    && not (is_below (top (length_of axis r)) (length_of axis r).d (twice (move_of axis r)))

-- the coordinate along the axis
abbrev pub along_of : Axis → Spot → Whole
along_of One z = z.x
along_of Two z = z.y

-- that coordinate in lowest terms
abbrev pub coordinate_of : Axis → Spot → Fraction
coordinate_of One z = x_of z
coordinate_of Two z = y_of z

-- from 0 on, and below the size of the window
pub record IsInWindow (axis : Axis) (r : Rotation) (z : Spot) : Type 0 where
  pub from : is_positive (opposite (along_of axis z)) ≡ false
  pub below : is_below (along_of axis z) z.d (frame_on axis r).size ≡ true

-- how many lines n blocks fill: the turns up to the n-th return to the window
abbrev pub lines_in : Fraction → Fraction → Fraction → ℕ → ℕ
lines_in length move t n =
    returns (window (spread length (move.d *ℤ t.d)) (spread move (length.d *ℤ t.d))) (spread length (move.d *ℤ t.d)) (spread move (length.d *ℤ t.d)) (spread t (length.d *ℤ move.d)) n

-- how many lines n blocks fill from the point on
abbrev pub block_lines : Axis → Rotation → Spot → ℕ → ℕ
block_lines axis r z n = lines_in (length_of axis r) (move_of axis r) (coordinate_of axis z) n

-- the point after i turns along the axis and j across it
abbrev pub reached_along : Axis → Rotation → Spot → ℕ → ℕ → Spot
reached_along One r z i j = reached r z i j
reached_along Two r z i j = reached r z j i

-- the letters of n turns along the axis, in h lines across it
abbrev pub code_along : Axis → Partition → Spot → ℕ → ℕ → Grid
code_along One p z n h = grid_of n h (λ i j. number_in (letter p (reached p.torus z i j)))
code_along Two p z n h = grid_of h n (λ i j. number_in (letter p (reached p.torus z i j)))

-- the code of the partition on the lines that the blocks of q fill is the image of q under the induced morphism
pub record IsCodedByBlocks (axis : Axis) (p : Partition) (z : Spot) (q : Grid) : Type 0 where
  pub code : IsCode p z (code_along axis p z (block_lines axis p.torus z (along axis q)) (across axis q))
  pub even : uneven (morphism axis p) q ≡ None
  pub image : code_along axis p z (block_lines axis p.torus z (along axis q)) (across axis q) ≡ image (morphism axis p) q

-- a sound partition whose move along the axis isn't half of the side, and a point of the window
pub record HasReturns (axis : Axis) (p : Partition) (z : Spot) : Type 0 where
  pub sound : IsSound p
  pub apart : is_half axis p.torus ≡ false
  pub spot : IsSpot z
  pub inside : IsInWindow axis p.torus z

-- the point has returns and the code g, and n blocks, one or more, end before the last line of g
pub record HasBlocks (axis : Axis) (p : Partition) (z : Spot) (n : ℕ) (g : Grid) : Type 0 where
  pub returns : HasReturns axis p z
  pub code : IsCode p z g
  pub some : 1 ≤ n
  pub before : block_lines axis p.torus z n < along axis g

-- q is the code of a point under the induced partition
abbrev pub IsInducedCode : Axis → Partition → Spot → Grid → Type 0
IsInducedCode axis p z q = IsCode (induced axis p) z q

-- the letters of n blocks, in as many lines across the axis as g has
abbrev pub block_code : Axis → Partition → Spot → ℕ → Grid → Grid
block_code axis p z n g = code_along axis (induced axis p) z n (across axis g)
