-- Runs of cells in coarse rectangles, followed down to the cells that they stand for.
use Rattle.std.specs.Prelude.{◌≡◌, ℕ, ◌+◌, ◌<◌, ◌≤◌, Bool, List, [], ◌∷◌, length, map, slice_index}
use Rattle.wt_grid.specs.declared.image.Image.TheVariants as image
use Rattle.wt_grid.specs.declared.image.Image.{Image}
use Rattle.wt_grid.specs.declared.axis.Axis.{Axis}
use Rattle.wt_grid.specs.Grid.{Grid, along, across, at, listed}
use Rattle.wt_grid.specs.Images.{piece_at, first_tile}
use Rattle.wt_grid.specs.Widths.{Stage, last_row}

-- n cells along the axis, from line i on, at place j of each line
abbrev pub segment : Axis → Grid → ℕ → ℕ → ℕ → List ℕ
segment axis g i j n = listed n (λ k. at axis g (i + k) j)

-- the cells at place j of lines
abbrev pub cells_at : ℕ → List (List ℕ) → List ℕ
cells_at j ls = map (λ u. slice_index u j) ls

-- the one or two tiles of an image, in their order
abbrev pub piece_tiles : Image → List ℕ
piece_tiles (image.One a) = a ∷ []
piece_tiles (image.Two a b) = a ∷ b ∷ []

-- a stage gives each tile its piece
pub record IsStageOf (b : Bool) (images : List Image) (s : Stage) : Type 0 where
  pub axis : s.is_along ≡ b
  pub pieces : (t : ℕ) → s.pieces t ≡ piece_tiles (piece_at images t)
  pub first : (t : ℕ) → s.first t ≡ first_tile (piece_at images t)

-- wherever a run of d cells begins, it stands for a run of d0 cells behind these stages
abbrev pub IsTraced : Axis → List Stage → ℕ → Grid → ℕ → Type 0
IsTraced axis ss d0 g d = (i j : ℕ) → i + d ≤ along axis g → j < across axis g → length (last_row ss (segment axis g i j d)) ≡ d0
