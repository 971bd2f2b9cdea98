-- Patterns that coarse patterns stand for, and patterns of a given size.
use Rattle.std.specs.Prelude.{◌≡◌, ℕ, ◌+◌, ◌*◌, ◌≤◌, false, List}
use Rattle.wt_chain.specs.Growth.{is_along}
use Rattle.wt_tile.specs.declared.tile.Tile.{Tile}
use Rattle.wt_pattern.specs.Patterns.{IsPattern}
use Rattle.wt_grid.specs.Grid.{Grid, along, across, lines}
use Rattle.wt_grid.specs.Lines.{IsImage}
use Rattle.wt_step.specs.declared.raw.RawLink.{RawLink}
use Rattle.wt_step.specs.Links.{fine_of}
use Rattle.wt_step.specs.Meaning.{pieces, pieces_of}
use Rattle.wt_chain.specs.Turns.{axis_of, image_under, turned_times}
use Rattle.wt_tile.specs.declared.tile.TileList.{TileList}
use Rattle.wt_grid.specs.Images.{image_grid}
use Rattle.wt_step.specs.declared.raw.RawStep.{RawStep}

-- The rectangle that a coarse pattern stands for by a step: it is valid, equally large across the axis of the images, and along it at least as large, at most twice, and equally large where each image is a single tile.
pub record HasValidImage (l : RawLink) (q : Grid) : Type 0 where
  pub pattern : IsPattern (fine_of l).tiles (image_under l q)
  pub image : IsImage (pieces_of l) (lines (axis_of l) q) (lines (axis_of l) (image_under l q))
  pub as_wide : across (axis_of l) (image_under l q) ≡ across (axis_of l) q
  pub longer : along (axis_of l) q ≤ along (axis_of l) (image_under l q)
  pub twice : along (axis_of l) (image_under l q) ≤ along (axis_of l) q + along (axis_of l) q
  pub single : is_along (axis_of l) l ≡ false → along (axis_of l) (image_under l q) ≡ along (axis_of l) q

-- the rectangle that a coarse pattern stands for by a marker step: it is valid, and its lines are the image of the pattern's
abbrev pub HasMarkerImage : RawStep → Grid → Type 0
HasMarkerImage s q = IsPattern s.fine.tiles (image_grid s.axis (pieces s) q)
    × IsImage (pieces s) (lines s.axis q) (lines s.axis (image_grid s.axis (pieces s) q))

-- a valid pattern with the sides of another
pub record IsSameSized (tiles : List Tile) (g h : Grid) : Type 0 where
  pub pattern : IsPattern tiles h
  pub wide : h.width ≡ g.width
  pub high : h.height ≡ g.height

-- a valid pattern with sides at least twice those of another
pub record IsTwiceSized (tiles : List Tile) (g h : Grid) : Type 0 where
  pub pattern : IsPattern tiles h
  pub wide : 2 * g.width ≤ h.width
  pub high : 2 * g.height ≤ h.height

-- what e turns of a loop make of a valid pattern over its first set is valid over the same set, and at least twice as wide and high
abbrev pub HasDoubling : TileList → List RawLink → List ℕ → ℕ → Type 0
HasDoubling set loop renaming e = (g : Grid) → IsPattern set.tiles g → IsTwiceSized set.tiles g (turned_times loop renaming e g)

-- a valid pattern of w by h cells
pub record IsPatternOf (tiles : List Tile) (w h : ℕ) (g : Grid) : Type 0 where
  pub pattern : IsPattern tiles g
  pub wide : g.width ≡ w
  pub high : g.height ≡ h

-- there is a valid pattern of w by h cells
pub record HasPattern (tiles : List Tile) (w h : ℕ) : Type 0 where
  pub grid : Grid
  pub sized : IsPatternOf tiles w h grid
