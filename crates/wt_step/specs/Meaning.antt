-- What a step means for rectangles.
use Rattle.std.specs.Prelude.{ℕ, ◌≡◌, ◌<◌, Bool, true, List, map}
use Rattle.wt_grid.specs.declared.image.Image.TheVariants as image
use Rattle.wt_grid.specs.declared.image.Image.{Image}
use Rattle.wt_grid.specs.declared.axis.Side.TheVariants.{After, Before}
use Rattle.wt_grid.specs.declared.axis.Side.{Side}
use Rattle.wt_grid.specs.declared.axis.Axis.TheVariants.{One}
use Rattle.wt_grid.specs.declared.axis.Axis.{Axis}
use Rattle.wt_step.specs.declared.raw.RawStep.{RawStep}
use Rattle.wt_step.specs.declared.raw.RawRestrict.{RawRestrict}
use Rattle.wt_step.specs.declared.raw.RawLink.{RawLink}
use Rattle.wt_step.specs.declared.raw.RawLink.TheVariants.{Marker, Restrict}
use Rattle.wt_morphism.specs.Images.{piece}
use Rattle.wt_step.specs.Words.{allows, is_marker}
use Rattle.wt_step.specs.Restrict.{is_kept}
use Rattle.wt_grid.specs.Lines.{IsImage}
use Rattle.wt_grid.specs.Grid.{Grid, cell, lines}
use Rattle.wt_grid.specs.Cuts.{cut}
use Rattle.wt_grid.specs.Parts.{core}

-- what a step allows, as a rule of matching
abbrev pub allowing : RawStep → Axis → ℕ → ℕ → Bool
allowing s axis = allows s axis

-- what the coarse tiles stand for
abbrev pub pieces : RawStep → List Image
pieces s = map piece s.images

-- the lines of the core, without border lines that no block holds
abbrev pub cut_core : RawStep → Grid → List (List ℕ)
cut_core s g = cut s.side (is_marker s) (lines s.axis (core s.radius g))

-- the coarse rectangle q has the cut core of g as its image
abbrev pub IsMarkerDesubstitution : RawStep → Grid → Grid → Type 0
IsMarkerDesubstitution s g q = IsImage (pieces s) (lines s.axis q) (cut_core s g)

-- Restrict steps.

-- each coarse tile stands for the fine tile that is kept at its place
abbrev pub kept_pieces : RawRestrict → List Image
kept_pieces s = map image.One s.kept

-- the coarse rectangle q has the whole core of g as its image
abbrev pub IsRestriction : RawRestrict → Grid → Grid → Type 0
IsRestriction s g q = IsImage (kept_pieces s) (lines One q) (lines One (core s.radius g))

-- each cell of a rectangle is a kept tile
abbrev pub IsAllKept : RawRestrict → Grid → Type 0
IsAllKept s g = (x y : ℕ) → x < g.width → y < g.height → is_kept s (cell g x y) ≡ true

-- what each coarse tile of a step of either kind stands for
abbrev pub pieces_of : RawLink → List Image
pieces_of (Marker s) = pieces s
pieces_of (Restrict s) = kept_pieces s
