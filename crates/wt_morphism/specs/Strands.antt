-- Scaffolding: the lines of an image, each with the line of the pattern that it comes from.
use Rattle.std.specs.Prelude.{ℕ, zero, suc, ◌+◌, ◌/◌, ◌%◌, Bool, true, false, List, [], ◌∷◌, slice_index_or, if◌then◌else◌}
use Rattle.wt_grid.specs.Images.{piece_at}
use Rattle.wt_grid.specs.declared.image.Image.TheVariants as image
use Rattle.wt_grid.specs.declared.image.Image.{Image}
use Rattle.wt_grid.specs.declared.axis.Axis.TheVariants.{One, Two}
use Rattle.wt_grid.specs.declared.axis.Axis.{Axis}
use Rattle.wt_grid.specs.Grid.{Grid, along, at}
use Rattle.wt_morphism.specs.declared.image.Morphism.{Morphism}
use Rattle.wt_morphism.specs.declared.laid.Strand.{Strand}
use Rattle.wt_morphism.specs.Images.{is_two}

-- of n lines from line i on, each stands for its first line, or for its first and its second
abbrev pub strands : (ℕ → Bool) → ℕ → ℕ → List Strand
strands two i zero = []
strands two i (suc n) = (record { line = i; second = false }) ∷ (if two i then (record { line = i; second = true }) ∷ strands two (i + 1) n else strands two (i + 1) n)

-- the line stands for two, as its first tile does
abbrev pub line_is_two : Morphism → Grid → ℕ → Bool
line_is_two m p i = is_two m (at m.axis p i 0)

-- the lines of the image
abbrev pub all_strands : Morphism → Grid → List Strand
all_strands m p = strands (line_is_two m p) 0 (along m.axis p)

-- the first or the second tile of an image
abbrev pub tile_of : Bool → Image → ℕ
tile_of second (image.One a) = a
tile_of second (image.Two a b) = if second then b else a

-- cell j of a line of the image
abbrev pub strand_cell : Morphism → Grid → Strand → ℕ → ℕ
strand_cell m p s j = tile_of s.second (piece_at m.table (at m.axis p s.line j))

-- line i of the image
abbrev pub strand_at : List Strand → ℕ → Strand
strand_at ss i = slice_index_or ss i (record { line = 0; second = false })

-- the line and the place in it of cell (x, y)
abbrev pub line_and_place : Axis → ℕ → ℕ → ℕ × ℕ
line_and_place One x y = (x, y)
line_and_place Two x y = (y, x)

-- cell (x, y) of the image with these lines
abbrev pub laid : Morphism → Grid → List Strand → ℕ → ℕ → ℕ
laid m p ss x y = strand_cell m p (strand_at ss (line_and_place m.axis x y).0) (line_and_place m.axis x y).1

-- row y of it, cell by cell
abbrev pub laid_row : Morphism → Grid → List Strand → ℕ → ℕ → ℕ
laid_row m p ss y x = laid m p ss x y

-- the cells of its first w columns in reading order, numbered from 0
abbrev pub laid_index : Morphism → Grid → List Strand → ℕ → ℕ → ℕ
laid_index m p ss w k = laid m p ss (k % w) (k / w)
