-- Images of patterns, and why a pattern has none.
use Rattle.std.specs.Prelude.{◌≡◌, ℕ, ◌+◌, Bool, true, false, ◌||◌, nat_lt, List, [], ◌∷◌, map, slice_index_or, Option, None, Some, Result, MatchResult, min, if◌then◌else◌}
use Rattle.wt_grid.specs.declared.image.Image.TheVariants as tiles
use Rattle.wt_grid.specs.declared.image.Image.{Image}
use Rattle.wt_grid.specs.declared.axis.Axis.TheVariants.{One, Two}
use Rattle.wt_grid.specs.declared.axis.Axis.{Axis}
use Rattle.std.specs.Option.{option_map}
use Rattle.wt_grid.specs.First.{or_else, first_from}
use Rattle.wt_grid.specs.Order.{agree}
use Rattle.wt_grid.specs.Grid.{Grid, cell, lines}
use Rattle.wt_grid.specs.Lines.{IsImage}
use Rattle.wt_grid.specs.Parts.{part}
use Rattle.wt_grid.specs.declared.limits.TheConstants.{MAX_SIDE}
use Rattle.wt_grid.specs.Images.{is_pair, image_grid, piece_at}
use Rattle.wt_morphism.specs.declared.image.Morphism.{Morphism}
use Rattle.wt_morphism.specs.declared.fault.ApplyFault.{ApplyFault}
use Rattle.wt_morphism.specs.declared.fault.ApplyFault.TheVariants.{Uneven, TooLarge, OutOfMemory}
use Rattle.wt_morphism.specs.declared.fault.CutFault.{CutFault}
use Rattle.wt_morphism.specs.declared.fault.CutFault.TheVariants as cut

-- what a tile stands for, as one number or two
abbrev pub piece : Image → Image
piece (tiles.One a) = tiles.One a
piece (tiles.Two a b) = tiles.Two a b

-- what each tile stands for
abbrev pub pieces : Morphism → List Image
pieces m = map piece m.table

-- the rectangle that p stands for, where each line of p is even
abbrev pub image : Morphism → Grid → Grid
image m p = image_grid m.axis (pieces m) p

-- the tile stands for two
abbrev pub is_two : Morphism → ℕ → Bool
is_two m tile = is_pair (piece (piece_at m.table tile))

-- the first cell of the line that cell (x, y) stands in: of its column for axis 1, of its row for axis 2
abbrev pub line_start : Axis → Grid → ℕ → ℕ → ℕ
line_start One p x y = cell p x 0
line_start Two p x y = cell p 0 y

-- cell (x, y), where its image is longer or shorter than that of the first cell of its line
abbrev pub uneven_at : Morphism → Grid → ℕ → ℕ → Option (ℕ × ℕ)
uneven_at m p y x = if agree (is_two m (cell p x y)) (is_two m (line_start m.axis p x y)) then None else Some (x, y)

-- the first such cell of row y
abbrev pub uneven_in : Morphism → Grid → ℕ → Option (ℕ × ℕ)
uneven_in m p y = first_from (uneven_at m p y) 0 p.width

-- the first such cell in reading order
unfoldable pub uneven : Morphism → Grid → Option (ℕ × ℕ)
uneven m p = first_from (uneven_in m p) 0 p.height

-- the rectangle is wider or higher than a pattern may be
abbrev pub is_too_large : Grid → Bool
is_too_large g = nat_lt MAX_SIDE g.width || nat_lt MAX_SIDE g.height

-- why p has no image within the limits of a pattern
abbrev pub apply_fault : Morphism → Grid → Option ApplyFault
apply_fault m p =
    or_else (option_map (λ at. Uneven at.0 at.1) (uneven m p))
    (if is_too_large (image m p) then Some TooLarge else None)

-- the refusal that comes, where there is a cause, and else that memory ran out
abbrev pub IsRefusal : Option ApplyFault → ApplyFault → Type 0
IsRefusal None e = e ≡ OutOfMemory
IsRefusal (Some cause) e = e ≡ cause

-- the same for parts of images
abbrev pub IsCutRefusal : Option (ℕ × ℕ) → CutFault → Type 0
IsCutRefusal None e = e ≡ cut.OutOfMemory
IsCutRefusal (Some at) e = e ≡ cut.Uneven at.0 at.1

-- the image by each in turn, the first of the list first
abbrev pub image_by_all : List Morphism → Grid → Grid
image_by_all [] p = p
image_by_all (m ∷ ms) p = image_by_all ms (image m p)

-- the first refusal that is met
abbrev pub apply_all_fault : List Morphism → Grid → Option ApplyFault
apply_all_fault [] p = None
apply_all_fault (m ∷ ms) p = or_else (apply_fault m p) (apply_all_fault ms (image m p))

-- a call refuses exactly where there is a cause, or where memory runs out and there is none
abbrev pub RefusesBy : {T : Type 0} → Result T ApplyFault → Option ApplyFault → Type 0
RefusesBy result cause = MatchResult result (λ _. cause ≡ None) (IsRefusal cause)

-- the same for parts of images
abbrev pub RefusesCutBy : {T : Type 0} → Result T CutFault → Option (ℕ × ℕ) → Type 0
RefusesCutBy result cause = MatchResult result (λ _. cause ≡ None) (IsCutRefusal cause)

-- what of g lies in w by h cells from its lower left corner on
abbrev pub corner_within : ℕ → ℕ → Grid → Grid
corner_within w h g = part g 0 0 (min w g.width) (min h g.height)

-- the lines of g are the images of the lines of q
abbrev pub IsLaid : Morphism → Grid → Grid → Type 0
IsLaid m q g = IsImage (pieces m) (lines m.axis q) (lines m.axis g)
