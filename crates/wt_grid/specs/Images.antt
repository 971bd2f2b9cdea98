-- Images of coarse lines and of coarse rectangles, computed from the pieces of their tiles.
use Rattle.std.specs.Prelude.{◌≡◌, ℕ, ◌<◌, ◌++◌, Bool, true, false, if◌then◌else◌, List, [], ◌∷◌, map, slice_index_or}
use Rattle.wt_grid.specs.declared.image.Image.TheVariants as image
use Rattle.wt_grid.specs.declared.image.Image.{Image}
use Rattle.wt_grid.specs.declared.axis.Axis.{Axis}
use Rattle.wt_grid.specs.Grid.{Grid, across, lines, of_lines}

-- the piece that a coarse tile stands for
abbrev pub piece_at : List Image → ℕ → Image
piece_at images i = slice_index_or images i (image.One 0)

-- the first tile of an image, the left or the lower one
abbrev pub first_tile : Image → ℕ
first_tile (image.One a) = a
first_tile (image.Two a b) = a

-- the last tile of an image: of one tile, that tile
abbrev pub last_tile : Image → ℕ
last_tile (image.One a) = a
last_tile (image.Two a b) = b

-- the image has two tiles
abbrev pub is_pair : Image → Bool
is_pair (image.One a) = false
is_pair (image.Two a b) = true

-- the first tiles of the images of a line
abbrev pub firsts : List Image → List ℕ → List ℕ
firsts images q = map (λ i. first_tile (piece_at images i)) q

-- the last tiles of the images of a line
abbrev pub lasts : List Image → List ℕ → List ℕ
lasts images q = map (λ i. last_tile (piece_at images i)) q

-- whether a coarse line stands for two lines: where its first tile stands for two
abbrev pub is_double : List Image → List ℕ → Bool
is_double images [] = false
is_double images (i ∷ is) = is_pair (piece_at images i)

-- the one or two lines that a coarse line stands for
abbrev pub line_image : List Image → List ℕ → List (List ℕ)
line_image images q = if is_double images q then firsts images q ∷ lasts images q ∷ [] else firsts images q ∷ []

-- the lines that coarse lines stand for
abbrev pub image_lines : List Image → List (List ℕ) → List (List ℕ)
image_lines images [] = []
image_lines images (q ∷ qs) = line_image images q ++ image_lines images qs

-- all tiles of a line stand for a pair, or none does
abbrev pub IsEvenLine : List Image → Bool → List ℕ → Type 0
IsEvenLine images b [] = Unit {0}
IsEvenLine images b (i ∷ is) = (is_pair (piece_at images i) ≡ b) × IsEvenLine images b is

-- in each line the images have one length
abbrev pub IsEven : List Image → List (List ℕ) → Type 0
IsEven images [] = Unit {0}
IsEven images (q ∷ qs) = IsEvenLine images (is_double images q) q × IsEven images qs

-- each number of each line is below n
abbrev pub LineBelow : ℕ → List ℕ → Type 0
LineBelow n [] = Unit {0}
LineBelow n (a ∷ as') = (a < n) × LineBelow n as'

-- each number of all lines is below n
abbrev pub LinesBelow : ℕ → List (List ℕ) → Type 0
LinesBelow n [] = Unit {0}
LinesBelow n (u ∷ ls) = LineBelow n u × LinesBelow n ls

-- the rectangle that a coarse rectangle stands for, where its lines are even
abbrev pub image_grid : Axis → List Image → Grid → Grid
image_grid axis images g = of_lines axis (across axis g) (image_lines images (lines axis g))

-- the piece's tiles are below n
abbrev pub PieceBelow : ℕ → Image → Type 0
PieceBelow n (image.One a) = a < n
PieceBelow n (image.Two a b) = (a < n) × (b < n)
