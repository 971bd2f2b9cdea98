-- Border lines that no block holds.
use Rattle.std.specs.Prelude.{ℕ, Bool, List, [], ◌∷◌, ◌++◌, map, if◌then◌else◌}
use Rattle.wt_grid.specs.declared.image.Image.TheVariants as image
use Rattle.wt_grid.specs.declared.image.Image.{Image}
use Rattle.wt_grid.specs.declared.axis.Side.TheVariants.{After, Before}
use Rattle.wt_grid.specs.declared.axis.Side.{Side}
use Rattle.wt_grid.specs.Lines.{Table, IsImage, is_marker_line, cut_end}

-- in the opposite order
abbrev pub backwards : {A : Type 0} → List A → List A
backwards [] = []
backwards (x ∷ xs) = backwards xs ++ x ∷ []

-- the relation read from its second number to its first
abbrev pub opposite : (ℕ → ℕ → Bool) → ℕ → ℕ → Bool
opposite f a b = f b a

-- less a first line that is a marker line
abbrev pub cut_front : (ℕ → Bool) → List (List ℕ) → List (List ℕ)
cut_front marker [] = []
cut_front marker (u ∷ ls) = if is_marker_line marker u then ls else u ∷ ls

-- the lines of whole blocks, where a block begins with a non-marker line
abbrev pub cut_lines : (ℕ → Bool) → List (List ℕ) → List (List ℕ)
cut_lines marker ls = cut_end marker (cut_front marker ls)

-- the lines of whole blocks
abbrev pub cut : Side → (ℕ → Bool) → List (List ℕ) → List (List ℕ)
cut After marker ls = cut_lines marker ls
cut Before marker ls = backwards (cut_lines marker (backwards ls))

-- the image with its two tiles exchanged
abbrev pub flip : Image → Image
flip (image.One a) = image.One a
flip (image.Two a b) = image.Two b a

-- what a step allows, read towards the markers
abbrev pub step_table : Side → (ℕ → ℕ → Bool) → (ℕ → ℕ → Bool) → (ℕ → Bool) → List Image → Table
step_table After along across marker images = record { marker = marker; along = along; across = across; images = images }
step_table Before along across marker images = record { marker = marker; along = opposite along; across = across; images = map flip images }

-- the lines without the last one
abbrev pub all_but_last : List (List ℕ) → List (List ℕ)
all_but_last [] = []
all_but_last (x ∷ []) = []
all_but_last (x ∷ y ∷ xs) = x ∷ all_but_last (y ∷ xs)

-- the lines without the first one
abbrev pub all_but_first : List (List ℕ) → List (List ℕ)
all_but_first [] = []
all_but_first (x ∷ xs) = xs

-- coarse lines, without the one at the open end
abbrev pub closed : Side → List (List ℕ) → List (List ℕ)
closed After qs = all_but_last qs
closed Before qs = all_but_first qs

-- the coarse lines on one side of a run fill the lines there, up to the cut
abbrev pub Fills : Side → (ℕ → Bool) → List Image → List (List ℕ) → List (List ℕ) → List (List ℕ) → List (List ℕ) → Type 0
Fills After marker images qa qb front back = IsImage images qa (cut_front marker front)
Fills Before marker images qa qb front back = IsImage images qb (backwards (cut_front marker (backwards back)))
