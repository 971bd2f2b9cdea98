-- Scaffolding: the letters of cells, by the coordinates of their columns and rows.
use Rattle.std.specs.Prelude.{ℕ, ◌*◌, ◌/◌, ◌%◌, List, length, slice_index_or, Option, None, Some}
use Rattle.wt_golden.specs.Fractions.{Fraction}
use Rattle.wt_plane.specs.HalfPlanes.{spot}
use Rattle.wt_grid.specs.First.{first_from}
use Rattle.wt_grid.specs.Grid.{listed}
use Rattle.wt_torus.specs.declared.letter.Letter.{Letter}
use Rattle.wt_torus.specs.declared.coded.CodeFault.{CodeFault}
use Rattle.wt_torus.specs.declared.partition.Partition.{Partition}
use Rattle.wt_torus.specs.Letters.{number_in}
use Rattle.wt_torus.specs.Codes.{letter_within, letter_fault}

-- the letter of the point (x, y), where both are within the limit and so is the point
abbrev pub letter_at : Partition → Option Fraction → Option Fraction → Option Letter
letter_at p (Some x) (Some y) = letter_within p (spot x y)
letter_at p (Some x) None = None
letter_at p None y = None

-- the label of a letter, where there is one
abbrev pub label_in : Option Letter → ℕ
label_in None = 0
label_in (Some x) = number_in x

-- the letter of cell i of a row, from the coordinates of the columns and that of the row
abbrev pub place_letter : Partition → List (Option Fraction) → Option Fraction → ℕ → Option Letter
place_letter p xs y i = letter_at p (slice_index_or xs i None) y

-- its fault in row j
abbrev pub place_fault : Partition → List (Option Fraction) → Option Fraction → ℕ → ℕ → Option CodeFault
place_fault p xs y j i = letter_fault i j (place_letter p xs y i)

-- its label
abbrev pub place_label : Partition → List (Option Fraction) → Option Fraction → ℕ → ℕ
place_label p xs y i = label_in (place_letter p xs y i)

-- the first fault of row j
abbrev pub line_fault : Partition → List (Option Fraction) → List (Option Fraction) → ℕ → Option CodeFault
line_fault p xs ys j = first_from (place_fault p xs (slice_index_or ys j None) j) 0 (length xs)

-- the label of cell k, counted row by row
abbrev pub index_label : Partition → List (Option Fraction) → List (Option Fraction) → ℕ → ℕ → ℕ
index_label p xs ys w k = place_label p xs (slice_index_or ys (k / w) None) (k % w)

-- the label of cell i of row j, from the coordinates of the columns and rows
abbrev pub label_at : Partition → List (Option Fraction) → List (Option Fraction) → ℕ → ℕ → ℕ
label_at p xs ys j = place_label p xs (slice_index_or ys j None)

-- its fault
abbrev pub fault_at : Partition → List (Option Fraction) → List (Option Fraction) → ℕ → ℕ → Option CodeFault
fault_at p xs ys j = place_fault p xs (slice_index_or ys j None) j

-- the labels of row j
abbrev pub line_labels : Partition → List (Option Fraction) → List (Option Fraction) → ℕ → List ℕ
line_labels p xs ys j = listed (length xs) (label_at p xs ys j)

-- the labels of all cells, row by row
abbrev pub all_labels : Partition → List (Option Fraction) → List (Option Fraction) → List ℕ
all_labels p xs ys = listed (length ys * length xs) (index_label p xs ys (length xs))

-- the first fault of all rows
abbrev pub lines_fault : Partition → List (Option Fraction) → List (Option Fraction) → Option CodeFault
lines_fault p xs ys = first_from (line_fault p xs ys) 0 (length ys)
