-- Rectangles and lines that repeat themselves at a distance.
use Rattle.std.specs.Prelude.{◌≡◌, ℕ, ◌+◌, ◌<◌, Bool, if◌then◌else◌, List, [], ◌∷◌, drop}
use Rattle.wt_grid.specs.declared.axis.Axis.{Axis}
use Rattle.wt_grid.specs.Grid.{Grid, along, across, at}
use Rattle.wt_grid.specs.Lines.{Shift}

-- two lists agree as far as both go
abbrev pub Same : List ℕ → List ℕ → Type 0
Same [] ys = Unit {0}
Same (x ∷ xs) [] = Unit {0}
Same (x ∷ xs) (y ∷ ys) = (x ≡ y) × Same xs ys

-- the second line has behind its first b cells what the first has behind its first a cells
abbrev pub Meets : ℕ → ℕ → List ℕ → List ℕ → Type 0
Meets a b u v = Same (drop a u) (drop b v)

-- each line meets the line d lines on
abbrev pub Repeats : ℕ → ℕ → ℕ → List (List ℕ) → Type 0
Repeats a b d ls = Shift (Meets a b) ls (drop d ls)

-- how much the lines of a list fill, where f says it of one
abbrev pub fill : (List ℕ → ℕ) → List (List ℕ) → ℕ
fill f [] = 0
fill f (q ∷ qs) = f q + fill f qs

-- Each cell is that d lines on and b - a places along the line: a vector, said without signs (a or b is 0).
abbrev pub IsRepeated : Axis → ℕ → ℕ → ℕ → Grid → Type 0
IsRepeated axis d a b g = (i j : ℕ) → i + d < along axis g → j + a < across axis g → j + b < across axis g → at axis g i (j + a) ≡ at axis g (i + d) (j + b)

-- A vector as two lengths, one along the axis and one across it, and whether they have opposite signs: it is a period where each two cells that lie so apart are the same. A vector and its opposite say one thing.
abbrev pub HasVector : Axis → Bool → ℕ → ℕ → Grid → Type 0
HasVector axis opposed d e g = IsRepeated axis d (if opposed then e else 0) (if opposed then 0 else e) g
