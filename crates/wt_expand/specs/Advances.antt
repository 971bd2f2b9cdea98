-- Scaffolding: the counter goes to the next row, up or down: one bit flips, and all rows below its level are laid anew.
use Rattle.std.specs.Prelude.{◌≡◌, ℕ, ◌+◌, Bool, true, false, if◌then◌else◌, List, [], ◌∷◌, Option, None, Some}
use Rattle.wt_expand.specs.declared.advance.Direction.{Direction}
use Rattle.wt_expand.specs.declared.advance.Direction.TheVariants.{Up, Down}
use Rattle.wt_expand.specs.Levels.{Level}
use Rattle.wt_expand.specs.Rows.{Digit}
use Rattle.wt_expand.specs.LaidRows.{has_two, laid}

-- the bit of a level flips, its row becoming the other one of the two that the row above stands for: down from the upper one, up from the lower one
abbrev pub flips : Direction → List ℕ → Level → Digit → Digit → Bool
flips Up renaming level s above = if s.is_upper then false else has_two renaming level above.row
flips Down renaming level s above = s.is_upper

-- the bit after a flip
abbrev pub flipped : Direction → Bool
flipped Up = true
flipped Down = false

-- the bit of the row that is laid below a row that has changed: going up it is the lower row, going down the last one
abbrev pub follows : Direction → List ℕ → Level → List ℕ → Bool
follows Up renaming level row = false
follows Down renaming level row = has_two renaming level row

-- the first level, from the bottom, whose bit flips
abbrev pub flip_from : Direction → List ℕ → ℕ → List Level → List Digit → Option ℕ
flip_from direction renaming i [] ss = None
flip_from direction renaming i (level ∷ levels) [] = None
flip_from direction renaming i (level ∷ levels) (s ∷ []) = None
flip_from direction renaming i (level ∷ levels) (s ∷ t ∷ ss) = if flips direction renaming level s t then Some i else flip_from direction renaming (i + 1) levels (t ∷ ss)

-- a row is laid below the first of these digits
abbrev pub laid_over : ℕ → List ℕ → Level → Bool → List Digit → List Digit
laid_over w renaming level upper [] = []
laid_over w renaming level upper (t ∷ ss) = laid w renaming level t.row upper ∷ t ∷ ss

-- the same below a row that has changed, going up or down
abbrev pub laid_by : Direction → ℕ → List ℕ → Level → List Digit → List Digit
laid_by direction w renaming level [] = []
laid_by direction w renaming level (t ∷ ss) = laid w renaming level t.row (follows direction renaming level t.row) ∷ t ∷ ss

-- rows are laid below these digits, at one level after another
abbrev pub laid_under : Direction → ℕ → List ℕ → List Level → List Digit → List Digit
laid_under direction w renaming [] ss = ss
laid_under direction w renaming (level ∷ levels) ss = laid_by direction w renaming level (laid_under direction w renaming levels ss)

-- one row on
abbrev pub IsAdvanced : Direction → ℕ → ℕ → Type 0
IsAdvanced Up before now = now ≡ before + 1
IsAdvanced Down before now = now + 1 ≡ before

-- the last row in this direction, of n
abbrev pub IsLastRow : Direction → ℕ → ℕ → Type 0
IsLastRow Up rows y = y + 1 ≡ rows
IsLastRow Down rows y = y ≡ 0
