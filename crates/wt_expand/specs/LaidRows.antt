-- Scaffolding: which rows are laid below a row.
use Rattle.std.specs.Prelude.{◌≡◌, ℕ, Bool, false, List, [], ◌∷◌, take, slice_index_or}
use Rattle.wt_grid.specs.declared.image.Image.{Image}
use Rattle.wt_grid.specs.declared.axis.Axis.TheVariants.{One, Two}
use Rattle.wt_grid.specs.declared.axis.Axis.{Axis}
use Rattle.wt_grid.specs.Images.{is_double}
use Rattle.wt_step.specs.Meaning.{pieces_of}
use Rattle.wt_chain.specs.Turns.{axis_of}
use Rattle.wt_expand.specs.Levels.{Level, named_row, rows_below}
use Rattle.wt_expand.specs.Rows.{Digit, bit}

-- whether a row stands for two rows: along axis 2, where its first tile stands for two
abbrev pub lays_two : Axis → List Image → List ℕ → Bool
lays_two One images row = false
lays_two Two images row = is_double images row

-- the same at a level
abbrev pub has_two : List ℕ → Level → List ℕ → Bool
has_two renaming level row = lays_two (axis_of level.link) (pieces_of level.link) (named_row renaming level row)

-- the lower or the upper row that a row stands for, kept w cells
abbrev pub laid : ℕ → List ℕ → Level → List ℕ → Bool → Digit
laid w renaming level row upper = record { row = take w (slice_index_or (rows_below renaming level row) (bit upper) []); is_upper = upper }

-- the last row that a row stands for
abbrev pub last_laid : ℕ → List ℕ → Level → List ℕ → Digit
last_laid w renaming level row = laid w renaming level row (has_two renaming level row)

-- no row is the upper one of two
abbrev pub AreLower : List Level → List Digit → Type 0
AreLower [] ss = Unit {0}
AreLower (level ∷ levels) [] = Unit {0}
AreLower (level ∷ levels) (s ∷ ss) = (s.is_upper ≡ false) × AreLower levels ss

-- each row is the last one that the row above stands for
abbrev pub AreLast : List ℕ → List Level → List Digit → Type 0
AreLast renaming [] ss = Unit {0}
AreLast renaming (level ∷ levels) [] = Unit {0}
AreLast renaming (level ∷ levels) (s ∷ []) = Unit {0}
AreLast renaming (level ∷ levels) (s ∷ t ∷ ss) = (s.is_upper ≡ has_two renaming level t.row) × AreLast renaming levels (t ∷ ss)
