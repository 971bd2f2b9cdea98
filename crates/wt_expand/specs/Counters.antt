-- Scaffolding: the levels that a counter has, and its digits.
use Rattle.std.specs.Prelude.{◌≡◌, ℕ, ◌*◌, Bool, List, [], drop, slice_get, slice_index_or, Some}
use Rattle.wt_grid.specs.declared.image.Image.{Image}
use Rattle.wt_expand.specs.declared.counter.Counter.{Counter}
use Rattle.wt_expand.specs.declared.counter.LevelRef.{LevelRef}
use Rattle.wt_expand.specs.Levels.{Level, levels, rows_below}
use Rattle.wt_expand.specs.Rows.{Digit, bit}
use Rattle.wt_expand.specs.LaidRows.{has_two, laid}
use Rattle.wt_expand.specs.Blocks.{digit_of, digits, piece_under}

-- a level that the code holds
abbrev pub level_of : LevelRef → Level
level_of r = record { link = r.link.now; renames = r.renames }

-- the levels of the counter, the one next to the first set first
abbrev pub counter_levels : Counter → List Level
counter_levels counter = levels counter.steps.now counter.start counter.turns

-- the digits from level i on, as they lie in a space
abbrev pub digits_at : Counter → ℕ → List ℕ → List Digit
digits_at counter i space = digits counter.block (drop i (counter_levels counter)) (drop (i * counter.block) space)

-- this holds of level i
abbrev pub HasLevel : Counter → ℕ → (Level → Type 0) → Type 0
HasLevel counter i holds = (level : Level) → slice_get (counter_levels counter) i ≡ Some level → holds level

-- the row of level i
abbrev pub row_at_level : Counter → ℕ → List ℕ → List ℕ
row_at_level counter i space = (digit_of (drop (i * counter.block) space)).row

-- what a tile of the row above a level stands for
abbrev pub piece_at_level : Counter → LevelRef → ℕ → Image
piece_at_level counter level t = piece_under counter.renaming.now (level_of level) t

-- whether a row above a level stands for two rows
abbrev pub has_two_at : Counter → LevelRef → List ℕ → Bool
has_two_at counter level above = has_two counter.renaming.now (level_of level) above

-- the lower or the upper row that a row above a level stands for
abbrev pub row_laid_at : Counter → LevelRef → List ℕ → Bool → List ℕ
row_laid_at counter level above upper = slice_index_or (rows_below counter.renaming.now (level_of level) above) (bit upper) []

-- the same row as a digit, kept w cells
abbrev pub digit_laid_at : ℕ → Counter → LevelRef → List ℕ → Bool → Digit
digit_laid_at w counter level above upper = laid w counter.renaming.now (level_of level) above upper
