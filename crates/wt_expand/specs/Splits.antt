-- Scaffolding: a counter that keeps one cell of each of its lowest rows, and w cells of the others.
use Rattle.std.specs.Prelude.{◌≡◌, ℕ, ◌+◌, nat_lt, if◌then◌else◌, List, [], ◌∷◌, take}
use Rattle.wt_expand.specs.declared.advance.Direction.{Direction}
use Rattle.wt_expand.specs.Levels.{Level}
use Rattle.wt_expand.specs.Rows.{Digit, AreDigits}
use Rattle.wt_expand.specs.Advances.{laid_by}
use Rattle.wt_expand.specs.declared.counter.Counter.{Counter}
use Rattle.wt_expand.specs.Counters.{counter_levels, digits_at}
use Rattle.wt_expand.specs.Words.{row_by_words}

-- a digit whose row is kept one cell
abbrev pub thin : Digit → Digit
thin s = record { row = take 1 s.row; is_upper = s.is_upper }

-- how many cells are kept of the row of level i, where the rows of the lowest levels are kept one
abbrev pub cells_kept : ℕ → ℕ → ℕ → ℕ
cells_kept low w i = if nat_lt i low then 1 else w

-- the digit of level i, where the rows of the lowest levels are kept one cell
abbrev pub thin_below : ℕ → ℕ → Digit → Digit
thin_below low i s = if nat_lt i low then thin s else s

-- the same of the digits from level i on
abbrev pub split_from : ℕ → ℕ → List Digit → List Digit
split_from low i [] = []
split_from low i (s ∷ ss) = thin_below low i s ∷ split_from low (i + 1) ss

-- rows are laid below these digits, at one level after another up from level i, as many cells of each as are kept
abbrev pub split_under : Direction → ℕ → ℕ → List ℕ → ℕ → List Level → List Digit → List Digit
split_under direction low w renaming i [] ss = ss
split_under direction low w renaming i (level ∷ levels) ss = laid_by direction (cells_kept low w i) renaming level (split_under direction low w renaming (i + 1) levels ss)

-- the digits of a counter, of which one cell is kept of each row below level `low`, and w cells of the others
pub record AreSplit (low w : ℕ) (renaming : List ℕ) (levels : List Level) (ss : List Digit) : Type 0 where
  -- the digits with w cells of each row
  pub whole : List Digit
  pub fits : AreDigits w renaming levels whole
  pub split : ss ≡ split_from low 0 whole

-- the space holds such digits
abbrev pub HasSplit : ℕ → ℕ → Counter → List ℕ → Type 0
HasSplit low w counter space = AreSplit low w counter.renaming.now (counter_levels counter) (digits_at counter 0 space)

-- the digits once the rows below level j are laid
abbrev pub laid_below : Direction → ℕ → ℕ → Counter → ℕ → List ℕ → List Digit
laid_below direction low w counter j space = split_under direction low w counter.renaming.now 0 (take j (counter_levels counter)) (digits_at counter j space)

-- the row that is due, w cells of it, laid of the row of level `low` alone
abbrev pub row_due : ℕ → ℕ → Counter → List ℕ → List ℕ
row_due low w counter space = row_by_words w counter.renaming.now (counter_levels counter) low (digits_at counter 0 space)
