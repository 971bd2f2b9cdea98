-- The lines of a text.
use Rattle.std.specs.Prelude.{◌≡◌, ℕ, Bool, true, false, nat_eq, if◌then◌else◌, List, [], ◌∷◌, ◌++◌}
use Rattle.wt_text.specs.Words.{spaced}

-- the bytes of a line, and whether a newline ends it
pub record Line : Type 0 where
  pub text : List ℕ
  pub ended : Bool

-- a byte in front of the first line
abbrev pub in_line : ℕ → List Line → List Line
in_line b [] = record { text = b ∷ []; ended = false } ∷ []
in_line b (l ∷ ls) = record { text = b ∷ l.text; ended = l.ended } ∷ ls

-- the lines of a text: each newline ends one, and what is left is a line that none ends
abbrev pub lines : List ℕ → List Line
lines [] = []
lines (b ∷ bs) = if nat_eq b 10 then record { text = []; ended = true } ∷ lines bs else in_line b (lines bs)

-- the line of some tokens
abbrev pub line_of : List (List ℕ) → Line
line_of ts = record { text = spaced ts; ended = true }

-- the bytes of lines
abbrev pub bytes_of : List Line → List ℕ
bytes_of [] = []
bytes_of (l ∷ ls) = l.text ++ (if l.ended then 10 ∷ bytes_of ls else bytes_of ls)
