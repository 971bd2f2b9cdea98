-- What is left of a text or of a line that is read from left to right.
use Rattle.std.specs.Prelude.{ℕ, List, [], nat_le, length, drop, if◌then◌else◌}
use Rattle.wt_text.specs.Words.{tokens}

-- the bytes that were not given yet, and the number of their first line
pub record Unread : Type 0 where
  pub bytes : List ℕ
  pub number : ℕ

-- a line, and the place where its next token starts
pub record Unsplit : Type 0 where
  pub line : List ℕ
  pub at : ℕ

-- the tokens from a place of a line on; there is none past its end
abbrev pub tokens_left : Unsplit → List (List ℕ)
tokens_left u = if nat_le u.at (length u.line) then tokens (drop u.at u.line) else []
