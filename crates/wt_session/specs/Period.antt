-- What `period P x y` answers.
use Rattle.std.specs.Prelude.{ℕ, ℤ, List, ◌++◌, codes, Option, None, Some, Result, Ok, Err}
use Rattle.std.specs.Fmt.{decimal}
use Rattle.wt_pattern.specs.Periods.{first_period_fault}
use Rattle.wt_session.specs.Sheets.{Laid}
use Rattle.wt_session.specs.Names.{Names}
use Rattle.wt_session.specs.Replies.{Reply, says, pattern_named}

-- the first cell that the vector takes to another tile
abbrev pub period_text : Option (ℕ × ℕ) → List ℕ
period_text None = codes "period\n"
period_text (Some at) = codes "fault at " ++ (decimal at.0 ++ (codes " " ++ (decimal at.1 ++ codes "\n")))

-- the pattern, or why there is none
abbrev pub period_of : ℤ → ℤ → Result Laid Reply → Reply
period_of dx dy (Err reply) = reply
period_of dx dy (Ok laid) = says (period_text (first_period_fault dx dy laid.pattern))

-- the reply of `period`: the first cell that the vector takes to another tile, or that it is a period
abbrev pub period_reply : Names → List ℕ → ℤ → ℤ → Reply
period_reply names p dx dy = period_of dx dy (pattern_named names p)
