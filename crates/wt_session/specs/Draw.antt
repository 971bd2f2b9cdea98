-- What `draw P numbers` and `draw P boxes` answer.
use Rattle.std.specs.Prelude.{ℕ, List, codes, Option, None, Some, Result, Ok, Err}
use Rattle.wt_pattern.specs.declared.drawing.Style.{Style}
use Rattle.wt_pattern.specs.Drawings.{drawing_of}
use Rattle.wt_session.specs.Sheets.{Laid}
use Rattle.wt_session.specs.Names.{Names}
use Rattle.wt_session.specs.Replies.{Reply, says, refused, pattern_named}

-- boxes ask for a set
abbrev pub drawn : Option (List ℕ) → Reply
drawn None = refused (codes "refused no set\n")
drawn (Some text) = says text

-- the pattern, or why there is none
abbrev pub draw_of : Style → Result Laid Reply → Reply
draw_of style (Err reply) = reply
draw_of style (Ok laid) = drawn (drawing_of laid.over laid.pattern style)

-- the reply of `draw`: the drawing of the pattern
abbrev pub draw_reply : Names → List ℕ → Style → Reply
draw_reply names p style = draw_of style (pattern_named names p)
