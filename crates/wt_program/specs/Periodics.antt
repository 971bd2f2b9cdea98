-- What `periodic N B` replies to the bytes of a tile set.
use Rattle.std.specs.Prelude.{◌≡◌, ℕ, List, ◌++◌, codes, Option, None, Some, Result, Ok, Err}
use Rattle.std.specs.Fmt.{decimal}
use Rattle.wt_text.specs.Words.{value_from}
use Rattle.wt_text.specs.Lines.{lines, bytes_of}
use Rattle.wt_text.specs.Readers.{whole_text}
use Rattle.wt_grid.specs.Grid.{Grid}
use Rattle.wt_tile.specs.declared.tile.Tile.{Tile}
use Rattle.wt_pattern.specs.PatternRows.{pattern_lines}
use Rattle.wt_periodic.specs.declared.least.WrapEnd.{WrapEnd}
use Rattle.wt_periodic.specs.declared.least.WrapEnd.TheVariants as end
use Rattle.wt_periodic.specs.Least.{MayAnswerWrap}
use Rattle.wt_program.specs.declared.reply.Reply.{Reply}
use Rattle.wt_program.specs.declared.reply.Reply.TheVariants.{Answered, Spent}
use Rattle.wt_program.specs.SetTexts.{set_part, IsSetReply}

-- a rectangle that wraps round: its width and height, and its rows, the top one first
abbrev pub wrap_text : Grid → List ℕ
wrap_text g = codes "wrap " ++ (decimal g.width ++ (codes " " ++ (decimal g.height ++ (codes "\n" ++ bytes_of (pattern_lines g)))))

-- there is none of a width and a height up to this limit
abbrev pub none_text : ℕ → List ℕ
none_text limit = codes "none " ++ (decimal limit ++ codes "\n")

-- the budget was spent on the search of this size
abbrev pub spent_text : ℕ → ℕ → List ℕ
spent_text w h = codes "spent size " ++ (decimal w ++ (codes " " ++ (decimal h ++ codes "\n")))

-- what is replied to the answer of a search; running out of memory has no reply
abbrev pub IsToldWrap : ℕ → Result (Option Grid) WrapEnd → Reply → Type 0
IsToldWrap limit (Ok (Some g)) reply = reply ≡ Answered (wrap_text g)
IsToldWrap limit (Ok None) reply = reply ≡ Answered (none_text limit)
IsToldWrap limit (Err (end.Spent w h)) reply = reply ≡ Spent (spent_text w h)
IsToldWrap limit (Err end.OutOfMemory) reply = ⊥

-- The reply to the tiles of a set: what a search of the sizes up to the limit may answer. So status 6 comes always at budget 0, and else only where the named size has more trials than the budget and no earlier size has a rectangle that wraps round.
abbrev pub IsWrapReply : ℕ → ℕ → List Tile → Reply → Type 0
IsWrapReply limit budget ts reply = (answer : Result (Option Grid) WrapEnd) × MayAnswerWrap ts limit budget answer × IsToldWrap limit answer reply

-- The reply of `periodic`. The refusals in their order: the text's first fault, a set without tiles, two tiles alike. Else the least rectangle that wraps round.
abbrev pub IsPeriodicReply : List ℕ → List ℕ → List ℕ → Reply → Type 0
IsPeriodicReply n b bytes reply = IsSetReply (IsWrapReply (value_from 0 n) (value_from 0 b)) (whole_text set_part (lines bytes)) reply
