-- What `strip W H` replies to the bytes of a tile set.
use Rattle.std.specs.Prelude.{◌≡◌, ℕ, ◌≤◌, List, ◌++◌, length, codes, Result, Ok, Err, MatchResult}
use Rattle.std.specs.Fmt.{decimal}
use Rattle.wt_text.specs.Words.{value_from}
use Rattle.wt_text.specs.Lines.{lines, bytes_of}
use Rattle.wt_text.specs.Readers.{whole_text}
use Rattle.wt_grid.specs.Grid.{Grid}
use Rattle.wt_tile.specs.declared.tile.Tile.{Tile}
use Rattle.wt_pattern.specs.PatternRows.{pattern_lines}
use Rattle.wt_strip.specs.declared.layers.Layers.{Layers}
use Rattle.wt_strip.specs.declared.making.Stripped.{Stripped}
use Rattle.wt_strip.specs.declared.making.Stripped.TheVariants.{Empty, Filled}
use Rattle.wt_strip.specs.declared.making.StripEnd.{StripEnd}
use Rattle.wt_strip.specs.declared.making.StripEnd.TheVariants.{TooManyRows, OutOfMemory}
use Rattle.wt_strip.specs.StripText.{strip_lines}
use Rattle.wt_strip.specs.Stripped.{IsStripped, IsStripEnd}
use Rattle.wt_program.specs.declared.reply.Reply.{Reply}
use Rattle.wt_program.specs.declared.reply.Reply.TheVariants.{Answered, Limit}
use Rattle.wt_program.specs.SetTexts.{set_part, IsSetReply}

-- layers of which the last is empty: how many they are, and their text
abbrev pub empty_text : Layers → List ℕ
empty_text l = codes "empty " ++ (decimal (length l.layers) ++ (codes "\n" ++ bytes_of (strip_lines l)))

-- a pattern that fills the rectangle: its rows, the top one first
abbrev pub filled_text : Grid → List ℕ
filled_text g = codes "filled\n" ++ bytes_of (pattern_lines g)

-- with this layer the rows are too many
abbrev pub many_rows_text : ℕ → List ℕ
many_rows_text layer = codes "limit rows layer " ++ (decimal layer ++ codes "\n")

-- what is replied to the layers, or to the pattern; running out of memory has no reply
abbrev pub IsToldStrip : Result Stripped StripEnd → Reply → Type 0
IsToldStrip (Ok (Empty l)) reply = reply ≡ Answered (empty_text l)
IsToldStrip (Ok (Filled g)) reply = reply ≡ Answered (filled_text g)
IsToldStrip (Err (TooManyRows layer)) reply = reply ≡ Limit (many_rows_text layer)
IsToldStrip (Err OutOfMemory) reply = ⊥

-- layers have a width, so that they have a text
abbrev pub IsWideAnswer : Result Stripped StripEnd → Type 0
IsWideAnswer (Ok (Empty l)) = 1 ≤ l.width
IsWideAnswer (Ok (Filled g)) = Unit {0}
IsWideAnswer (Err end) = Unit {0}

-- what may be answered: the exact layers up to an empty one, or the least pattern; or the first layer with which the rows are too many
abbrev pub IsStripAnswer : List Tile → ℕ → ℕ → Result Stripped StripEnd → Type 0
IsStripAnswer ts w h answer = MatchResult answer (λ found. IsStripped ts w h found) (λ end. IsStripEnd ts w h end)

-- the reply to the tiles of a set: its layers of rows of this width, at most n
abbrev pub IsLayersReply : ℕ → ℕ → List Tile → Reply → Type 0
IsLayersReply w h ts reply = (answer : Result Stripped StripEnd) × IsStripAnswer ts w h answer × IsToldStrip answer reply

-- The reply of `strip`. The refusals in their order: the text's first fault, a set without tiles, two tiles alike, too many rows. Else the exact layers up to an
-- empty one, or the least pattern of this width and height.
abbrev pub IsStripReply : List ℕ → List ℕ → List ℕ → Reply → Type 0
IsStripReply w h bytes reply = IsSetReply (IsLayersReply (value_from 0 w) (value_from 0 h)) (whole_text set_part (lines bytes)) reply
