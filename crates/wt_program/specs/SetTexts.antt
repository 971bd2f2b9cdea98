-- A tile set that comes in as text, read and tested once for all words that take one.
use Rattle.std.specs.Prelude.{◌≡◌, ℕ, List, codes, Option, None, Some, Result, Ok, Err}
use Rattle.wt_line.specs.declared.faults.What.{What}
use Rattle.wt_text.specs.Lines.{Line}
use Rattle.wt_text.specs.Readers.{TextFault}
use Rattle.wt_tile.specs.declared.tile.Tile.{Tile}
use Rattle.wt_tile.specs.declared.tile.TileList.{TileList}
use Rattle.wt_tile.specs.declared.tile.SetFault.{SetFault}
use Rattle.wt_tile.specs.declared.tile.SetFault.TheVariants.{Empty, TooMany, NoColour, Names, Repeated}
use Rattle.wt_tile.specs.Sets.{set_fault}
use Rattle.wt_cert.specs.Parts.{tiles_part}
use Rattle.wt_session.specs.Texts.{repeated_text}
use Rattle.wt_program.specs.declared.reply.Reply.{Reply}
use Rattle.wt_program.specs.declared.reply.Reply.TheVariants.{Refused}
use Rattle.wt_program.specs.Faults.{fault_reply}

-- `tiles n`, and n rows of names
abbrev pub set_part : ℕ × List Line → Result (TileList × (ℕ × List Line)) (TextFault What)
set_part = tiles_part (codes "tiles")

-- A list that was read is a set, or it is refused for being empty or for two tiles alike: its colours are numbered, with names of their own, and it has at most 256 tiles.
abbrev pub IsSetRefusal : SetFault → Reply → Type 0
IsSetRefusal Empty reply = reply ≡ Refused (codes "refused set empty\n")
IsSetRefusal (Repeated i j) reply = reply ≡ Refused (repeated_text i j)
IsSetRefusal TooMany reply = ⊥
IsSetRefusal (NoColour tile) reply = ⊥
IsSetRefusal (Names axis) reply = ⊥

-- what is replied to the tiles of a set, or the refusal of a list that is none
abbrev pub IsListReply : (List Tile → Reply → Type 0) → TileList → Option SetFault → Reply → Type 0
IsListReply answers list None reply = answers list.tiles reply
IsListReply answers list (Some fault) reply = IsSetRefusal fault reply

-- The reply to a text that has a set: its first fault, or the refusal of a list that is no set, or what is replied to its tiles.
abbrev pub IsSetReply : (List Tile → Reply → Type 0) → Result TileList (TextFault What) → Reply → Type 0
IsSetReply answers (Err fault) reply = reply ≡ fault_reply fault
IsSetReply answers (Ok list) reply = IsListReply answers list (set_fault list) reply
