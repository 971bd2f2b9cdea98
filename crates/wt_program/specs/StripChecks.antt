-- What `strip check` replies to the bytes of a tile set and of layers.
use Rattle.std.specs.Prelude.{◌≡◌, ◌⊎◌, ℕ, List, ◌++◌, length, codes, Result, Ok, Err}
use Rattle.std.specs.Fmt.{decimal}
use Rattle.wt_line.specs.declared.faults.What.{What}
use Rattle.wt_text.specs.Lines.{lines}
use Rattle.wt_text.specs.Readers.{TextFault, both_parts, whole_text}
use Rattle.wt_tile.specs.declared.tile.Tile.{Tile}
use Rattle.wt_tile.specs.declared.tile.TileList.{TileList}
use Rattle.wt_tile.specs.Sets.{set_fault}
use Rattle.wt_strip.specs.declared.layers.Layers.{Layers}
use Rattle.wt_strip.specs.declared.layers.StripFault.{StripFault}
use Rattle.wt_strip.specs.declared.layers.StripFault.TheVariants.{Shape, Order, Row, Missing}
use Rattle.wt_strip.specs.StripText.{strip_part}
use Rattle.wt_strip.specs.Exact.{IsExact, IsStripFault}
use Rattle.wt_program.specs.declared.reply.Reply.{Reply}
use Rattle.wt_program.specs.declared.reply.Reply.TheVariants.{Answered, Refused}
use Rattle.wt_program.specs.Faults.{fault_reply}
use Rattle.wt_program.specs.SetTexts.{set_part, IsListReply}

-- the set and the layers that the bytes say, or the first fault of the text
abbrev pub set_and_layers : List ℕ → Result (TileList × Layers) (TextFault What)
set_and_layers bytes = whole_text (both_parts set_part strip_part) (lines bytes)

-- exact layers: their width, and how many they are
abbrev pub exact_text : Layers → List ℕ
exact_text l = codes "accepted empty " ++ (decimal l.width ++ (codes " " ++ (decimal (length l.layers) ++ codes "\n")))

-- a row that isn't in order, or not of its layer
abbrev pub wrong_row_text : ℕ → ℕ → List ℕ
wrong_row_text layer row = codes "refused strip layer " ++ (decimal layer ++ (codes " row " ++ (decimal row ++ codes "\n")))

-- a layer that lists too few rows
abbrev pub missing_text : ℕ → List ℕ
missing_text layer = codes "refused strip layer " ++ (decimal layer ++ codes " missing\n")

-- the first fault of layers
abbrev pub strip_fault_text : StripFault → List ℕ
strip_fault_text Shape = codes "refused strip shape\n"
strip_fault_text (Order layer row) = wrong_row_text layer row
strip_fault_text (Row layer row) = wrong_row_text layer row
strip_fault_text (Missing layer) = missing_text layer

-- the reply to layers over the tiles of a set: that they are exact, or their first fault
abbrev pub IsLayersVerdict : Layers → List Tile → Reply → Type 0
IsLayersVerdict l ts reply = (IsExact ts l × (reply ≡ Answered (exact_text l))) ⊎ ((fault : StripFault) × IsStripFault ts l fault × (reply ≡ Refused (strip_fault_text fault)))

-- the reply to a text: its first fault, or the refusal of a list that is no set, or the reply to its layers
abbrev pub IsReadLayersReply : Result (TileList × Layers) (TextFault What) → Reply → Type 0
IsReadLayersReply (Err fault) reply = reply ≡ fault_reply fault
IsReadLayersReply (Ok x) reply = IsListReply (IsLayersVerdict x.1) x.0 (set_fault x.0) reply

-- The reply of `strip check`. The refusals in their order: the text's first fault, a set without tiles, two tiles alike, the first fault of the layers.
abbrev pub IsStripCheckReply : List ℕ → Reply → Type 0
IsStripCheckReply bytes reply = IsReadLayersReply (set_and_layers bytes) reply
