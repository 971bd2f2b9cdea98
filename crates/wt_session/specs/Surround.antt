-- surround S A a b r B: the least window of two tiles, or that there is none.
use Rattle.std.specs.Prelude.{◌≡◌, ℕ, List, ◌++◌, length, codes, nat_lt, if◌then◌else◌, Option, None, Some, Result, Ok, Err}
use Rattle.std.specs.Fmt.{decimal}
use Rattle.wt_text.specs.Lines.{bytes_of}
use Rattle.wt_grid.specs.declared.axis.Axis.{Axis}
use Rattle.wt_grid.specs.Grid.{Grid}
use Rattle.wt_tile.specs.declared.tile.Tile.{Tile}
use Rattle.wt_tile.specs.declared.tile.TileList.{TileList}
use Rattle.wt_pattern.specs.PatternRows.{pattern_lines}
use Rattle.wt_window.specs.declared.window.WindowEnd.{WindowEnd}
use Rattle.wt_window.specs.declared.window.WindowEnd.TheVariants.{Spent, OutOfMemory}
use Rattle.wt_window.specs.Outcomes.{MayAnswerWindow}
use Rattle.wt_session.specs.Names.{Names}
use Rattle.wt_session.specs.Replies.{Reply, says, spent, no_tile, set_named}
use Rattle.wt_session.specs.Tables.{spent_text}

-- the first of two numbers that is none of n tiles
abbrev pub first_no_tile : ℕ → ℕ → ℕ → Option ℕ
first_no_tile n a b = if nat_lt a n then (if nat_lt b n then None else Some b) else Some a

-- the width and the height, and the rows, the top one first
abbrev pub window_text : Grid → List ℕ
window_text g = codes "window " ++ (decimal g.width ++ (codes " " ++ (decimal g.height ++ (codes "\n" ++ bytes_of (pattern_lines g)))))

-- the reply to what may be answered to a question for the window of a and b
abbrev pub IsWindowReply : Axis → ℕ → ℕ → Result (Option Grid) WindowEnd → Reply → Type 0
IsWindowReply axis a b (Ok None) reply = reply ≡ says (codes "none\n")
IsWindowReply axis a b (Ok (Some g)) reply = reply ≡ says (window_text g)
IsWindowReply axis a b (Err Spent) reply = reply ≡ spent (spent_text axis a b)
IsWindowReply axis a b (Err OutOfMemory) reply = ⊥

-- the same, unless one of the two is no tile
abbrev pub IsWindowOf : List Tile → Axis → ℕ → ℕ → ℕ → ℕ → Option ℕ → Reply → Type 0
IsWindowOf ts axis a b r budget (Some t) reply = reply ≡ no_tile t
IsWindowOf ts axis a b r budget None reply = (answer : Result (Option Grid) WindowEnd) × MayAnswerWindow ts axis a b r budget answer × IsWindowReply axis a b answer reply

-- a reply for a set that was looked up
abbrev pub IsSurroundOf : Axis → ℕ → ℕ → ℕ → ℕ → Result TileList Reply → Reply → Type 0
IsSurroundOf axis a b r budget (Err stopped) reply = reply ≡ stopped
IsSurroundOf axis a b r budget (Ok set) reply = IsWindowOf set.tiles axis a b r budget (first_no_tile (length set.tiles) a b) reply

-- the reply to `surround S A a b r B`
abbrev pub IsSurroundReply : Names → List ℕ → Axis → ℕ → ℕ → ℕ → ℕ → Reply → Type 0
IsSurroundReply names s axis a b r budget reply = IsSurroundOf axis a b r budget (set_named names s) reply
