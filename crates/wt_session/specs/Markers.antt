-- markers S A r B: the kept classes of markers, by their least tiles.
use Rattle.std.specs.Prelude.{◌≡◌, ℕ, Bool, List, ◌++◌, length, codes, Result, Ok, Err}
use Rattle.std.specs.Fmt.{decimal}
use Rattle.wt_grid.specs.Axes.{other}
use Rattle.wt_grid.specs.declared.axis.Axis.{Axis}
use Rattle.wt_tile.specs.declared.tile.TileList.{TileList}
use Rattle.wt_window.specs.Surrounded.{on}
use Rattle.wt_marker.specs.Classes.{kept_classes}
use Rattle.wt_session.specs.Names.{Names}
use Rattle.wt_session.specs.Replies.{Reply, says, set_named}
use Rattle.wt_session.specs.Rows.{rows_text}
use Rattle.wt_session.specs.Tables.{spent_text, AsksTables}

-- the kept classes of n tiles along an axis, where these are the dominoes of axis 1 and of axis 2
abbrev pub classes_along : ℕ → Axis → (ℕ → ℕ → Bool) → (ℕ → ℕ → Bool) → List (List ℕ)
classes_along n axis one two = kept_classes n (on (other axis) one two) (on axis one two)

-- how many there are, and the tiles of each in a line
abbrev pub classes_text : List (List ℕ) → List ℕ
classes_text classes = codes "classes " ++ (decimal (length classes) ++ (codes "\n" ++ rows_text classes))

-- the reply tells the kept classes of n tiles, for these dominoes
abbrev pub SaysClasses : ℕ → Axis → (ℕ → ℕ → Bool) → (ℕ → ℕ → Bool) → Reply → Type 0
SaysClasses n axis one two reply = reply ≡ says (classes_text (classes_along n axis one two))

-- a reply for a set that was looked up
abbrev pub IsMarkersOf : Axis → ℕ → ℕ → Result TileList Reply → Reply → Type 0
IsMarkersOf axis r budget (Err stopped) reply = reply ≡ stopped
IsMarkersOf axis r budget (Ok set) reply = AsksTables spent_text set.tiles r budget (SaysClasses (length set.tiles) axis) reply

-- the reply to `markers S A r B`
abbrev pub IsMarkersReply : Names → List ℕ → Axis → ℕ → ℕ → Reply → Type 0
IsMarkersReply names s axis r budget reply = IsMarkersOf axis r budget (set_named names s) reply
