-- dominoes S A r B: how many pairs have a window, and for each tile that begins one those that may follow it.
use Rattle.std.specs.Prelude.{◌≡◌, ℕ, Bool, List, [], ◌∷◌, ◌++◌, length, map, codes, Result, Ok, Err}
use Rattle.std.specs.Fmt.{decimal}
use Rattle.wt_grid.specs.declared.axis.Axis.{Axis}
use Rattle.wt_tile.specs.declared.tile.TileList.{TileList}
use Rattle.wt_write.specs.Behind.{behind_spaces}
use Rattle.wt_marker.specs.Gather.{gather, only_if}
use Rattle.wt_session.specs.Names.{Names}
use Rattle.wt_session.specs.Replies.{Reply, says, set_named}
use Rattle.wt_session.specs.Tables.{spent_text, AsksTable}

-- b, where f has the pair
abbrev pub follower_at : (ℕ → ℕ → Bool) → ℕ → ℕ → List ℕ
follower_at f a b = only_if (f a b) b

-- of n tiles with the dominoes f, those that may follow a, ascending
abbrev pub followers : (ℕ → ℕ → Bool) → ℕ → ℕ → List ℕ
followers f n a = gather (follower_at f a) 0 n

-- a tile and those that may follow it, in a line; no line where none may
abbrev pub tile_line : ℕ → List ℕ → List ℕ
tile_line a [] = []
tile_line a (b ∷ bs) = decimal a ++ (codes ":" ++ (behind_spaces (map decimal (b ∷ bs)) ++ codes "\n"))

-- the line of tile a
abbrev pub line_at : (ℕ → ℕ → Bool) → ℕ → ℕ → List ℕ
line_at f n a = tile_line a (followers f n a)

-- how many dominoes there are, and the line of each tile
abbrev pub dominoes_text : ℕ → (ℕ → ℕ → Bool) → List ℕ
dominoes_text n f = codes "dominoes " ++ (decimal (length (gather (followers f n) 0 n)) ++ (codes "\n" ++ gather (line_at f n) 0 n))

-- the reply tells these dominoes of n tiles
abbrev pub SaysDominoes : ℕ → (ℕ → ℕ → Bool) → Reply → Type 0
SaysDominoes n f reply = reply ≡ says (dominoes_text n f)

-- a reply for a set that was looked up
abbrev pub IsDominoesOf : Axis → ℕ → ℕ → Result TileList Reply → Reply → Type 0
IsDominoesOf axis r budget (Err stopped) reply = reply ≡ stopped
IsDominoesOf axis r budget (Ok set) reply = AsksTable spent_text set.tiles axis r budget (SaysDominoes (length set.tiles)) reply

-- the reply to `dominoes S A r B`
abbrev pub IsDominoesReply : Names → List ℕ → Axis → ℕ → ℕ → Reply → Type 0
IsDominoesReply names s axis r budget reply = IsDominoesOf axis r budget (set_named names s) reply
