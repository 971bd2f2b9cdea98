-- search N S X W r L B: the chain that is found from a set, each step of the first kept class of markers, until a set comes again.
use Rattle.std.specs.Prelude.{◌≡◌, ℕ, List, [], ◌++◌, Result, Ok, Err}
use Rattle.wt_grid.specs.declared.axis.Axis.{Axis}
use Rattle.wt_grid.specs.declared.axis.Side.{Side}
use Rattle.wt_tile.specs.declared.tile.TileList.{TileList}
use Rattle.wt_chain.specs.declared.raw.RawChain.{RawChain}
use Rattle.wt_chain.specs.declared.raw.End.{End}
use Rattle.wt_chain.specs.declared.raw.End.TheVariants.{Open, Loop}
use Rattle.wt_check.specs.Texts.{loop_text}
use Rattle.wt_search.specs.declared.end.SearchEnd.{SearchEnd}
use Rattle.wt_search.specs.Asked.{Asked, asked}
use Rattle.wt_search.specs.Found.{MayAnswerSearch}
use Rattle.wt_session.specs.declared.value.Value.TheVariants.{Chain}
use Rattle.wt_session.specs.Names.{Names}
use Rattle.wt_session.specs.Replies.{Reply, binds, set_named}
use Rattle.wt_session.specs.Same.{renaming_text}
use Rattle.wt_session.specs.Levels.{IsEndReply, sets_text}

-- the renaming of a loop
abbrev pub renamed_text : End → List ℕ
renamed_text Open = []
renamed_text (Loop start renaming expansion) = renaming_text renaming

-- the numbers of tiles by level, where the loop starts and how many turns make images grow, and its renaming
abbrev pub found_text : RawChain → List ℕ
found_text c = sets_text c.steps ++ (loop_text c.end ++ renamed_text c.end)

-- the reply to what may be answered to the question for a chain
abbrev pub IsFoundReply : List ℕ → Result RawChain SearchEnd → Reply → Type 0
IsFoundReply n (Ok c) reply = reply ≡ binds n (Chain c) (found_text c)
IsFoundReply n (Err e) reply = IsEndReply e reply

-- a reply for a set that was looked up
abbrev pub IsSearchOf : List ℕ → Asked → ℕ → Result TileList Reply → Reply → Type 0
IsSearchOf n s levels (Err stopped) reply = reply ≡ stopped
IsSearchOf n s levels (Ok set) reply = (answer : Result RawChain SearchEnd) × MayAnswerSearch s set levels answer × IsFoundReply n answer reply

-- the reply to `search N S X W r L B`
abbrev pub IsSearchReply : Names → List ℕ → List ℕ → List Axis → Side → ℕ → ℕ → ℕ → Reply → Type 0
IsSearchReply names n s axes side r levels budget reply = IsSearchOf n (asked axes side r budget) levels (set_named names s) reply
