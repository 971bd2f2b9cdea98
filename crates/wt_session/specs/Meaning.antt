-- The meaning of a command: what it answers, and what its name is bound to.
use Rattle.std.specs.Prelude.{◌≡◌, ℕ, ◌+◌, List, ◌++◌, length, nat_lt, if◌then◌else◌, codes}
use Rattle.wt_script.specs.declared.word.Word.{Word}
use Rattle.wt_script.specs.declared.word.Word.TheVariants.{Tiles, Pattern, Valid, Period, Dominoes, Surround, Markers, Fuse, Same, Derive, Search, Cert, Check, Upgrade, Lighten, Expand, Image, Desub, Bound, Primitive, Seeds, Census, Draw, Json, Torus, Code, Induce}
use Rattle.wt_session.specs.declared.limits.TheConstants.{MAX_TEXT}
use Rattle.wt_session.specs.Names.{Names, bind, is_crowded}
use Rattle.wt_session.specs.Tiles.{IsTilesReply}
use Rattle.wt_session.specs.Pattern.{pattern_reply}
use Rattle.wt_session.specs.Valid.{valid_reply}
use Rattle.wt_session.specs.Period.{period_reply}
use Rattle.wt_session.specs.Fuse.{fuse_reply}
use Rattle.wt_session.specs.Cert.{cert_reply}
use Rattle.wt_session.specs.Check.{check_reply}
use Rattle.wt_session.specs.Expand.{expand_reply}
use Rattle.wt_session.specs.Image.{image_reply}
use Rattle.wt_session.specs.Desub.{IsDesubReply}
use Rattle.wt_session.specs.Bound.{bound_reply}
use Rattle.wt_session.specs.Draw.{draw_reply}
use Rattle.wt_session.specs.Json.{json_reply}
use Rattle.wt_session.specs.Dominoes.{IsDominoesReply}
use Rattle.wt_session.specs.Surround.{IsSurroundReply}
use Rattle.wt_session.specs.Markers.{IsMarkersReply}
use Rattle.wt_session.specs.Same.{same_reply}
use Rattle.wt_session.specs.Search.{IsSearchReply}
use Rattle.wt_session.specs.Derive.{IsDeriveReply}
use Rattle.wt_session.specs.Upgrade.{upgrade_reply}
use Rattle.wt_session.specs.Lighten.{IsLightenReply}
use Rattle.wt_session.specs.Primitive.{IsPrimitiveReply}
use Rattle.wt_session.specs.Seeds.{seeds_reply}
use Rattle.wt_session.specs.Census.{IsCensusReply}
use Rattle.wt_session.specs.Torus.{torus_reply}
use Rattle.wt_session.specs.Code.{IsCodeReply}
use Rattle.wt_session.specs.Induce.{IsInduceReply}
use Rattle.wt_session.specs.Replies.{Reply, says, binds, stops}

-- The reply of each word. Most are functions of the names; those that search windows, and those whose answer is named by a law, are relations.
abbrev pub IsReply : Names → Word → Reply → Type 0
IsReply names (Tiles n list) reply = IsTilesReply n list reply
IsReply names (Pattern n s cells) reply = reply ≡ pattern_reply names n s cells
IsReply names (Valid p) reply = reply ≡ valid_reply names p
IsReply names (Period p dx dy) reply = reply ≡ period_reply names p dx dy
IsReply names (Fuse s axis u v) reply = reply ≡ fuse_reply names s axis u v
IsReply names (Cert c) reply = reply ≡ cert_reply names c
IsReply names (Check n bytes) reply = reply ≡ check_reply n bytes
IsReply names (Upgrade n c) reply = reply ≡ upgrade_reply names n c
IsReply names (Lighten n c b) reply = IsLightenReply names n c b reply
IsReply names (Expand n c w h) reply = reply ≡ expand_reply names n c w h
IsReply names (Image c t) reply = reply ≡ image_reply names c t
IsReply names (Desub n c k p) reply = IsDesubReply names n c k p reply
IsReply names (Bound c dx dy) reply = reply ≡ bound_reply names c dx dy
IsReply names (Draw p style) reply = reply ≡ draw_reply names p style
IsReply names (Json m) reply = reply ≡ json_reply names m
IsReply names (Dominoes s axis r b) reply = IsDominoesReply names s axis r b reply
IsReply names (Surround s axis t u r b) reply = IsSurroundReply names s axis t u r b reply
IsReply names (Markers s axis r b) reply = IsMarkersReply names s axis r b reply
IsReply names (Same s t) reply = reply ≡ same_reply names s t
IsReply names (Search n s axes side r l b) reply = IsSearchReply names n s axes side r l b reply
IsReply names (Derive n f axis side r j b) reply = IsDeriveReply names n f axis side r j b reply
IsReply names (Primitive c) reply = IsPrimitiveReply names c reply
IsReply names (Seeds c q) reply = reply ≡ seeds_reply names c q
IsReply names (Census c k t) reply = IsCensusReply names c k t reply
IsReply names (Torus n width height move1 move2 regions) reply = reply ≡ torus_reply n (record { width = width; height = height; move1 = move1; move2 = move2 }) regions
IsReply names (Code n t x y w h) reply = IsCodeReply names n t x y w h reply
IsReply names (Induce n t axis) reply = IsInduceReply names n t axis reply

-- ---- the limits that come after all refusals of a command: the names, and then the text

-- what a command comes to
pub data Outcome : Type 0 where
  -- the names from now on, and the answer
  goes_on : Names → List ℕ → Outcome
  -- the status and the line of a refusal
  ends : ℕ → List ℕ → Outcome

-- an answer behind n bytes
abbrev pub within_text : ℕ → Names → List ℕ → Outcome
within_text printed names text = if nat_lt MAX_TEXT (printed + length text) then ends 5 (codes "limit output\n") else goes_on names text

-- a reply within the limits: first that on names, then that on the text
abbrev pub settled : Names → ℕ → Reply → Outcome
settled names printed (says text) = within_text printed names text
settled names printed (binds n v text) = if is_crowded n names then ends 5 (codes "limit names\n") else within_text printed (bind n v names) text
settled names printed (stops status line) = ends status line

-- the meaning of a command, where n bytes were printed before
abbrev pub IsMeaning : Names → ℕ → Word → Outcome → Type 0
IsMeaning names printed word outcome = (reply : Reply) × IsReply names word reply × (outcome ≡ settled names printed reply)
