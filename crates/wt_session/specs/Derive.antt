-- derive N F A W r j B: one step behind a set or an open chain, of the kept class with number j.
use Rattle.std.specs.Prelude.{◌≡◌, ℕ, Bool, List, [], ◌∷◌, ◌++◌, length, slice_get, nat_lt, if◌then◌else◌, true, false, codes, Option, None, Some, Result, Ok, Err}
use Rattle.std.specs.List.{flat_map}
use Rattle.wt_grid.specs.declared.axis.Axis.{Axis}
use Rattle.wt_grid.specs.declared.axis.Side.{Side}
use Rattle.wt_grid.specs.declared.image.Image.{Image}
use Rattle.wt_text.specs.Lines.{bytes_of}
use Rattle.wt_text.specs.Spellings.{line_spelling}
use Rattle.wt_cert.specs.Spelling.{image_tokens}
use Rattle.wt_tile.specs.declared.tile.TileList.{TileList}
use Rattle.wt_step.specs.declared.raw.RawStep.{RawStep}
use Rattle.wt_step.specs.declared.raw.RawLink.{RawLink}
use Rattle.wt_step.specs.declared.raw.RawLink.TheVariants.{Marker}
use Rattle.wt_chain.specs.declared.raw.RawChain.{RawChain}
use Rattle.wt_chain.specs.declared.raw.End.{End}
use Rattle.wt_chain.specs.declared.raw.End.TheVariants.{Open, Loop}
use Rattle.wt_chain.specs.Sets.{last_set}
use Rattle.wt_chain.specs.Versions.{version_of}
use Rattle.wt_marker.specs.declared.end.DeriveEnd.{DeriveEnd}
use Rattle.wt_marker.specs.Derived.{plan, MayAnswerStep}
use Rattle.wt_search.specs.declared.limits.TheConstants.{MAX_NODES, MAX_LEVELS}
use Rattle.wt_search.specs.Asked.{at_level}
use Rattle.wt_chain.specs.Limits.{nodes_through}
use Rattle.wt_session.specs.declared.words.derive.Wanted.{Wanted}
use Rattle.wt_session.specs.declared.value.Value.{Value}
use Rattle.wt_session.specs.declared.value.Value.TheVariants.{Set, Pattern, Chain, Partition}
use Rattle.wt_session.specs.Names.{Names}
use Rattle.wt_session.specs.Replies.{Reply, binds, refused, limit, wrong_kind, value_named}
use Rattle.wt_session.specs.Markers.{classes_along}
use Rattle.wt_session.specs.Levels.{level_text, level_spent_text, IsEndReply, sets_text}
use Rattle.wt_session.specs.Tables.{AsksTables}

-- what a step is asked for by
abbrev pub wanted : Axis → Side → ℕ → ℕ → ℕ → Wanted
wanted axis side radius class budget = record { axis = axis; side = side; radius = radius; class = class; budget = budget }

-- an image in a line
abbrev pub image_text : Image → List ℕ
image_text image = bytes_of (line_spelling image_tokens image)

-- each image in a line
abbrev pub images_text : List Image → List ℕ
images_text images = flat_map image_text images

-- the open chain of these steps
abbrev pub opened : List RawLink → RawChain
opened links = record { version = version_of links; steps = links; end = Open }

-- a longer chain, unless its trees have too many nodes: the numbers of tiles by level, and then the images of its last step, as text. The level is that of the last step.
abbrev pub longer_reply : List ℕ → ℕ → RawChain → List ℕ → Reply
longer_reply n level c images =
    if nat_lt MAX_NODES (nodes_through 0 c.steps) then limit (level_text (codes "limit nodes") level) else binds n (Chain c) (sets_text c.steps ++ images)

-- the open chain with this step behind these
abbrev pub step_reply : List ℕ → List RawLink → RawStep → Reply
step_reply n links step = longer_reply n (length links) (opened (links ++ Marker step ∷ [])) (images_text step.images)

-- the reply to what may be answered to a question for a step behind these
abbrev pub IsStepReply : List ℕ → List RawLink → Result RawStep DeriveEnd → Reply → Type 0
IsStepReply n links (Ok step) reply = reply ≡ step_reply n links step
IsStepReply n links (Err e) reply = IsEndReply (at_level (length links) e) reply

-- the step of a class, for the dominoes of axis 1 and of axis 2; there may be no such class
abbrev pub IsClassReply : List ℕ → TileList → List RawLink → Wanted → (ℕ → ℕ → Bool) → (ℕ → ℕ → Bool) → Option (List ℕ) → Reply → Type 0
IsClassReply n set links w one two None reply = reply ≡ refused (level_text (codes "refused no marker") (length links))
IsClassReply n set links w one two (Some class) reply =
    (answer : Result RawStep DeriveEnd) × MayAnswerStep (plan set w.axis w.side w.radius class one two) w.budget answer × IsStepReply n links answer reply

-- the same for the class that is asked for
abbrev pub SaysStep : List ℕ → TileList → List RawLink → Wanted → (ℕ → ℕ → Bool) → (ℕ → ℕ → Bool) → Reply → Type 0
SaysStep n set links w one two reply = IsClassReply n set links w one two (slice_get (classes_along (length set.tiles) w.axis one two) w.class) reply

-- a step that takes apart this set, behind these steps
abbrev pub IsStepOf : List ℕ → TileList → List RawLink → Wanted → Reply → Type 0
IsStepOf n set links w reply = AsksTables (level_spent_text (length links)) set.tiles w.radius w.budget (SaysStep n set links w) reply

-- the set of no tiles
abbrev pub no_set : TileList
no_set = record { tiles = []; names1 = []; names2 = [] }

-- a step behind those of an open chain, which has at least one, and room for one more
abbrev pub IsBehindAll : List ℕ → List RawLink → Wanted → Bool → Reply → Type 0
IsBehindAll n links w true reply = IsStepOf n (last_set no_set links) links w reply
IsBehindAll n links w false reply = reply ≡ limit (codes "limit steps\n")

-- a step behind a chain: it has to be open
abbrev pub IsBehind : List ℕ → List RawLink → Wanted → End → Reply → Type 0
IsBehind n links w (Loop start renaming expansion) reply = reply ≡ refused (codes "refused looped\n")
IsBehind n links w Open reply = IsBehindAll n links w (nat_lt (length links) MAX_LEVELS) reply

-- a step behind a set or a chain
abbrev pub IsDeriveOf : List ℕ → List ℕ → Wanted → Result Value Reply → Reply → Type 0
IsDeriveOf n f w (Err stopped) reply = reply ≡ stopped
IsDeriveOf n f w (Ok (Set set)) reply = IsStepOf n set [] w reply
IsDeriveOf n f w (Ok (Pattern p)) reply = reply ≡ wrong_kind f
IsDeriveOf n f w (Ok (Chain c)) reply = IsBehind n c.steps w c.end reply
IsDeriveOf n f w (Ok (Partition p)) reply = reply ≡ wrong_kind f

-- the reply to `derive N F A W r j B`
abbrev pub IsDeriveReply : Names → List ℕ → List ℕ → Axis → Side → ℕ → ℕ → ℕ → Reply → Type 0
IsDeriveReply names n f axis side r j budget reply = IsDeriveOf n f (wanted axis side r j budget) (value_named names f) reply
