-- Words that derive steps: what they answer where there is none, each refusal told with its level, and the sets of the chain that they make.
use Rattle.std.specs.Prelude.{◌≡◌, ℕ, List, ◌++◌, codes}
use Rattle.std.specs.Fmt.{decimal}
use Rattle.wt_grid.specs.declared.axis.Axis.{Axis}
use Rattle.wt_step.specs.declared.raw.RawLink.{RawLink}
use Rattle.wt_chain.specs.Sets.{first_count}
use Rattle.wt_check.specs.Texts.{sizes_behind}
use Rattle.wt_search.specs.declared.end.SearchEnd.{SearchEnd}
use Rattle.wt_search.specs.declared.end.SearchEnd.TheVariants.{Spent, NoMarker, EmptySet, TooManyTiles, Repeated, TooManyNodes, NotGrowing, Levels, OutOfMemory}
use Rattle.wt_session.specs.Replies.{Reply, refused, limit, spent}
use Rattle.wt_session.specs.Tables.{pair_text}

-- a refusal, and its level
abbrev pub level_text : List ℕ → ℕ → List ℕ
level_text refusal level = refusal ++ (codes " level " ++ (decimal level ++ codes "\n"))

-- a window or a tree of a level is spent
abbrev pub level_spent_text : ℕ → Axis → ℕ → ℕ → List ℕ
level_spent_text level axis a b = codes "spent level " ++ (decimal level ++ (codes " " ++ pair_text axis a b))

-- the images of the first set that comes again don't grow
abbrev pub not_growing_text : ℕ → List ℕ
not_growing_text start = codes "refused not growing start " ++ (decimal start ++ codes "\n")

-- the reply that tells why a search ends, or why there is no step
abbrev pub IsEndReply : SearchEnd → Reply → Type 0
IsEndReply (Spent level axis a b) reply = reply ≡ spent (level_spent_text level axis a b)
IsEndReply (NoMarker level) reply = reply ≡ refused (level_text (codes "refused no marker") level)
IsEndReply (EmptySet level) reply = reply ≡ refused (level_text (codes "refused empty set") level)
IsEndReply (TooManyTiles level) reply = reply ≡ limit (level_text (codes "limit tiles") level)
IsEndReply (Repeated level) reply = reply ≡ refused (level_text (codes "refused repeated") level)
IsEndReply (TooManyNodes level) reply = reply ≡ limit (level_text (codes "limit nodes") level)
IsEndReply (NotGrowing start) reply = reply ≡ refused (not_growing_text start)
IsEndReply Levels reply = reply ≡ refused (codes "refused levels\n")
IsEndReply OutOfMemory reply = ⊥

-- the numbers of tiles by level
abbrev pub sets_text : List RawLink → List ℕ
sets_text links = codes "sets " ++ (decimal (first_count links) ++ (sizes_behind links ++ codes "\n"))
