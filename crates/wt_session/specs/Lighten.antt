-- lighten N C B: the light chain of a chain, and how many nodes its trees have.
use Rattle.std.specs.Prelude.{◌≡◌, ℕ, List, ◌++◌, codes, Result, Ok, Err}
use Rattle.std.specs.Fmt.{decimal}
use Rattle.wt_grid.specs.declared.axis.Axis.{Axis}
use Rattle.wt_chain.specs.declared.raw.RawChain.{RawChain}
use Rattle.wt_chain.specs.Limits.{nodes_through}
use Rattle.wt_search.specs.declared.light_end.LightenEnd.{LightenEnd}
use Rattle.wt_search.specs.declared.light_end.LightenEnd.TheVariants.{Spent, TooManyNodes, OutOfMemory}
use Rattle.wt_search.specs.Lightened.{MayAnswerLighten}
use Rattle.wt_session.specs.declared.value.Value.TheVariants.{Chain}
use Rattle.wt_session.specs.Names.{Names}
use Rattle.wt_session.specs.Replies.{Reply, binds, limit, spent, chain_named}
use Rattle.wt_session.specs.Tables.{pair_text}

-- the window or the tree of two tiles at a radius of a step is spent
abbrev pub radius_spent_text : ℕ → ℕ → Axis → ℕ → ℕ → List ℕ
radius_spent_text step r axis a b = codes "spent step " ++ (decimal step ++ (codes " radius " ++ (decimal r ++ (codes " " ++ pair_text axis a b))))

-- with the trees of a step there are too many nodes
abbrev pub step_nodes_text : ℕ → List ℕ
step_nodes_text step = codes "limit nodes step " ++ (decimal step ++ codes "\n")

-- the nodes of all trees, those of lost tiles too
abbrev pub nodes_text : RawChain → List ℕ
nodes_text c = codes "nodes " ++ (decimal (nodes_through 0 c.steps) ++ codes "\n")

-- the reply that tells why a chain isn't lightened
abbrev pub IsHeavyReply : LightenEnd → Reply → Type 0
IsHeavyReply (Spent step r axis a b) reply = reply ≡ spent (radius_spent_text step r axis a b)
IsHeavyReply (TooManyNodes step) reply = reply ≡ limit (step_nodes_text step)
IsHeavyReply OutOfMemory reply = ⊥

-- the reply to what a chain may be answered with
abbrev pub IsLightReply : List ℕ → Result RawChain (RawChain × LightenEnd) → Reply → Type 0
IsLightReply n (Ok light) reply = reply ≡ binds n (Chain light) (nodes_text light)
IsLightReply n (Err e) reply = IsHeavyReply e.1 reply

-- a reply for a chain that was looked up
abbrev pub IsLightenOf : List ℕ → ℕ → Result RawChain Reply → Reply → Type 0
IsLightenOf n budget (Err stopped) reply = reply ≡ stopped
IsLightenOf n budget (Ok c) reply = (answer : Result RawChain (RawChain × LightenEnd)) × MayAnswerLighten c budget answer × IsLightReply n answer reply

-- the reply to `lighten N C B`
abbrev pub IsLightenReply : Names → List ℕ → List ℕ → ℕ → Reply → Type 0
IsLightenReply names n c budget reply = IsLightenOf n budget (chain_named names c) reply
