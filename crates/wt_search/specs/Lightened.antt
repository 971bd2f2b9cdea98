-- How chains are lightened: what is asked and counted, in order, and how that may end.
use Rattle.std.specs.Prelude.{ℕ, zero, suc, ◌+◌, ◌≡◌, ◌⊎◌, ◌<◌, Bool, true, false, nat_eq, nat_lt, if◌then◌else◌, Option, None, Some, List, [], ◌∷◌, length, Result, Ok, Err, MatchResult}
use Rattle.wt_grid.specs.declared.axis.Axis.{Axis}
use Rattle.wt_grid.specs.declared.axis.Axis.TheVariants.{One, Two}
use Rattle.wt_tile.specs.declared.tile.Tile.{Tile}
use Rattle.wt_tile.specs.Matching.{matches}
use Rattle.wt_refute.specs.declared.tree.Refuted.{Refuted}
use Rattle.wt_refute.specs.Refutation.{node_count}
use Rattle.wt_refute.specs.Standard.{standard_tree}
use Rattle.wt_step.specs.declared.raw.RawStep.{RawStep}
use Rattle.wt_step.specs.declared.raw.RawLink.{RawLink}
use Rattle.wt_step.specs.declared.raw.RawLink.TheVariants.{Marker, Restrict}
use Rattle.wt_step.specs.Links.{link_fault}
use Rattle.wt_chain.specs.declared.raw.RawChain.{RawChain}
use Rattle.wt_window.specs.Trials.{trials, window}
use Rattle.wt_search.specs.declared.light_end.LightenEnd.{LightenEnd}
use Rattle.wt_search.specs.declared.light_end.LightenEnd.TheVariants.{Spent, TooManyNodes, OutOfMemory}
use Rattle.wt_search.specs.declared.lowering.Round.{Round}
use Rattle.wt_search.specs.Found.{limited}
use Rattle.wt_chain.specs.Limits.{nodes_with_lost}
use Rattle.wt_search.specs.Light.{has_window, light_entries, asked_after, light}

-- Two things in turn, each of which goes on with a count of nodes or is over.

-- the second, where the first goes on
abbrev pub and_then : Result ℕ LightenEnd → (ℕ → Result ℕ LightenEnd) → Result ℕ LightenEnd
and_then (Ok n) later = later n
and_then (Err e) later = Err e

-- something holds of the first, or the first goes on and it holds of the second
abbrev pub OrLater : Type 0 → Result ℕ LightenEnd → (ℕ → Type 0) → Type 0
OrLater now (Ok n) later = now ⊎ later n
OrLater now (Err e) later = now

-- An end is that memory ran out, or that a window is given up where it may be, or else the one that is met.
abbrev pub MayStop : Type 0 → Result ℕ LightenEnd → LightenEnd → Type 0
MayStop given_up met e = (e ≡ OutOfMemory) ⊎ given_up ⊎ (met ≡ Err e)

-- Pairs.

-- the pair is spent
abbrev pub spent : Round → ℕ × ℕ → LightenEnd
spent t q = Spent t.step t.radius t.axis q.0 q.1

-- n nodes, where they are within the limit
abbrev pub counted : ℕ → Option ℕ → Result ℕ LightenEnd
counted step None = Err (TooManyNodes step)
counted step (Some nodes) = Ok nodes

-- the nodes so far with those of the pair's tree: first the tree is held against the budget, then the sum against the limit
abbrev pub after_tree : Round → ℕ × ℕ → ℕ → ℕ → Result ℕ LightenEnd
after_tree t q nodes count = if nat_lt t.budget count then Err (spent t q) else counted t.step (limited (nodes + count))

-- a pair that has a window has no tree
abbrev pub after_window : List Tile → List Refuted → Round → ℕ × ℕ → ℕ → Bool → Result ℕ LightenEnd
after_window ts known t q nodes true = Ok nodes
after_window ts known t q nodes false = after_tree t q nodes (node_count (standard_tree ts t.axis q.0 q.1 t.radius known))

-- the pair's window is asked, and then its tree; at budget 0 no window is known
abbrev pub after_pair : List Tile → List Refuted → Round → ℕ × ℕ → ℕ → Result ℕ LightenEnd
after_pair ts known t q nodes = if nat_eq t.budget 0 then Err (spent t q) else after_window ts known t q nodes (has_window ts t.axis t.radius q)

-- pairs in turn
abbrev pub after_pairs : List Tile → List Refuted → Round → List (ℕ × ℕ) → ℕ → Result ℕ LightenEnd
after_pairs ts known t [] nodes = Ok nodes
after_pairs ts known t (q ∷ qs) nodes = and_then (after_pair ts known t q nodes) (after_pairs ts known t qs)

-- the pair's window has more trials than the budget: so its search may be given up
abbrev pub MayBeSpent : List Tile → Round → ℕ × ℕ → LightenEnd → Type 0
MayBeSpent ts t q e = (e ≡ spent t q) × (t.budget < trials ts (window t.axis q.0 q.1 t.radius))

-- that of one of these pairs may be, and all before it go on
abbrev pub MayBeSpentAmong : List Tile → List Refuted → Round → List (ℕ × ℕ) → ℕ → LightenEnd → Type 0
MayBeSpentAmong ts known t [] nodes e = ⊥
MayBeSpentAmong ts known t (q ∷ qs) nodes e = OrLater (MayBeSpent ts t q e) (after_pair ts known t q nodes) (λ n. MayBeSpentAmong ts known t qs n e)

-- Steps: number k, for one radius after the other, axis 1 before axis 2.

-- the round of radius r + 1
abbrev pub round_at : ℕ → ℕ → Axis → ℕ → Round
round_at k budget axis r = record { step = k; radius = suc r; axis = axis; budget = budget }

-- the pairs of an axis that are asked at radius r + 1: those with a window of each lower radius from 1 on; entries of lower radius are known
abbrev pub after_axis : ℕ → RawStep → ℕ → Axis → ℕ → ℕ → Result ℕ LightenEnd
after_axis k s budget axis r nodes = after_pairs s.fine.tiles (light_entries s r) (round_at k budget axis r) (asked_after s axis r) nodes

-- at one of these pairs the search of a window may be given up
abbrev pub MayBeSpentAlong : ℕ → RawStep → ℕ → Axis → ℕ → ℕ → LightenEnd → Type 0
MayBeSpentAlong k s budget axis r nodes e = MayBeSpentAmong s.fine.tiles (light_entries s r) (round_at k budget axis r) (asked_after s axis r) nodes e

-- both axes at radius r + 1
abbrev pub after_radius : ℕ → RawStep → ℕ → ℕ → ℕ → Result ℕ LightenEnd
after_radius k s budget r nodes = and_then (after_axis k s budget One r nodes) (after_axis k s budget Two r)

-- so it may be at radius r + 1
abbrev pub MayBeSpentAt : ℕ → RawStep → ℕ → ℕ → ℕ → LightenEnd → Type 0
MayBeSpentAt k s budget r nodes e = OrLater (MayBeSpentAlong k s budget One r nodes e) (after_axis k s budget One r nodes) (λ n. MayBeSpentAlong k s budget Two r n e)

-- radii from 1 to r
abbrev pub after_radii : ℕ → RawStep → ℕ → ℕ → ℕ → Result ℕ LightenEnd
after_radii k s budget zero nodes = Ok nodes
after_radii k s budget (suc r) nodes = and_then (after_radii k s budget r nodes) (after_radius k s budget r)

-- so it may be at one of the radii from 1 to r
abbrev pub MayBeSpentTo : ℕ → RawStep → ℕ → ℕ → ℕ → LightenEnd → Type 0
MayBeSpentTo k s budget zero nodes e = ⊥
MayBeSpentTo k s budget (suc r) nodes e = OrLater (MayBeSpentTo k s budget r nodes e) (after_radii k s budget r nodes) (λ n. MayBeSpentAt k s budget r n e)

-- Chains.

-- a step of either kind; the trees of lost tiles are counted, and stay as they are
abbrev pub after_link : ℕ → ℕ → RawLink → ℕ → Result ℕ LightenEnd
after_link k budget (Marker s) nodes = after_radii k s budget s.radius nodes
after_link k budget (Restrict s) nodes = counted k (limited (nodes_with_lost nodes s.lost))

-- so it may be in a step
abbrev pub MayBeSpentIn : ℕ → ℕ → RawLink → ℕ → LightenEnd → Type 0
MayBeSpentIn k budget (Marker s) nodes e = MayBeSpentTo k s budget s.radius nodes e
MayBeSpentIn k budget (Restrict s) nodes e = ⊥

-- steps from number k on
abbrev pub after_links : ℕ → ℕ → List RawLink → ℕ → Result ℕ LightenEnd
after_links k budget [] nodes = Ok nodes
after_links k budget (link ∷ links) nodes = and_then (after_link k budget link nodes) (after_links (k + 1) budget links)

-- so it may be in one of the steps from number k on
abbrev pub MayBeSpentFrom : ℕ → ℕ → List RawLink → ℕ → LightenEnd → Type 0
MayBeSpentFrom k budget [] nodes e = ⊥
MayBeSpentFrom k budget (link ∷ links) nodes e = OrLater (MayBeSpentIn k budget link nodes e) (after_link k budget link nodes) (λ n. MayBeSpentFrom (k + 1) budget links n e)

-- How many nodes the trees of the light chain have, or the first end that is met where no window is given up.
abbrev pub lightened : RawChain → ℕ → Result ℕ LightenEnd
lightened c budget = after_links 0 budget c.steps 0

-- What a chain may be answered with: the light chain, where no end is met; else the chain itself with an end.
abbrev pub MayAnswerLighten : RawChain → ℕ → Result RawChain (RawChain × LightenEnd) → Type 0
MayAnswerLighten c budget result = MatchResult result
    (λ l. (l ≡ light c) × ((n : ℕ) × (lightened c budget ≡ Ok n)))
    (λ e. (e.0 ≡ c) × MayStop (MayBeSpentFrom 0 budget c.steps 0 e.1) (lightened c budget) e.1)

-- What the code keeps.

-- two tiles of the set that match
pub record IsJoined (ts : List Tile) (axis : Axis) (q : ℕ × ℕ) : Type 0 where
  pub first : q.0 < length ts
  pub second : q.1 < length ts
  pub fits : matches ts axis q.0 q.1 ≡ true

-- the step has no fault
abbrev pub IsFaultless : RawLink → Type 0
IsFaultless link = link_fault link ≡ None

-- asking a pair may end so
abbrev pub MayStopAtPair : List Tile → List Refuted → Round → ℕ × ℕ → ℕ → LightenEnd → Type 0
MayStopAtPair ts known t q nodes e = MayStop (MayBeSpent ts t q e) (after_pair ts known t q nodes) e

-- asking pairs in turn may end so
abbrev pub MayStopAmong : List Tile → List Refuted → Round → List (ℕ × ℕ) → ℕ → LightenEnd → Type 0
MayStopAmong ts known t qs nodes e = MayStop (MayBeSpentAmong ts known t qs nodes e) (after_pairs ts known t qs nodes) e
