-- Chains within the limits of a certificate's text.
use Rattle.std.specs.Prelude.{ℕ, ◌+◌, ◌<◌, ◌≤◌, List, [], ◌∷◌, length, drop}
use Rattle.wt_refute.specs.declared.limits.TheConstants.{MAX_NODES}
use Rattle.wt_refute.specs.declared.tree.Refuted.{Refuted}
use Rattle.wt_refute.specs.Refutation.{node_count}
use Rattle.wt_refute.specs.View.{refutation}
use Rattle.wt_step.specs.declared.raw.Lost.{Lost}
use Rattle.wt_step.specs.declared.raw.RawLink.{RawLink}
use Rattle.wt_step.specs.declared.raw.RawLink.TheVariants.{Marker, Restrict}
use Rattle.wt_step.specs.Limits.{IsSlimStep}
use Rattle.wt_chain.specs.declared.raw.RawChain.{RawChain}
use Rattle.wt_chain.specs.declared.raw.End.{End}
use Rattle.wt_chain.specs.declared.raw.End.TheVariants.{Open, Loop}
use Rattle.wt_chain.specs.Sets.{first_count}

-- the nodes so far, with those of these refutations
abbrev pub nodes_with : ℕ → List Refuted → ℕ
nodes_with nodes [] = nodes
nodes_with nodes (r ∷ rs) = nodes_with (nodes + node_count (refutation r.tree)) rs

-- the nodes so far, with those of these lost tiles
abbrev pub nodes_with_lost : ℕ → List Lost → ℕ
nodes_with_lost nodes [] = nodes
nodes_with_lost nodes (l ∷ ls) = nodes_with_lost (nodes + node_count (refutation l.tree)) ls

-- the nodes so far, with those of all trees of these steps
abbrev pub nodes_through : ℕ → List RawLink → ℕ
nodes_through nodes [] = nodes
nodes_through nodes (Marker s ∷ links) = nodes_through (nodes_with nodes s.refuted) links
nodes_through nodes (Restrict s ∷ links) = nodes_through (nodes_with_lost nodes s.lost) links

-- the loop starts at a step, and takes at most as many turns as its first set has tiles
abbrev pub IsSmallEnd : List RawLink → End → Type 0
IsSmallEnd links Open = Unit {0}
IsSmallEnd links (Loop start renaming expansion) = (start < length links) × (expansion ≤ first_count (drop start links))

-- marker steps, each of which keeps the limits of a text
abbrev pub AreSlimSteps : List RawLink → Type 0
AreSlimSteps [] = Unit {0}
AreSlimSteps (Marker s ∷ links) = IsSlimStep s × AreSlimSteps links
AreSlimSteps (Restrict s ∷ links) = ⊥

-- Marker steps that keep the limits of a text, with at most 1,048,576 nodes in all their trees; a loop takes at most as
-- many turns as its first set has tiles. What else the limits ask a good chain has.
pub record IsWithinLimits (c : RawChain) : Type 0 where
  pub steps : AreSlimSteps c.steps
  pub nodes : nodes_through 0 c.steps ≤ MAX_NODES
  pub end : IsSmallEnd c.steps c.end
