-- A chain that is found is small.
use Rattle.std.proofs.Common.{arith, ◌≡◌, ◌≤◌, ◌+◌, ℕ, zero, suc, List, [], ◌∷◌, ◌++◌, drop, Option, None, Some, if◌then◌else◌, is_none, refl, sym, ◌∙◌, ap, subst}
use Rattle.wt_chain.specs.Limits.{nodes_with_lost, nodes_through, nodes_with, IsSmallEnd}
use Rattle.std.specs.Prelude.{Result, Ok, Err}
use Rattle.wt_tile.specs.declared.tile.TileList.{TileList}
use Rattle.wt_grid.proofs.First.{first_found}
use Rattle.wt_step.specs.declared.raw.RawStep.{RawStep}
use Rattle.wt_step.specs.declared.raw.RawLink.{RawLink}
use Rattle.wt_step.specs.declared.raw.RawLink.TheVariants.{Marker, Restrict}
use Rattle.wt_chain.specs.declared.raw.RawChain.{RawChain}
use Rattle.wt_chain.specs.declared.raw.Refusal.{Refusal}
use Rattle.wt_chain.specs.Sets.{last_set, first_count}
use Rattle.wt_chain.specs.Faults.{enough, growth_fault, least_expansion}
use Rattle.wt_search.specs.declared.end.SearchEnd.{SearchEnd}
use Rattle.wt_search.specs.declared.limits.TheConstants.{MAX_NODES}
use Rattle.wt_search.specs.Asked.{Asked, step_at}
use Rattle.wt_search.specs.Found.{limited, meeting, closed_by, closed, Progress, going, over, after_meeting, with_nodes, with_step, next, progress, outcome, found}
use Rattle.wt_search.proofs.Nodes.{limited_at}
use Rattle.wt_search.proofs.Ends.{met_level}

nodes_on : (nodes : ℕ) (links : List RawLink) (step : RawStep) → nodes_through nodes (links ++ Marker step ∷ []) ≡ nodes_with (nodes_through nodes links) step.refuted
nodes_on nodes [] step = refl
nodes_on nodes (Marker s ∷ links) step = nodes_on (nodes_with nodes s.refuted) links step
nodes_on nodes (Restrict s ∷ links) step = nodes_on (nodes_with_lost nodes s.lost) links step

few_turns : (loop : List RawLink) (renaming : List ℕ) (n e : ℕ) → least_expansion loop renaming n ≡ Some e → e ≤ n
few_turns loop renaming n e h =
    let f = first_found (enough loop renaming n) 0 n e h in
    let g = by (growth_fault loop renaming (f.0 + 1) n) (f.0 + 1) f.2 in
    omega (arith, g, f.1)
  where
    by : (x : Option Refusal) (m : ℕ) → (if is_none x then Some m else None) ≡ Some e → m ≡ e
    by None m h = cc
    by (Some x) m h = absurd cc

-- the trees keep the limit of nodes, and the loop that of turns
pub record IsSmall (c : RawChain) : Type 0 where
  pub nodes : nodes_through 0 c.steps ≤ MAX_NODES
  pub end : IsSmallEnd c.steps c.end

abbrev IsSmallSo : Progress → Type 0
IsSmallSo (going links nodes) = (nodes ≡ nodes_through 0 links) × (nodes ≤ MAX_NODES)
IsSmallSo (over (Ok c)) = IsSmall c
IsSmallSo (over (Err e)) = Unit {0}

small_closed : (links : List RawLink) (m : ℕ × List ℕ) → nodes_through 0 links ≤ MAX_NODES → meeting links ≡ Some m → IsSmallSo (over (closed links m))
small_closed links m few e = go (least_expansion (drop m.0 links) m.1 (first_count (drop m.0 links))) refl
  where
    go : (x : Option ℕ) → least_expansion (drop m.0 links) m.1 (first_count (drop m.0 links)) ≡ x → IsSmallSo (over (closed_by links m x))
    go None h = tt
    go (Some n) h = record { nodes = few; end = (met_level links m e, few_turns (drop m.0 links) m.1 (first_count (drop m.0 links)) n h) }

small_met : (links : List RawLink) (nodes : ℕ) → nodes ≡ nodes_through 0 links → nodes ≤ MAX_NODES → IsSmallSo (after_meeting links nodes (meeting links))
small_met links nodes same few = go (meeting links) refl
  where
    go : (x : Option (ℕ × List ℕ)) → meeting links ≡ x → IsSmallSo (after_meeting links nodes x)
    go None h = (same, few)
    go (Some m) h = small_closed links m (omega (arith, same, few)) h

small_step : (level : ℕ) (links : List RawLink) (nodes : ℕ) (r : Result RawStep SearchEnd) → nodes ≡ nodes_through 0 links → IsSmallSo (with_step level links nodes r)
small_step level links nodes (Err e) same = tt
small_step level links nodes (Ok step) same = go (limited (nodes_with nodes step.refuted)) refl
  where
    go : (x : Option ℕ) → x ≡ limited (nodes_with nodes step.refuted) → IsSmallSo (with_nodes level (links ++ Marker step ∷ []) x)
    go None h = tt
    go (Some n) h =
        let l = limited_at (nodes_with nodes step.refuted) n h in
        small_met (links ++ Marker step ∷ []) n (l.0 ∙ (ap (λ k. nodes_with k step.refuted) same ∙ sym (nodes_on 0 links step))) (omega (arith, l.0, l.1))

module _ (s : Asked) (set : TileList) where
  small_next : (level : ℕ) (p : Progress) → IsSmallSo p → IsSmallSo (next s set level p)
  small_next level (going links nodes) h = small_step level links nodes (step_at s level (last_set set links)) h.0
  small_next level (over r) h = h

  small_so : (level : ℕ) → IsSmallSo (progress s set level)
  small_so zero = (refl, omega arith)
  small_so (suc level) = small_next level (progress s set level) (small_so level)

  pub small_found : (levels : ℕ) (c : RawChain) → found s set levels ≡ Ok c → IsSmall c
  small_found levels c e = go (progress s set levels) (small_so levels) e
    where
      go : (p : Progress) → IsSmallSo p → outcome p ≡ Ok c → IsSmall c
      go (going links nodes) h e = absurd cc
      go (over (Ok x)) h e = let same : x ≡ c = cc in subst IsSmall same h
      go (over (Err x)) h e = absurd cc
