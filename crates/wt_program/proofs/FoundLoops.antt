-- A chain that is found is looped, and its steps are marker steps of the radius that was asked for.
use Rattle.std.proofs.Common.{◌≡◌, ℕ, zero, suc, List, [], ◌∷◌, ◌++◌, slice_get, drop, Option, None, Some, refl, sym, ap, subst}
use Rattle.std.specs.Prelude.{Result, Ok, Err}
use Rattle.wt_tile.specs.declared.tile.TileList.{TileList}
use Rattle.wt_step.specs.declared.raw.RawStep.{RawStep}
use Rattle.wt_step.specs.declared.raw.RawLink.{RawLink}
use Rattle.wt_step.specs.declared.raw.RawLink.TheVariants.{Marker, Restrict}
use Rattle.wt_chain.specs.declared.raw.RawChain.{RawChain}
use Rattle.wt_chain.specs.declared.raw.End.TheVariants.{Loop}
use Rattle.wt_chain.specs.Sets.{last_set, first_count}
use Rattle.wt_chain.specs.Faults.{least_expansion}
use Rattle.wt_marker.specs.declared.end.DeriveEnd.{DeriveEnd}
use Rattle.wt_marker.specs.Derived.{Plan, derived, derive_fault}
use Rattle.wt_search.specs.declared.end.SearchEnd.{SearchEnd}
use Rattle.wt_search.specs.Asked.{Asked, classes_at, plan_at, step_or_end, first_step, step_at}
use Rattle.wt_search.specs.Found.{limited, meeting, closed, closed_by, Progress, going, over, after_meeting, with_nodes, with_step, next, progress, outcome, found}
use Rattle.wt_chain.specs.Limits.{nodes_with}

planned_radius : (level : ℕ) (p : Plan) (fault : Option DeriveEnd) (step : RawStep) → step_or_end level (derived p) fault ≡ Ok step → step.radius ≡ p.radius
planned_radius level p None step e = let same : derived p ≡ step = cc in sym (ap (λ (x : RawStep). x.radius) same)
planned_radius level p (Some x) step e = absurd cc

step_radius : (s : Asked) (level : ℕ) (set : TileList) (step : RawStep) → step_at s level set ≡ Ok step → step.radius ≡ s.radius
unfolding step_at
step_radius s level set step e = go (slice_get (classes_at s level set) 0) e
  where
    go : (c : Option (List ℕ)) → first_step s level set c ≡ Ok step → step.radius ≡ s.radius
    go None h = absurd cc
    go (Some class) h = planned_radius level (plan_at s level set class) (derive_fault (plan_at s level set class) s.budget) step h

-- marker steps of this radius
abbrev pub AreMarkers : ℕ → List RawLink → Type 0
AreMarkers r [] = Unit {0}
AreMarkers r (Marker s ∷ links) = (s.radius ≡ r) × AreMarkers r links
AreMarkers r (Restrict s ∷ links) = ⊥

markers_on : (r : ℕ) (links : List RawLink) (step : RawStep) → AreMarkers r links → step.radius ≡ r → AreMarkers r (links ++ Marker step ∷ [])
markers_on r [] step h e = (e, tt)
markers_on r (Marker x ∷ xs) step h e = (h.0, markers_on r xs step h.1 e)
markers_on r (Restrict x ∷ xs) step h e = absurd h

-- a loop of marker steps of this radius
pub record IsMarkerLoop (r : ℕ) (c : RawChain) : Type 0 where
  pub markers : AreMarkers r c.steps
  pub start : ℕ
  pub renaming : List ℕ
  pub expansion : ℕ
  pub ends : c.end ≡ Loop start renaming expansion

abbrev IsMarkedSo : ℕ → Progress → Type 0
IsMarkedSo r (going links nodes) = AreMarkers r links
IsMarkedSo r (over (Ok c)) = IsMarkerLoop r c
IsMarkedSo r (over (Err e)) = Unit {0}

marked_closed : (r : ℕ) (links : List RawLink) (m : ℕ × List ℕ) → AreMarkers r links → IsMarkedSo r (over (closed links m))
marked_closed r links m h = by (least_expansion (drop m.0 links) m.1 (first_count (drop m.0 links)))
  where
    by : (x : Option ℕ) → IsMarkedSo r (over (closed_by links m x))
    by None = tt
    by (Some k) = record { markers = h; start = m.0; renaming = m.1; expansion = k; ends = refl }

marked_met : (r nodes : ℕ) (links : List RawLink) → AreMarkers r links → IsMarkedSo r (after_meeting links nodes (meeting links))
marked_met r nodes links h = by (meeting links)
  where
    by : (m : Option (ℕ × List ℕ)) → IsMarkedSo r (after_meeting links nodes m)
    by None = h
    by (Some m) = marked_closed r links m h

module _ (s : Asked) (set : TileList) where
  marked_step : (level nodes : ℕ) (links : List RawLink) (x : Result RawStep SearchEnd) → AreMarkers s.radius links → step_at s level (last_set set links) ≡ x
      → IsMarkedSo s.radius (with_step level links nodes x)
  marked_step level nodes links (Err e) h k = tt
  marked_step level nodes links (Ok step) h k = by (limited (nodes_with nodes step.refuted))
    where
      by : (x : Option ℕ) → IsMarkedSo s.radius (with_nodes level (links ++ Marker step ∷ []) x)
      by None = tt
      by (Some n) = marked_met s.radius n (links ++ Marker step ∷ []) (markers_on s.radius links step h (step_radius s level (last_set set links) step k))

  marked_next : (level : ℕ) (p : Progress) → IsMarkedSo s.radius p → IsMarkedSo s.radius (next s set level p)
  marked_next level (going links nodes) h = marked_step level nodes links (step_at s level (last_set set links)) h refl
  marked_next level (over (Ok c)) h = h
  marked_next level (over (Err e)) h = tt

  marked_so : (level : ℕ) → IsMarkedSo s.radius (progress s set level)
  marked_so zero = tt
  marked_so (suc level) = marked_next level (progress s set level) (marked_so level)

  pub found_loop : (levels : ℕ) (c : RawChain) → found s set levels ≡ Ok c → IsMarkerLoop s.radius c
  found_loop levels c e = by (progress s set levels) (marked_so levels) e
    where
      by : (p : Progress) → IsMarkedSo s.radius p → outcome p ≡ Ok c → IsMarkerLoop s.radius c
      by (going links nodes) h k = absurd cc
      by (over (Ok x)) h k = let same : x ≡ c = cc in subst (IsMarkerLoop s.radius) same h
      by (over (Err x)) h k = absurd cc
