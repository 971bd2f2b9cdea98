-- What is found is good, and its steps keep the limits of a text.
use Rattle.std.proofs.Common.{arith, ◌≡◌, ◌⊎◌, ◌<◌, ◌≤◌, ℕ, zero, suc, List, [], ◌∷◌, ◌++◌, length, length-append, slice_get, drop, Option, None, Some, refl, ◌∙◌, ap, subst, inl, inr}
use Rattle.wt_chain.specs.Limits.{AreSlimSteps, nodes_with}
use Rattle.wt_step.specs.Limits.{IsSlimStep}
use Rattle.std.specs.Prelude.{Result, Ok, Err}
use Rattle.wt_grid.specs.declared.axis.Axis.TheVariants.{One, Two}
use Rattle.wt_tile.specs.declared.tile.TileList.{TileList}
use Rattle.wt_tile.specs.Sets.{set_fault}
use Rattle.wt_tile.proofs.Sizes.{few_tiles}
use Rattle.wt_step.specs.declared.raw.RawStep.{RawStep}
use Rattle.wt_step.specs.declared.raw.RawLink.{RawLink}
use Rattle.wt_step.specs.declared.raw.RawLink.TheVariants.{Marker, Restrict}
use Rattle.wt_step.specs.Faults.{step_fault}
use Rattle.wt_step.specs.Links.{link_fault, coarse_of}
use Rattle.wt_chain.specs.declared.raw.RawChain.{RawChain}
use Rattle.wt_chain.specs.declared.raw.End.TheVariants.{Loop}
use Rattle.wt_chain.specs.declared.raw.Version.{Version}
use Rattle.wt_chain.specs.Sets.{last_set, first_count, BeginsWith}
use Rattle.wt_chain.specs.Chains.{IsOpen}
use Rattle.wt_chain.specs.Versions.{version_of}
use Rattle.wt_chain.specs.Faults.{least_expansion, chain_fault}
use Rattle.wt_chain.proofs.Grown.{coarse_good}
use Rattle.wt_chain.proofs.Open.{one_open, more_open, ended}
use Rattle.wt_marker.specs.declared.end.DeriveEnd.{DeriveEnd}
use Rattle.wt_marker.specs.Derived.{Plan, IsPlan, derived, derive_fault}
use Rattle.wt_marker.proofs.Callers.{listed_plan}
use Rattle.wt_marker.proofs.Deriving.{good_plan}
use Rattle.wt_marker.proofs.SlimSteps.{slim_step}
use Rattle.wt_search.specs.declared.end.SearchEnd.{SearchEnd}
use Rattle.wt_search.specs.Asked.{Asked, axis_at, dominoes_of, classes_at, plan_at, step_or_end, first_step, step_at}
use Rattle.wt_search.specs.Found.{limited, meeting, closed, closed_by, Progress, going, over, after_meeting, with_nodes, with_step, next, progress, outcome, found}
use Rattle.wt_search.proofs.Levels.{surroundable_tells, first_contained}
use Rattle.wt_search.proofs.Pushing.{may_push}
use Rattle.wt_search.proofs.Closing.{end_closed}
use Rattle.wt_search.proofs.Ends.{met_is_renamed}

-- Steps.

-- a good step that takes apart the set
record Derives (set : TileList) (step : RawStep) : Type 0 where
  good : link_fault (Marker step) ≡ None
  slim : IsSlimStep step
  fine : step.fine ≡ set

as_link : (step : RawStep) → step_fault step ≡ None → link_fault (Marker step) ≡ None
unfolding link_fault
as_link step e = e

planned : (level budget : ℕ) (p : Plan) (step : RawStep) (fault : Option DeriveEnd) → derive_fault p budget ≡ fault → IsPlan p → set_fault p.fine ≡ None → p.radius ≤ 4
    → step_or_end level (derived p) fault ≡ Ok step → Derives p.fine step
planned level budget p step None e h good small k =
    let same : derived p ≡ step = cc in
    let few = few_tiles p.fine good in
    subst (Derives p.fine) same (record { good = as_link (derived p) (good_plan p budget small good h e); slim = slim_step p budget small (omega arith) h e; fine = refl })
planned level budget p step (Some x) e h good small k = absurd cc

derives : (s : Asked) (level : ℕ) (set : TileList) (step : RawStep) → s.radius ≤ 4 → set_fault set ≡ None → step_at s level set ≡ Ok step → Derives set step
unfolding step_at
derives s level set step small good e = by (slice_get (classes_at s level set) 0) refl e
  where
    by : (c : Option (List ℕ)) → slice_get (classes_at s level set) 0 ≡ c → first_step s level set c ≡ Ok step → Derives set step
    by None h k = absurd cc
    by (Some class) h k = planned level s.budget (plan_at s level set class) step (derive_fault (plan_at s level set class) s.budget) refl
        (listed_plan set (axis_at s level) s.side s.radius class (dominoes_of s set One) (dominoes_of s set Two)
        (surroundable_tells set.tiles One s.radius) (surroundable_tells set.tiles Two s.radius) (first_contained (classes_at s level set) class h))
        good small k

-- Steps behind one another.

last_on : (set : TileList) (links : List RawLink) (link : RawLink) → last_set set (links ++ link ∷ []) ≡ coarse_of link
last_on set [] link = refl
last_on set (x ∷ xs) link = last_on (coarse_of x) xs link

slim_on : (links : List RawLink) (step : RawStep) → AreSlimSteps links → IsSlimStep step → AreSlimSteps (links ++ Marker step ∷ [])
slim_on [] step h k = (k, tt)
slim_on (Marker x ∷ xs) step h k = (h.0, slim_on xs step h.1 k)
slim_on (Restrict x ∷ xs) step h k = absurd h

begins_on : (set : TileList) (links : List RawLink) (step : RawStep) → BeginsWith set links → step.fine ≡ last_set set links → BeginsWith set (links ++ Marker step ∷ [])
begins_on set [] step h e = e
begins_on set (x ∷ xs) step h e = h

-- n steps behind a set, all of them good and slim
record AreSound (set : TileList) (level : ℕ) (links : List RawLink) : Type 0 where
  good : set_fault (last_set set links) ≡ None
  run : (links ≡ []) ⊎ IsOpen links (version_of links)
  begins : BeginsWith set links
  slim : AreSlimSteps links
  long : length links ≡ level

own : (links : List RawLink) (version : Version) → IsOpen links version → IsOpen links (version_of links)
own links version o = subst (IsOpen links) o.fits o

sound_on : (set : TileList) (level : ℕ) (links : List RawLink) (step : RawStep) → level < 32 → AreSound set level links → Derives (last_set set links) step
    → AreSound set (suc level) (links ++ Marker step ∷ [])
sound_on set level links step lt h d =
    let l = h.long in
    record {
      good = ap set_fault (last_on set links (Marker step)) ∙ coarse_good (Marker step) d.good;
      run = inr (run h.run);
      begins = begins_on set links step h.begins d.fine;
      slim = slim_on links step h.slim d.slim;
      long = length-append links (Marker step ∷ []) ∙ omega arith;
    }
  where
    run : (links ≡ []) ⊎ IsOpen links (version_of links) → IsOpen (links ++ Marker step ∷ []) (version_of (links ++ Marker step ∷ []))
    run (inl e) = rw e (own (Marker step ∷ []) _ (one_open (Marker step) d.good))
    run (inr o) = own (links ++ Marker step ∷ []) _ (more_open links (version_of links) (Marker step) o (may_push set links (Marker step) (let l = h.long in omega arith) d.fine) d.good)

-- States.

abbrev IsSoundSo : TileList → ℕ → Progress → Type 0
IsSoundSo set level (going links nodes) = AreSound set level links
IsSoundSo set level (over (Ok c)) = (chain_fault c ≡ None) × BeginsWith set c.steps × AreSlimSteps c.steps
IsSoundSo set level (over (Err e)) = Unit {0}

closed_sound : (set : TileList) (level n : ℕ) (links : List RawLink) (m : ℕ × List ℕ) → IsOpen links (version_of links) → BeginsWith set links → AreSlimSteps links → meeting links ≡ Some m
    → IsSoundSo set n (over (closed links m))
closed_sound set level n links m o begins slim e = by (least_expansion (drop m.0 links) m.1 (first_count (drop m.0 links))) refl
  where
    by : (x : Option ℕ) → least_expansion (drop m.0 links) m.1 (first_count (drop m.0 links)) ≡ x → IsSoundSo set n (over (closed_by links m x))
    by None h = tt
    by (Some k) h = (ended links (version_of links) (Loop m.0 m.1 k) o (end_closed links m.0 m.1 k (met_is_renamed links m e) h), begins, slim)

met_sound : (set : TileList) (level nodes : ℕ) (links : List RawLink) → AreSound set (suc level) links → IsSoundSo set (suc level) (after_meeting links nodes (meeting links))
met_sound set level nodes links h = by (meeting links) refl
  where
    opened : (links ≡ []) ⊎ IsOpen links (version_of links) → IsOpen links (version_of links)
    opened (inl e) = absurd (let l = h.long in let none = ap length e in omega arith)
    opened (inr o) = o

    by : (m : Option (ℕ × List ℕ)) → meeting links ≡ m → IsSoundSo set (suc level) (after_meeting links nodes m)
    by None e = h
    by (Some m) e = closed_sound set level (suc level) links m (opened h.run) h.begins h.slim e

module _ (s : Asked) (set : TileList) (small : s.radius ≤ 4) (good : set_fault set ≡ None) where
  step_sound : (level nodes : ℕ) (links : List RawLink) (r : Result RawStep SearchEnd) → level < 32 → AreSound set level links → step_at s level (last_set set links) ≡ r
      → IsSoundSo set (suc level) (with_step level links nodes r)
  step_sound level nodes links (Err e) lt h k = tt
  step_sound level nodes links (Ok step) lt h k = by (limited (nodes_with nodes step.refuted))
    where
      by : (x : Option ℕ) → IsSoundSo set (suc level) (with_nodes level (links ++ Marker step ∷ []) x)
      by None = tt
      by (Some n) = met_sound set level n (links ++ Marker step ∷ []) (sound_on set level links step lt h (derives s level (last_set set links) step small h.good k))

  next_sound : (level : ℕ) (p : Progress) → level < 32 → IsSoundSo set level p → IsSoundSo set (suc level) (next s set level p)
  next_sound level (going links nodes) lt h = step_sound level nodes links (step_at s level (last_set set links)) lt h refl
  next_sound level (over (Ok c)) lt h = h
  next_sound level (over (Err e)) lt h = tt

  sound_so : (level : ℕ) → level ≤ 32 → IsSoundSo set level (progress s set level)
  sound_so zero le = record { good = good; run = inl refl; begins = tt; slim = tt; long = refl }
  sound_so (suc level) le = next_sound level (progress s set level) (omega arith) (sound_so level (omega arith))

  pub sound_found : (levels : ℕ) (c : RawChain) → levels ≤ 32 → found s set levels ≡ Ok c → (chain_fault c ≡ None) × BeginsWith set c.steps × AreSlimSteps c.steps
  sound_found levels c le e = by (progress s set levels) (sound_so levels le) e
    where
      by : (p : Progress) → IsSoundSo set levels p → outcome p ≡ Ok c → (chain_fault c ≡ None) × BeginsWith set c.steps × AreSlimSteps c.steps
      by (going links nodes) h k = absurd cc
      by (over (Ok x)) h k = let same : x ≡ c = cc in subst (λ (y : RawChain). (chain_fault y ≡ None) × BeginsWith set y.steps × AreSlimSteps y.steps) same h
      by (over (Err x)) h k = absurd cc
