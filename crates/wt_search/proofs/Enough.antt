-- With a budget that is enough no search ends as spent.
use Rattle.std.proofs.Common.{arith, ◌≡◌, ◌<◌, ◌≤◌, ℕ, zero, suc, List, [], ◌∷◌, ◌++◌, length, get_or, drop, Option, None, Some, option_map, Bool, true, false, nat_lt, nat_eq, if◌then◌else◌, refl, sym, ◌∙◌, inl, inr}
use Rattle.wt_chain.specs.Limits.{nodes_with}
use Rattle.std.specs.Prelude.{Result, Ok, Err}
use Rattle.std.proofs.lemmas.Bool.Decides.{nat_tests}
use Rattle.wt_grid.specs.declared.axis.Axis.{Axis}
use Rattle.wt_grid.specs.declared.axis.Axis.TheVariants.{One, Two}
use Rattle.wt_grid.specs.declared.image.Image.{Image}
use Rattle.wt_grid.specs.First.{or_else}
use Rattle.wt_grid.specs.Order.{first_in}
use Rattle.wt_tile.specs.declared.tile.Tile.{Tile}
use Rattle.wt_tile.specs.declared.tile.TileList.{TileList}
use Rattle.wt_step.specs.declared.raw.RawStep.{RawStep}
use Rattle.wt_step.specs.declared.raw.RawLink.{RawLink}
use Rattle.wt_step.specs.declared.raw.RawLink.TheVariants.{Marker}
use Rattle.wt_refute.specs.Refutation.{node_count}
use Rattle.wt_chain.specs.Sets.{last_set, first_count}
use Rattle.wt_chain.specs.Faults.{least_expansion}
use Rattle.wt_window.specs.Surrounded.{Tells}
use Rattle.wt_marker.specs.declared.end.DeriveEnd.{DeriveEnd}
use Rattle.wt_marker.specs.declared.end.DeriveEnd.TheVariants as reasons
use Rattle.wt_marker.specs.Derived.{derived, derive_fault, images_fault, trees_fault, first_spent, spent_at, refuted_pairs, tree_at, images_of, IsRefutable, repeated_pair}
use Rattle.wt_marker.proofs.Windows.{refutable}
use Rattle.wt_search.specs.declared.end.SearchEnd.{SearchEnd}
use Rattle.wt_search.specs.declared.end.SearchEnd.TheVariants as ends
use Rattle.wt_search.specs.Asked.{Asked, dominoes_of, plan_at, at_level, step_or_end, first_step, step_at}
use Rattle.wt_search.specs.Found.{limited, meeting, closed_by, Progress, going, over, after_meeting, with_nodes, with_step, next, progress, outcome, found, SpentAfter, MayEnd}
use Rattle.wt_search.specs.Enough.{HasEnough, HasEnoughAfter, IsEnough, IsNotSpent}
use Rattle.wt_search.proofs.Levels.{surroundable_tells}

abbrev NotSpent : DeriveEnd → Type 0
NotSpent e = (axis : Axis) (a b : ℕ) → e ≡ reasons.Spent axis a b → ⊥

abbrev NoneSpent : Option DeriveEnd → Type 0
NoneSpent o = (e : DeriveEnd) → o ≡ Some e → NotSpent e

none_spent : (o : Option DeriveEnd) → o ≡ None → NoneSpent o
none_spent o h e k = absurd (let both : None ≡ Some e = sym h ∙ k in cc)

either : (x y : Option DeriveEnd) → NoneSpent x → NoneSpent y → NoneSpent (or_else x y)
either None y hx hy = hy
either (Some e) y hx hy = hx

-- the reasons of images are others
images_not : (ts : List Tile) (axis : Axis) (images : List Image) → NoneSpent (images_fault ts axis images)
unfolding images_fault
images_not ts axis images = either _ _ (empty (nat_eq (length images) 0)) (either _ _ (many (nat_lt 256 (length images))) (twice _))
  where
    empty : (b : Bool) → NoneSpent (if b then Some reasons.EmptySet else None)
    empty true e h axis a b s = cc
    empty false e h axis a b s = cc

    many : (b : Bool) → NoneSpent (if b then Some reasons.TooManyTiles else None)
    many true e h axis a b s = cc
    many false e h axis a b s = cc

    twice : (o : Option (ℕ × ℕ)) → NoneSpent (option_map repeated_pair o)
    twice None e h axis a b s = cc
    twice (Some q) e h axis a b s = cc

-- no pair has an answer
all_none : {A B : Type 0} (f : A → Option B) (xs : List A) → ((k : ℕ) (d : A) → k < length xs → f (get_or xs k d) ≡ None) → first_in f xs ≡ None
all_none f [] h = refl
all_none f (x ∷ xs) h =
    let here : f x ≡ None = h 0 x (omega arith) in
    let rest : first_in f xs ≡ None = all_none f xs (λ k d lt. h (suc k) d (omega arith)) in
    rw (here, rest) refl

module _ (ts : List Tile) (radius budget : ℕ) (enough : HasEnough ts radius budget) where
  fits_budget : (axis : Axis) (q : ℕ × ℕ) → IsRefutable ts axis radius q → spent_at ts radius budget axis q ≡ None
  fits_budget axis q h =
      let few = enough.trees axis q.0 q.1 h.first h.second h.fits h.empty in
      let no : nat_lt budget (node_count (tree_at ts radius axis q)) ≡ false = grind (arith, nat_tests, few) in
      rw no refl

  trees_fit : (axis : Axis) (f : ℕ → ℕ → Bool) → Tells ts axis radius f → first_spent ts radius budget axis f ≡ None
  trees_fit axis f tells = all_none (spent_at ts radius budget axis) (refuted_pairs ts axis f) (λ k d lt. fits_budget axis _ (refutable ts axis radius f tells k d lt))

  trees_not : (one two : ℕ → ℕ → Bool) → Tells ts One radius one → Tells ts Two radius two → NoneSpent (trees_fault ts radius one two budget)
  unfolding trees_fault
  trees_not one two t u = either _ _ (none_spent _ (trees_fit One one t)) (either _ _ (none_spent _ (trees_fit Two two u)) (many _))
    where
      many : (b : Bool) → NoneSpent (if b then Some reasons.TooManyNodes else None)
      many true e h axis a b s = cc
      many false e h axis a b s = cc

told : (level : ℕ) (e : DeriveEnd) → NotSpent e → IsNotSpent (at_level level e)
told level reasons.EmptySet h l axis a b s = cc
told level reasons.TooManyTiles h l axis a b s = cc
told level (reasons.Repeated first second) h l axis a b s = cc
told level (reasons.Spent x c d) h l axis a b s = h x c d refl
told level reasons.TooManyNodes h l axis a b s = cc
told level reasons.OutOfMemory h l axis a b s = cc

abbrev StepNotSpent : Result RawStep SearchEnd → Type 0
StepNotSpent r = (e : SearchEnd) → r ≡ Err e → IsNotSpent e

module _ (s : Asked) (level : ℕ) (set : TileList) (enough : HasEnough set.tiles s.radius s.budget) where
  plan_not : (step : RawStep) (fault : Option DeriveEnd) → NoneSpent fault → StepNotSpent (step_or_end level step fault)
  plan_not step None h e k = absurd cc
  plan_not step (Some x) h e k = let same : at_level level x ≡ e = cc in rw (sym same) (told level x (h x refl))

  fault_not : (class : List ℕ) → NoneSpent (derive_fault (plan_at s level set class) s.budget)
  fault_not class = either _ _ (images_not set.tiles (plan_at s level set class).axis (images_of (plan_at s level set class)))
      (trees_not set.tiles s.radius s.budget enough (dominoes_of s set One) (dominoes_of s set Two) (surroundable_tells set.tiles One s.radius) (surroundable_tells set.tiles Two s.radius))

  first_not : (c : Option (List ℕ)) → StepNotSpent (first_step s level set c)
  first_not None e k = let same : ends.NoMarker level ≡ e = cc in λ l axis a b h. cc
  first_not (Some class) e k = plan_not (derived (plan_at s level set class)) (derive_fault (plan_at s level set class) s.budget) (fault_not class) e k

  step_not : StepNotSpent (step_at s level set)
  unfolding step_at
  step_not = first_not _

abbrev IsOverUnspent : Progress → Type 0
IsOverUnspent (going links nodes) = Unit {0}
IsOverUnspent (over (Ok c)) = Unit {0}
IsOverUnspent (over (Err e)) = IsNotSpent e

met_unspent : (links : List RawLink) (nodes : ℕ) (m : Option (ℕ × List ℕ)) → IsOverUnspent (after_meeting links nodes m)
met_unspent links nodes None = tt
met_unspent links nodes (Some m) = by (least_expansion (drop m.0 links) m.1 (first_count (drop m.0 links)))
  where
    by : (x : Option ℕ) → IsOverUnspent (over (closed_by links m x))
    by None = λ l axis a b h. cc
    by (Some n) = tt

with_unspent : (level : ℕ) (links : List RawLink) (nodes : ℕ) (r : Result RawStep SearchEnd) → StepNotSpent r → IsOverUnspent (with_step level links nodes r)
with_unspent level links nodes (Err e) h = h e refl
with_unspent level links nodes (Ok step) h = by (limited (nodes_with nodes step.refuted))
  where
    by : (x : Option ℕ) → IsOverUnspent (with_nodes level (links ++ Marker step ∷ []) x)
    by None = λ l axis a b h. cc
    by (Some n) = met_unspent (links ++ Marker step ∷ []) n (meeting (links ++ Marker step ∷ []))

module _ (s : Asked) (set : TileList) where
  next_unspent : (level : ℕ) (p : Progress) → HasEnoughAfter s set p → IsOverUnspent p → IsOverUnspent (next s set level p)
  next_unspent level (going links nodes) enough h = with_unspent level links nodes (step_at s level (last_set set links)) (step_not s level (last_set set links) enough)
  next_unspent level (over end) enough h = h

  unspent : (levels n : ℕ) → IsEnough s set levels → n ≤ levels → IsOverUnspent (progress s set n)
  unspent levels zero enough le = tt
  unspent levels (suc n) enough le = next_unspent n (progress s set n) (enough n (omega arith)) (unspent levels n enough (omega arith))

  found_unspent : (levels : ℕ) (e : SearchEnd) → IsEnough s set levels → found s set levels ≡ Err e → IsNotSpent e
  found_unspent levels e enough k = by (progress s set levels) (unspent levels levels enough (omega arith)) k
    where
      by : (p : Progress) → IsOverUnspent p → outcome p ≡ Err e → IsNotSpent e
      by (going links nodes) h k = let same : ends.Levels ≡ e = cc in λ l axis a b h. cc
      by (over (Ok c)) h k = absurd cc
      by (over (Err x)) h k = let same : x ≡ e = cc in rw (sym same) h

  window_unspent : (level : ℕ) (p : Progress) (e : SearchEnd) → HasEnoughAfter s set p → SpentAfter s set level p e → ⊥
  window_unspent level (going links nodes) e enough h =
      let pair = h.4 in
      let over = pair.over in
      let most = enough.windows h.0 h.1 h.2 pair.first pair.second pair.fits in
      omega arith
  window_unspent level (over end) e enough h = h

  pub enough_for : (levels : ℕ) (e : SearchEnd) → IsEnough s set levels → MayEnd s set levels e → IsNotSpent e
  enough_for levels e enough (inl h) = λ l axis a b k. cc
  enough_for levels e enough (inr (inl h)) = absurd (window_unspent h.0 (progress s set h.0) e (enough h.0 h.1) h.2)
  enough_for levels e enough (inr (inr h)) = found_unspent levels e enough h
