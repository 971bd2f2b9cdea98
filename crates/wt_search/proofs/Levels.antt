-- The step of a level, from its tables and its first class.
use Rattle.std.proofs.Common.{arith, ◌≡◌, ◌⊎◌, ℕ, Bool, List, [], ◌∷◌, length, slice_get, Option, None, Some, sym, ◌∙◌, ap, subst, inl, inr}
use Rattle.std.specs.Prelude.{Result, Ok, Err, IfErr, Contains}
use Rattle.std.specs.Cmp.{both_ways}
use Rattle.wt_grid.specs.Axes.{other}
use Rattle.wt_grid.specs.declared.axis.Axis.{Axis}
use Rattle.wt_grid.specs.declared.axis.Axis.TheVariants.{One, Two}
use Rattle.wt_tile.specs.declared.tile.Tile.{Tile}
use Rattle.wt_tile.specs.declared.tile.TileList.{TileList}
use Rattle.wt_step.specs.declared.raw.RawStep.{RawStep}
use Rattle.wt_window.specs.Surrounded.{surroundable, Tells, on}
use Rattle.wt_window.proofs.Outcomes.{tested}
use Rattle.wt_marker.specs.declared.end.DeriveEnd.{DeriveEnd}
use Rattle.wt_marker.specs.Classes.{kept_classes}
use Rattle.wt_marker.specs.Derived.{Plan, plan, derive_fault, derived}
use Rattle.wt_search.specs.declared.end.SearchEnd.{SearchEnd}
use Rattle.wt_search.specs.declared.end.SearchEnd.TheVariants as ends
use Rattle.wt_search.specs.Asked.{Asked, axis_at, dominoes_of, classes_at, plan_at, step_or_end, planned_step, first_step, step_at}

-- Tables.

-- the test tells which pairs have a window
pub surroundable_tells : (ts : List Tile) (axis : Axis) (r : ℕ) → Tells ts axis r (surroundable ts axis r)
surroundable_tells ts axis r = λ a b. tested ts axis a b r

-- a table that tells so says the same
pub same_table : (ts : List Tile) (axis : Axis) (r : ℕ) (f : ℕ → ℕ → Bool) → Tells ts axis r f → f ≡ surroundable ts axis r
same_table ts axis r f h = λ i a b. both_ways (f a b) (surroundable ts axis r a b)
    (λ e. (surroundable_tells ts axis r a b).1 ((h a b).0 e)) (λ e. (h a b).1 ((surroundable_tells ts axis r a b).0 e)) i

pub tells_by : (ts : List Tile) (axis : Axis) (r : ℕ) (f : ℕ → ℕ → Bool) → f ≡ surroundable ts axis r → Tells ts axis r f
tells_by ts axis r f e = subst (λ (g : ℕ → ℕ → Bool). Tells ts axis r g) (sym e) (surroundable_tells ts axis r)

-- The first class.

pub first_contained : (cs : List (List ℕ)) (c : List ℕ) → slice_get cs 0 ≡ Some c → Contains cs c
first_contained [] c e = absurd cc
first_contained (x ∷ xs) c e = (0, omega arith, cc)

module _ (s : Asked) (level : ℕ) (set : TileList) (axis : Axis) (f g : ℕ → ℕ → Bool)
    (p : axis ≡ axis_at s level) (q : f ≡ dominoes_of s set One) (r : g ≡ dominoes_of s set Two) where
  class_of : (c : Option (List ℕ)) → slice_get (kept_classes (length set.tiles) (on (other axis) f g) (on axis f g)) 0 ≡ c → slice_get (classes_at s level set) 0 ≡ c
  class_of c h =
      subst (λ (v : ℕ → ℕ → Bool). slice_get (kept_classes (length set.tiles) (on (other (axis_at s level)) (dominoes_of s set One) v) (on (axis_at s level) (dominoes_of s set One) v)) 0 ≡ c) r
      (subst (λ (u : ℕ → ℕ → Bool). slice_get (kept_classes (length set.tiles) (on (other (axis_at s level)) u g) (on (axis_at s level) u g)) 0 ≡ c) q
      (subst (λ (a : Axis). slice_get (kept_classes (length set.tiles) (on (other a) f g) (on a f g)) 0 ≡ c) p h))

  pub step_none : slice_get (kept_classes (length set.tiles) (on (other axis) f g) (on axis f g)) 0 ≡ None → step_at s level set ≡ Err (ends.NoMarker level)
  unfolding step_at
  step_none h = ap (first_step s level set) (class_of None h)

  pub step_by : (class : List ℕ) → slice_get (kept_classes (length set.tiles) (on (other axis) f g) (on axis f g)) 0 ≡ Some class
      → step_at s level set ≡ planned_step level s.budget (plan set axis s.side s.radius class f g)
  unfolding step_at
  step_by class h =
      let same : plan set axis s.side s.radius class f g ≡ plan_at s level set class =
      ap (λ (a : Axis). plan set a s.side s.radius class f g) p
      ∙ (ap (λ (u : ℕ → ℕ → Bool). plan set (axis_at s level) s.side s.radius class u g) q
      ∙ ap (λ (v : ℕ → ℕ → Bool). plan set (axis_at s level) s.side s.radius class (dominoes_of s set One) v) r) in
      ap (first_step s level set) (class_of (Some class) h) ∙ ap (planned_step level s.budget) (sym same)

pub err_by : {A : Type 0} (r : Result A SearchEnd) (P : SearchEnd → Type 0) (u w : Result RawStep SearchEnd) → u ≡ w
    → IfErr r (λ e. (e ≡ ends.OutOfMemory) ⊎ (w ≡ Err e)) → IfErr r (λ e. (e ≡ ends.OutOfMemory) ⊎ P e ⊎ (u ≡ Err e))
err_by (Ok x) P u w same h = tt
err_by (Err e) P u w same (inl h) = inl h
err_by (Err e) P u w same (inr h) = inr (inr (same ∙ h))

-- The step takes apart the level's set.

planned_fine : (level : ℕ) (p : Plan) (fault : Option DeriveEnd) (step : RawStep) → step_or_end level (derived p) fault ≡ Ok step → step.fine ≡ p.fine
planned_fine level p None step e = let same : derived p ≡ step = cc in sym (ap (λ (x : RawStep). x.fine) same)
planned_fine level p (Some x) step e = absurd cc

pub step_fine : (s : Asked) (level : ℕ) (set : TileList) (step : RawStep) → step_at s level set ≡ Ok step → step.fine ≡ set
unfolding step_at
step_fine s level set step e = go (slice_get (classes_at s level set) 0) e
  where
    go : (c : Option (List ℕ)) → first_step s level set c ≡ Ok step → step.fine ≡ set
    go None h = absurd cc
    go (Some class) h = planned_fine level (plan_at s level set class) (derive_fault (plan_at s level set class) s.budget) step h
