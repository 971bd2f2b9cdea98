-- How a chain is lightened, step by step of the code.
use Rattle.std.proofs.Common.{arith, ◌≡◌, ℕ, zero, suc, ◌+◌, ◌<◌, ◌≤◌, true, false, List, ◌∷◌, length, drop, get_or, Option, None, Some, refl, sym, ◌∙◌, ap, subst, inl, inr}
use Rattle.std.proofs.Math.Seq.{drop-cons}
use Rattle.std.specs.Prelude.{Result, Ok, Err, MatchOption}
use Rattle.std.specs.List.{All}
use Rattle.std.proofs.lemmas.Bool.{cases_lt}
use Rattle.wt_grid.specs.declared.axis.Axis.{Axis}
use Rattle.wt_grid.specs.Grid.{Grid}
use Rattle.wt_tile.specs.declared.tile.Tile.{Tile}
use Rattle.wt_tile.specs.Matching.{matches}
use Rattle.wt_tile.specs.Sets.{set_fault}
use Rattle.wt_tile.proofs.Sizes.{few_tiles}
use Rattle.wt_pattern.specs.Windows.{IsEmptyWindow}
use Rattle.wt_refute.specs.Entries.{ascends}
use Rattle.wt_step.specs.declared.raw.RawStep.{RawStep}
use Rattle.wt_step.specs.declared.raw.RawLink.{RawLink}
use Rattle.wt_step.specs.declared.raw.RawLink.TheVariants.{Marker}
use Rattle.wt_step.specs.Links.{link_fault}
use Rattle.wt_step.specs.Faults.{step_fault}
use Rattle.wt_step.proofs.Shaped.{refuted_ascend}
use Rattle.wt_step.proofs.Goodness.{good_step, shape_of}
use Rattle.wt_window.specs.Surrounded.{surroundable, IsLeastWindow}
use Rattle.wt_window.proofs.Outcomes.{tested}
use Rattle.wt_marker.proofs.Listed.{each_at, each_imp}
use Rattle.wt_search.specs.declared.light_end.LightenEnd.{LightenEnd}
use Rattle.wt_search.specs.Light.{asked_after}
use Rattle.wt_search.specs.Lightened.{and_then, OrLater, MayStop, after_radius, MayBeSpentAt, after_radii, MayBeSpentTo, IsJoined}
use Rattle.wt_search.proofs.Refuting.{refuted_matches}
use Rattle.wt_search.proofs.LightEntries.{IsAsked, each_asked, surrounds_none}

-- Two things in turn.

now_spent : (now : Type 0) (r : Result ℕ LightenEnd) (later : ℕ → Type 0) → now → OrLater now r later
now_spent now (Ok n) later h = inl h
now_spent now (Err e) later h = h

later_spent : (now : Type 0) (r : Result ℕ LightenEnd) (later : ℕ → Type 0) (n : ℕ) → r ≡ Ok n → later n → OrLater now r later
later_spent now (Ok m) later n e h = let same : m ≡ n = cc in inr (subst later (sym same) h)
later_spent now (Err x) later n e h = absurd cc

on : (r : Result ℕ LightenEnd) (later : ℕ → Result ℕ LightenEnd) (n : ℕ) → r ≡ Ok n → and_then r later ≡ later n
on r later n e = rw e refl

over : (r : Result ℕ LightenEnd) (later : ℕ → Result ℕ LightenEnd) (e : LightenEnd) → r ≡ Err e → and_then r later ≡ Err e
over r later e h = rw h refl

-- the first goes on, and the second ends
ends_later : (now : Type 0) (r : Result ℕ LightenEnd) (later : ℕ → Type 0) (after : ℕ → Result ℕ LightenEnd) (n : ℕ) (e : LightenEnd) → r ≡ Ok n → MayStop (later n) (after n) e → MayStop (OrLater now r later) (and_then r after) e
ends_later now r later after n e h (inl k) = inl k
ends_later now r later after n e h (inr (inl k)) = inr (inl (later_spent now r later n h k))
ends_later now r later after n e h (inr (inr k)) = inr (inr (on r after n h ∙ k))

-- Steps.

module _ (s : RawStep) (good : step_fault s ≡ None) where
  pub small_radius : s.radius ≤ 4
  small_radius = (good_step s good).radius

  pub in_order : ascends s.refuted ≡ true
  in_order = refuted_ascend s (shape_of s (good_step s good))

  pub fine_set : set_fault s.fine ≡ None
  fine_set = (shape_of s (good_step s good)).fine

  pub few_fine : length s.fine.tiles ≤ 256
  few_fine = (few_tiles s.fine fine_set).1

-- a marker step that has no fault
pub as_step : (link : RawLink) (s : RawStep) → link ≡ Marker s → link_fault link ≡ None → step_fault s ≡ None
unfolding link_fault
as_step link s is e = by (ap link_fault (sym is) ∙ e)
  where
    by : link_fault (Marker s) ≡ None → step_fault s ≡ None
    by h = h

-- a window that is found, and none that is
pub some_found : (ts : List Tile) (axis : Axis) (a b r budget : ℕ) (found : Option Grid) (g : Grid) → found ≡ Some g
    → MatchOption found (IsEmptyWindow ts axis a b r) (IsLeastWindow ts axis a b r) × (matches ts axis a b ≡ true → 0 < budget) → matches ts axis a b ≡ true
    → (true ≡ surroundable ts axis r a b) × (0 < budget)
some_found ts axis a b r budget None g is h m = absurd cc
some_found ts axis a b r budget (Some x) g is h m = let w = h.0 in (sym ((tested ts axis a b r).1 (x, w.window)), h.1 m)

pub none_found : (ts : List Tile) (axis : Axis) (a b r budget : ℕ) (found : Option Grid) → found ≡ None
    → MatchOption found (IsEmptyWindow ts axis a b r) (IsLeastWindow ts axis a b r) × (matches ts axis a b ≡ true → 0 < budget) → matches ts axis a b ≡ true
    → (false ≡ surroundable ts axis r a b) × (0 < budget)
none_found ts axis a b r budget None is h m = (sym (surrounds_none ts axis a b r h.0), h.1 m)
none_found ts axis a b r budget (Some x) is h m = absurd cc

-- the pairs that are asked match
asked_joined : (s : RawStep) → step_fault s ≡ None → (axis : Axis) (r : ℕ) → All (IsJoined s.fine.tiles axis) (asked_after s axis r)
asked_joined s good axis r k d lt = each_at (IsJoined s.fine.tiles axis) (asked_after s axis r) k d
    (each_imp (IsAsked s axis r) (IsJoined s.fine.tiles axis) (asked_after s axis r)
    (λ q h. let l = h.listed in record { first = l.first; second = l.second; fits = refuted_matches s (good_step s good) axis q.0 q.1 l.first l.second l.passes })
    (each_asked s axis r)) lt

pub joined_of : (s : RawStep) → step_fault s ≡ None → (axis : Axis) (r : ℕ) (ts : List Tile) (qs : List (ℕ × ℕ)) → ts ≡ s.fine.tiles → qs ≡ asked_after s axis r → All (IsJoined ts axis) qs
joined_of s good axis r ts qs p q = subst (λ (x : List Tile × List (ℕ × ℕ)). All (IsJoined x.0 axis) x.1) (λ i. (sym p i, sym q i)) (asked_joined s good axis r)

-- Radii.

module _ (k : ℕ) (s : RawStep) (budget nodes : ℕ) where
  -- what ended stays so
  over_later : (m r : ℕ) (e : LightenEnd) → after_radii k s budget r nodes ≡ Err e → r ≤ m → after_radii k s budget m nodes ≡ Err e
  over_later zero r e h le = let z : zero ≡ r = omega arith in ap (λ x. after_radii k s budget x nodes) z ∙ h
  over_later (suc m) r e h le = elim (cases_lt m r) [
    | inl lt ↦ let z : suc m ≡ r = omega arith in ap (λ x. after_radii k s budget x nodes) z ∙ h
    | inr ge ↦ over (after_radii k s budget m nodes) (after_radius k s budget m) e (over_later m r e h ge)
  ]

  spent_later : (m r : ℕ) (e : LightenEnd) → MayBeSpentTo k s budget r nodes e → r ≤ m → MayBeSpentTo k s budget m nodes e
  spent_later zero r e h le = let z : r ≡ zero = omega arith in subst (λ x. MayBeSpentTo k s budget x nodes e) z h
  spent_later (suc m) r e h le = elim (cases_lt m r) [
    | inl lt ↦ let z : r ≡ suc m = omega arith in subst (λ x. MayBeSpentTo k s budget x nodes e) z h
    | inr ge ↦ now_spent (MayBeSpentTo k s budget m nodes e) (after_radii k s budget m nodes) (λ n. MayBeSpentAt k s budget m n e) (spent_later m r e h ge)
  ]

  -- one radius ends, and so do all
  pub radii_end : (m r n : ℕ) (e : LightenEnd) → r < m → after_radii k s budget r nodes ≡ Ok n → MayStop (MayBeSpentAt k s budget r n e) (after_radius k s budget r n) e
      → MayStop (MayBeSpentTo k s budget m nodes e) (after_radii k s budget m nodes) e
  radii_end m r n e lt come h =
      later (ends_later (MayBeSpentTo k s budget r nodes e) (after_radii k s budget r nodes) (λ x. MayBeSpentAt k s budget r x e) (after_radius k s budget r) n e come h)
    where
      later : MayStop (MayBeSpentTo k s budget (suc r) nodes e) (after_radii k s budget (suc r) nodes) e → MayStop (MayBeSpentTo k s budget m nodes e) (after_radii k s budget m nodes) e
      later (inl x) = inl x
      later (inr (inl x)) = inr (inl (spent_later m (suc r) e x (omega arith)))
      later (inr (inr x)) = inr (inr (over_later m (suc r) e x (omega arith)))

-- Loops.

-- the elements from one on
pub front : {A : Type 0} (xs : List A) (i : ℕ) (x : A) → i < length xs → x ≡ get_or xs i x → drop i xs ≡ x ∷ drop (i + 1) xs
front xs i x lt is =
    let one : suc i ≡ i + 1 = omega arith in
    drop-cons xs i x lt ∙ (ap (λ y. y ∷ drop (suc i) xs) (sym is) ∙ ap (λ k. x ∷ drop k xs) one)
