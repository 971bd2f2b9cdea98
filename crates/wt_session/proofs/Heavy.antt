-- With which ends a chain isn't lightened: never that memory ran out, and none that is spent where the budget is enough.
use Rattle.std.proofs.Common.{arith, ◌≡◌, ◌<◌, ◌≤◌, ℕ, zero, suc, ◌+◌, Bool, true, false, List, [], ◌∷◌, length, get_or, nat_eq, nat_lt, if◌then◌else◌, Option, None, Some, Result, Ok, Err, inl, inr, refl, sym, subst, ◌∙◌}
use Rattle.std.specs.Prelude.{All, IfErr}
use Rattle.std.proofs.lemmas.Bool.Decides.{nat_tests}
use Rattle.wt_grid.specs.declared.axis.Axis.{Axis}
use Rattle.wt_grid.specs.declared.axis.Axis.TheVariants.{One, Two}
use Rattle.wt_tile.specs.declared.tile.Tile.{Tile}
use Rattle.wt_pattern.specs.Windows.{IsEmptyWindow}
use Rattle.wt_refute.specs.declared.tree.Refuted.{Refuted}
use Rattle.wt_refute.specs.Refutation.{node_count}
use Rattle.wt_refute.specs.Standard.{standard_tree}
use Rattle.wt_step.specs.declared.raw.RawStep.{RawStep}
use Rattle.wt_step.specs.declared.raw.RawLink.{RawLink}
use Rattle.wt_step.specs.declared.raw.RawLink.TheVariants.{Marker, Restrict}
use Rattle.wt_chain.specs.declared.raw.RawChain.{RawChain}
use Rattle.wt_chain.specs.Limits.{nodes_with_lost}
use Rattle.wt_window.specs.Trials.{trials, window, cells}
use Rattle.wt_window.proofs.Searched.{trials_some}
use Rattle.wt_search.specs.declared.light_end.LightenEnd.{LightenEnd}
use Rattle.wt_search.specs.declared.light_end.LightenEnd.TheVariants.{Spent, TooManyNodes, OutOfMemory}
use Rattle.wt_search.specs.declared.lowering.Round.{Round}
use Rattle.wt_search.specs.Found.{limited}
use Rattle.wt_search.specs.Light.{has_window, light_entries, asked_after}
use Rattle.wt_search.specs.Lightened.{and_then, OrLater, counted, spent, after_tree, after_window, after_pair, after_pairs, after_axis, after_radius, after_radii, after_link, after_links, lightened, MayBeSpentAmong, MayBeSpentAlong, MayBeSpentAt, MayBeSpentTo, MayBeSpentIn, MayBeSpentFrom, round_at}
use Rattle.wt_search.proofs.LightEntries.{none_surrounds}
use Rattle.wt_session.specs.Enough.{HasEnoughAtRadius, HasEnoughForStep, HasEnoughForSteps}

-- of the elements behind the first one
behind_first : {A : Type 0} (P : A → Type 0) (x : A) (xs : List A) → All P (x ∷ xs) → All P xs
behind_first P x xs h k d lt = h (suc k) d (omega (arith, lt))

-- ---- what holds of the end of each pair holds of the end of all

module _ (Ends : LightenEnd → Type 0) (many : (step : ℕ) → Ends (TooManyNodes step)) where
  in_turn : (first : Result ℕ LightenEnd) (later : ℕ → Result ℕ LightenEnd) → IfErr first Ends → ((n : ℕ) → IfErr (later n) Ends) → IfErr (and_then first later) Ends
  in_turn (Ok n) later h k = k n
  in_turn (Err e) later h k = h

  at_count : (step : ℕ) (nodes : Option ℕ) → IfErr (counted step nodes) Ends
  at_count step None = many step
  at_count step (Some n) = tt

  abbrev OfPair : List Tile → List Refuted → Round → ℕ × ℕ → Type 0
  OfPair ts known t q = (nodes : ℕ) → IfErr (after_pair ts known t q nodes) Ends

  of_pairs : (ts : List Tile) (known : List Refuted) (t : Round) (qs : List (ℕ × ℕ)) (nodes : ℕ) → All (OfPair ts known t) qs → IfErr (after_pairs ts known t qs nodes) Ends
  of_pairs ts known t [] nodes h = tt
  of_pairs ts known t (q ∷ qs) nodes h =
      in_turn (after_pair ts known t q nodes) (after_pairs ts known t qs) (h 0 q (omega arith) nodes) (λ n. of_pairs ts known t qs n (behind_first (OfPair ts known t) q qs h))

  -- of each pair that a step asks
  abbrev OfStep : ℕ → ℕ → RawLink → Type 0
  OfStep k budget (Marker s) = (axis : Axis) (r : ℕ) → r < s.radius → All (OfPair s.fine.tiles (light_entries s r) (round_at k budget axis r)) (asked_after s axis r)
  OfStep k budget (Restrict s) = Unit {0}

  module _ (k budget : ℕ) (s : RawStep) (h : OfStep k budget (Marker s)) where
    of_axis : (axis : Axis) (r nodes : ℕ) → r < s.radius → IfErr (after_axis k s budget axis r nodes) Ends
    of_axis axis r nodes lt = of_pairs s.fine.tiles (light_entries s r) (round_at k budget axis r) (asked_after s axis r) nodes (h axis r lt)

    of_radius : (r nodes : ℕ) → r < s.radius → IfErr (after_radius k s budget r nodes) Ends
    of_radius r nodes lt = in_turn (after_axis k s budget One r nodes) (after_axis k s budget Two r) (of_axis One r nodes lt) (λ n. of_axis Two r n lt)

    of_radii : (r nodes : ℕ) → r ≤ s.radius → IfErr (after_radii k s budget r nodes) Ends
    of_radii zero nodes le = tt
    of_radii (suc r) nodes le = in_turn (after_radii k s budget r nodes) (after_radius k s budget r) (of_radii r nodes (omega (arith, le))) (λ n. of_radius r n (omega (arith, le)))

  of_link : (k budget : ℕ) (link : RawLink) (nodes : ℕ) → OfStep k budget link → IfErr (after_link k budget link nodes) Ends
  of_link k budget (Marker s) nodes h = of_radii k budget s h s.radius nodes (omega arith)
  of_link k budget (Restrict s) nodes h = at_count k (limited (nodes_with_lost nodes s.lost))

  of_links : (k budget : ℕ) (links : List RawLink) (nodes : ℕ) → ((j : ℕ) → All (OfStep j budget) links) → IfErr (after_links k budget links nodes) Ends
  of_links k budget [] nodes h = tt
  of_links k budget (link ∷ links) nodes h =
      in_turn (after_link k budget link nodes) (after_links (k + 1) budget links) (of_link k budget link nodes (h k 0 link (omega arith)))
      (λ n. of_links (k + 1) budget links n (λ j. behind_first (OfStep j budget) link links (h j)))

-- ---- no want of memory

abbrev pub NeedsNone : LightenEnd → Type 0
NeedsNone e = e ≡ OutOfMemory → ⊥

nodes_need_none : (step : ℕ) → NeedsNone (TooManyNodes step)
nodes_need_none step e = cc

pair_needs_none : (ts : List Tile) (known : List Refuted) (t : Round) (q : ℕ × ℕ) → OfPair NeedsNone nodes_need_none ts known t q
pair_needs_none ts known t q nodes = asked (nat_eq t.budget 0)
  where
    tree : (b : Bool) (count : ℕ) → IfErr (if b then Err (spent t q) else counted t.step (limited (nodes + count))) NeedsNone
    tree true count = λ e. cc
    tree false count = at_count NeedsNone nodes_need_none t.step (limited (nodes + count))

    found : (w : Bool) → IfErr (after_window ts known t q nodes w) NeedsNone
    found true = tt
    found false = let count = node_count (standard_tree ts t.axis q.0 q.1 t.radius known) in tree (nat_lt t.budget count) count

    asked : (b : Bool) → IfErr (if b then Err (spent t q) else after_window ts known t q nodes (has_window ts t.axis t.radius q)) NeedsNone
    asked true = λ e. cc
    asked false = found (has_window ts t.axis t.radius q)

link_needs_none : (k budget : ℕ) (link : RawLink) → OfStep NeedsNone nodes_need_none k budget link
link_needs_none k budget (Marker s) = λ axis r lt i d li. pair_needs_none s.fine.tiles (light_entries s r) (round_at k budget axis r) (get_or (asked_after s axis r) i d)
link_needs_none k budget (Restrict s) = tt

pub lightened_needs_none : (c : RawChain) (budget : ℕ) → IfErr (lightened c budget) NeedsNone
lightened_needs_none c budget = of_links NeedsNone nodes_need_none 0 budget c.steps 0 (λ j i d lt. link_needs_none j budget (get_or c.steps i d))

-- ---- nothing is spent

abbrev pub IsOther : LightenEnd → Type 0
IsOther e = (step r : ℕ) (axis : Axis) (a b : ℕ) → e ≡ Spent step r axis a b → ⊥

nodes_other : (step : ℕ) → IsOther (TooManyNodes step)
nodes_other step k r axis a b e = cc

-- the window and the tree of a pair are within the budget
record IsWithin (ts : List Tile) (known : List Refuted) (t : Round) (q : ℕ × ℕ) : Type 0 where
  window : trials ts (window t.axis q.0 q.1 t.radius) ≤ t.budget
  tree : IsEmptyWindow ts t.axis q.0 q.1 t.radius → node_count (standard_tree ts t.axis q.0 q.1 t.radius known) ≤ t.budget

pair_other : (ts : List Tile) (known : List Refuted) (t : Round) (q : ℕ × ℕ) → IsWithin ts known t q → OfPair IsOther nodes_other ts known t q
pair_other ts known t q h nodes = asked (nat_eq t.budget 0) refl
  where
    tree : (b : Bool) (count : ℕ) → nat_lt t.budget count ≡ b → count ≤ t.budget → IfErr (if b then Err (spent t q) else counted t.step (limited (nodes + count))) IsOther
    tree true count e le = let no : nat_lt t.budget count ≡ false = grind (arith, nat_tests, le) in absurd (let both : true ≡ false = sym e ∙ no in cc)
    tree false count e le = at_count IsOther nodes_other t.step (limited (nodes + count))

    found : (w : Bool) → has_window ts t.axis t.radius q ≡ w → IfErr (after_window ts known t q nodes w) IsOther
    found true e = tt
    found false e =
        let count = node_count (standard_tree ts t.axis q.0 q.1 t.radius known) in
        tree (nat_lt t.budget count) count refl (h.tree (none_surrounds ts t.axis q.0 q.1 t.radius e))

    asked : (b : Bool) → nat_eq t.budget 0 ≡ b → IfErr (if b then Err (spent t q) else after_window ts known t q nodes (has_window ts t.axis t.radius q)) IsOther
    asked true e =
        let w = window t.axis q.0 q.1 t.radius in
        let some : 0 < trials ts w = trials_some ts w (cells w) [] in
        let most = h.window in
        let z : t.budget ≡ 0 = grind (arith, nat_tests, e) in
        absurd (omega (arith, some, most, z))
    asked false e = found (has_window ts t.axis t.radius q) refl

within : (s : RawStep) (k budget r : ℕ) (axis : Axis) (q : ℕ × ℕ) → HasEnoughAtRadius s budget r axis q → IsWithin s.fine.tiles (light_entries s r) (round_at k budget axis r) q
within s k budget r axis q h = record { window = h.window; tree = h.tree }

link_other : (k budget : ℕ) (link : RawLink) → HasEnoughForStep budget link → OfStep IsOther nodes_other k budget link
link_other k budget (Marker s) enough = λ axis r lt i d li.
    let q = get_or (asked_after s axis r) i d in
    pair_other s.fine.tiles (light_entries s r) (round_at k budget axis r) q (within s k budget r axis q (enough axis r lt i d li))
link_other k budget (Restrict s) enough = tt

pub lightened_other : (c : RawChain) (budget : ℕ) → HasEnoughForSteps budget c.steps → IfErr (lightened c budget) IsOther
lightened_other c budget enough = of_links IsOther nodes_other 0 budget c.steps 0 (λ j i d lt. link_other j budget (get_or c.steps i d) (enough i d lt))

-- ---- no window is given up

neither : (now : Type 0) (first : Result ℕ LightenEnd) (later : ℕ → Type 0) → (now → ⊥) → ((n : ℕ) → later n → ⊥) → OrLater now first later → ⊥
neither now (Ok n) later h k (inl x) = h x
neither now (Ok n) later h k (inr x) = k n x
neither now (Err e) later h k x = h x

module _ (e : LightenEnd) where
  pairs_kept : (ts : List Tile) (known : List Refuted) (t : Round) (qs : List (ℕ × ℕ)) (nodes : ℕ) → All (IsWithin ts known t) qs → MayBeSpentAmong ts known t qs nodes e → ⊥
  pairs_kept ts known t [] nodes h x = x
  pairs_kept ts known t (q ∷ qs) nodes h x =
      neither _ (after_pair ts known t q nodes) (λ n. MayBeSpentAmong ts known t qs n e)
      (λ m. let most = (h 0 q (omega arith)).window in let over = m.1 in omega (arith, over, most))
      (λ n. pairs_kept ts known t qs n (behind_first (IsWithin ts known t) q qs h)) x

  module _ (k budget : ℕ) (s : RawStep) (h : HasEnoughForStep budget (Marker s)) where
    axis_kept : (axis : Axis) (r nodes : ℕ) → r < s.radius → MayBeSpentAlong k s budget axis r nodes e → ⊥
    axis_kept axis r nodes lt = pairs_kept s.fine.tiles (light_entries s r) (round_at k budget axis r) (asked_after s axis r) nodes
        (λ i d li. within s k budget r axis (get_or (asked_after s axis r) i d) (h axis r lt i d li))

    radius_kept : (r nodes : ℕ) → r < s.radius → MayBeSpentAt k s budget r nodes e → ⊥
    radius_kept r nodes lt = neither _ (after_axis k s budget One r nodes) (λ n. MayBeSpentAlong k s budget Two r n e) (axis_kept One r nodes lt) (λ n. axis_kept Two r n lt)

    radii_kept : (r nodes : ℕ) → r ≤ s.radius → MayBeSpentTo k s budget r nodes e → ⊥
    radii_kept zero nodes le x = x
    radii_kept (suc r) nodes le x =
        neither _ (after_radii k s budget r nodes) (λ n. MayBeSpentAt k s budget r n e) (radii_kept r nodes (omega (arith, le))) (λ n. radius_kept r n (omega (arith, le))) x

  link_kept : (k budget : ℕ) (link : RawLink) (nodes : ℕ) → HasEnoughForStep budget link → MayBeSpentIn k budget link nodes e → ⊥
  link_kept k budget (Marker s) nodes h = radii_kept k budget s h s.radius nodes (omega arith)
  link_kept k budget (Restrict s) nodes h = λ x. x

  links_kept : (k budget : ℕ) (links : List RawLink) (nodes : ℕ) → HasEnoughForSteps budget links → MayBeSpentFrom k budget links nodes e → ⊥
  links_kept k budget [] nodes h x = x
  links_kept k budget (link ∷ links) nodes h x =
      neither _ (after_link k budget link nodes) (λ n. MayBeSpentFrom (k + 1) budget links n e) (link_kept k budget link nodes (h 0 link (omega arith)))
      (λ n. links_kept (k + 1) budget links n (behind_first (HasEnoughForStep budget) link links h)) x

  pub none_given_up : (c : RawChain) (budget : ℕ) → HasEnoughForSteps budget c.steps → MayBeSpentFrom 0 budget c.steps 0 e → ⊥
  none_given_up c budget h = links_kept 0 budget c.steps 0 h
