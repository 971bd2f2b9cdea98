-- Every command has a reply.
use Rattle.std.proofs.Common.{arith, ◌≡◌, ◌⊎◌, ◌<◌, ◌≤◌, ℕ, zero, suc, Bool, true, false, List, [], ◌∷◌, ◌++◌, length, drop, slice_get, Option, None, Some, option_map, if◌then◌else◌, nat_lt, nat_eq, Result, Ok, Err, inl, inr, refl, ap, ◌∙◌}
use Rattle.std.specs.Prelude.{IfOk, IfErr}
use Rattle.std.proofs.lemmas.Bool.{cases_lt}
use Rattle.wt_grid.specs.declared.axis.Axis.{Axis}
use Rattle.wt_grid.specs.declared.axis.Axis.TheVariants as axes
use Rattle.wt_grid.specs.declared.image.Image.{Image}
use Rattle.wt_grid.specs.First.{or_else}
use Rattle.wt_grid.specs.Order.{first_in}
use Rattle.wt_grid.specs.Grid.{Grid, IsGrid}
use Rattle.wt_tile.specs.declared.tile.Tile.{Tile}
use Rattle.wt_tile.specs.declared.tile.TileList.{TileList}
use Rattle.wt_tile.specs.declared.tile.SetFault.{SetFault}
use Rattle.wt_tile.specs.declared.tile.SetFault.TheVariants as set_faults
use Rattle.wt_tile.specs.Sets.{set_fault}
use Rattle.wt_tile.proofs.Sizes.{few_tiles}
use Rattle.wt_pattern.specs.Plain.{IsPlain}
use Rattle.wt_pattern.specs.declared.fault.Fault.{Fault}
use Rattle.wt_pattern.specs.Validity.{first_fault, first_stranger}
use Rattle.wt_pattern.proofs.FaultLaws.{is_valid, tiles_below}
use Rattle.wt_step.specs.declared.raw.RawStep.{RawStep}
use Rattle.wt_step.specs.declared.raw.RawLink.{RawLink}
use Rattle.wt_step.specs.declared.raw.RawLink.TheVariants.{Marker, Restrict}
use Rattle.wt_step.specs.declared.coarse.DesubFault.{DesubFault}
use Rattle.wt_step.specs.declared.coarse.DesubFault.TheVariants as desub_faults
use Rattle.wt_step.specs.Links.{link_fault, fine_of, coarse_of}
use Rattle.wt_step.specs.Coarse.{HasValidDesubstitution, has_margin, desub_fault, cuts_low, cuts_high}
use Rattle.wt_step.proofs.Goodness.{good_step}
use Rattle.wt_step.proofs.Restricted.{good_restrict, some_kept}
use Rattle.wt_step.proofs.Desubstitution.{some_coarse}
use Rattle.wt_pattern.specs.Patterns.{IsPattern}
use Rattle.wt_chain.specs.declared.raw.RawChain.{RawChain}
use Rattle.wt_chain.specs.declared.raw.End.{End}
use Rattle.wt_chain.specs.declared.raw.End.TheVariants.{Open, Loop}
use Rattle.wt_chain.specs.Faults.{chain_fault, least_expansion}
use Rattle.wt_chain.specs.Limits.{nodes_with}
use Rattle.wt_chain.specs.Sets.{same_set, last_set, first_count}
use Rattle.wt_chain.proofs.Grown.{few_coarse}
use Rattle.wt_refute.specs.Refutation.{node_count}
use Rattle.wt_marker.specs.declared.end.DeriveEnd.{DeriveEnd}
use Rattle.wt_marker.specs.declared.end.DeriveEnd.TheVariants as reasons
use Rattle.wt_marker.specs.Derived.{Plan, plan, derived, derive_fault, images_fault, trees_fault, spent_at, refuted_pairs, tree_at, images_of, repeated_pair, MayAnswerStep}
use Rattle.wt_window.specs.Surrounded.{IsFirstMatch}
use Rattle.wt_window.specs.Outcomes.{HasNoMatch}
use Rattle.wt_search.specs.declared.end.SearchEnd.{SearchEnd}
use Rattle.wt_search.specs.declared.end.SearchEnd.TheVariants as ends
use Rattle.wt_search.specs.Asked.{Asked, asked, plan_at, at_level, step_or_end, first_step, step_at, IsSpent, IsAskedFor, EndsAtZero}
use Rattle.wt_search.specs.Found.{limited, meeting, closed_by, Progress, going, over, after_meeting, with_nodes, with_step, next, progress, outcome, found, MayAnswerSearch}
use Rattle.wt_search.specs.declared.light_end.LightenEnd.{LightenEnd}
use Rattle.wt_search.specs.declared.light_end.LightenEnd.TheVariants as light_ends
use Rattle.wt_search.specs.Light.{light}
use Rattle.wt_search.specs.Lightened.{lightened}
use Rattle.wt_script.specs.declared.word.Word.{Word}
use Rattle.wt_script.specs.declared.word.Word.TheVariants as word
use Rattle.wt_script.specs.Fits.{Fits}
use Rattle.wt_session.specs.declared.words.derive.Wanted.{Wanted}
use Rattle.wt_session.specs.declared.value.Value.{Value}
use Rattle.wt_session.specs.declared.value.Value.TheVariants.{Set, Pattern, Chain, Partition}
use Rattle.wt_session.specs.Sheets.{Laid, AreTiles}
use Rattle.wt_golden.specs.Fractions.{Fraction}
use Rattle.wt_induce.specs.declared.fault.InduceFault.{InduceFault}
use Rattle.wt_induce.specs.declared.fault.InduceFault.TheVariants as induce_faults
use Rattle.wt_induce.specs.Faults.{induce_fault}
use Rattle.wt_plane.specs.HalfPlanes.{Spot, spot, reduced_spot}
use Rattle.wt_torus.specs.declared.coded.CodeFault.{CodeFault}
use Rattle.wt_torus.specs.declared.coded.CodeFault.TheVariants as code_faults
use Rattle.wt_torus.specs.declared.partition.Partition.{Partition as Divided}
use Rattle.wt_torus.specs.Codes.{is_small, code_fault, code_of}
use Rattle.wt_session.specs.Code.{is_on_box, IsCodedReply, IsPointReply, IsPlaceReply, IsCodeOf}
use Rattle.wt_session.specs.Induce.{IsInducedReply, IsInduceOf}
use Rattle.wt_session.specs.Names.{Names, find}
use Rattle.wt_session.specs.Values.{IsGoodValue, HasGoodValues}
use Rattle.wt_session.specs.Replies.{Reply, binds, limit, spent, pattern_in, set_in, value_in, chain_named, partition_named, pattern_named, set_named, value_named}
use Rattle.wt_session.specs.Tiles.{IsTilesReplyBy}
use Rattle.wt_session.specs.Desub.{IsTakenReply, IsSetReply, IsStepReply, IsOverReply, IsDesubOf, IsDesubIn, coarse_reply}
use Rattle.wt_session.specs.Tables.{spent_text}
use Rattle.wt_session.specs.Dominoes.{IsDominoesOf, SaysDominoes}
use Rattle.wt_session.specs.Markers.{IsMarkersOf, SaysClasses, classes_along}
use Rattle.wt_session.specs.Surround.{IsWindowOf, IsSurroundOf, first_no_tile}
use Rattle.wt_session.specs.Levels.{IsEndReply, level_spent_text}
use Rattle.wt_session.specs.Search.{IsFoundReply, IsSearchOf}
use Rattle.wt_session.specs.Derive as derive
use Rattle.wt_session.specs.Derive.{IsClassReply, SaysStep, IsStepOf, IsBehind, IsBehindAll, IsDeriveOf, no_set, step_reply, wanted}
use Rattle.wt_session.specs.Lighten.{IsLightenOf, nodes_text, radius_spent_text, step_nodes_text}
use Rattle.wt_session.specs.Meaning.{IsReply}
use Rattle.wt_session.proofs.Desub.{same_tiles}
use Rattle.wt_session.proofs.Heavy.{NeedsNone, lightened_needs_none}
use Rattle.wt_session.proofs.NoMemory.{Never, code_never, induce_never}
use Rattle.wt_session.proofs.One.{good_chain, good_link, margin, taken_apart}
use Rattle.wt_session.proofs.Powers.{primitive_some, census_reply}
use Rattle.wt_session.proofs.Tabled.{first_match, spent_first, asked_some, asked_both, window_some}

some : (z : Reply) → (reply : Reply) × (reply ≡ z)
some z = (z, refl)

-- ---- what names are bound to

good_set : (names : Names) (n : List ℕ) → HasGoodValues names → IfOk (set_named names n) (λ set. length set.tiles ≤ 256)
good_set names n good = by (find n names) (good n)
  where
    by : (o : Option Value) → ((v : Value) → o ≡ Some v → IsGoodValue v) → IfOk (set_in n o) (λ set. length set.tiles ≤ 256)
    by None g = tt
    by (Some (Set set)) g = (few_tiles set (g (Set set) refl)).1
    by (Some (Pattern p)) g = tt
    by (Some (Chain c)) g = tt
    by (Some (Partition p)) g = tt

good_pattern : (names : Names) (n : List ℕ) → HasGoodValues names → IfOk (pattern_named names n) (λ laid. IsGrid laid.pattern × AreTiles laid.over laid.pattern)
good_pattern names n good = by (find n names) (good n)
  where
    by : (o : Option Value) → ((v : Value) → o ≡ Some v → IsGoodValue v) → IfOk (pattern_in n o) (λ laid. IsGrid laid.pattern × AreTiles laid.over laid.pattern)
    by None g = tt
    by (Some (Set set)) g = tt
    by (Some (Pattern p)) g = g (Pattern p) refl
    by (Some (Chain c)) g = tt
    by (Some (Partition p)) g = tt

good_value : (names : Names) (n : List ℕ) → HasGoodValues names → IfOk (value_named names n) IsGoodValue
good_value names n good = by (find n names) (good n)
  where
    by : (o : Option Value) → ((v : Value) → o ≡ Some v → IsGoodValue v) → IfOk (value_in n o) IsGoodValue
    by None g = tt
    by (Some v) g = g v refl

-- ---- tiles

tiles_some : (f : Option SetFault) (n : List ℕ) (list : TileList) → IsPlain f → (reply : Reply) × IsTilesReplyBy f n list reply
tiles_some None n list p = some _
tiles_some (Some set_faults.Empty) n list p = some _
tiles_some (Some (set_faults.Repeated i j)) n list p = some _
tiles_some (Some set_faults.TooMany) n list p = absurd p
tiles_some (Some (set_faults.NoColour t)) n list p = absurd p
tiles_some (Some (set_faults.Names axis)) n list p = absurd p

-- ---- desub

coarse_some : (link : RawLink) (p : Grid) → link_fault link ≡ None → has_margin link p ≡ true → IsPattern (fine_of link).tiles p → HasValidDesubstitution link p
unfolding link_fault
coarse_some (Marker s) p good m is = some_coarse s (good_step s good) p is (margin (Marker s) p m).0 (margin (Marker s) p m).1
coarse_some (Restrict s) p good m is = some_kept s (good_restrict s good) p is (margin (Restrict s) p m).0 (margin (Restrict s) p m).1

taken_memory : (link : RawLink) (p : Grid) → desub_fault link p ≡ Some desub_faults.OutOfMemory → ⊥
taken_memory link p e = by (first_fault (fine_of link).tiles p) (has_margin link p) e
  where
    by : (o : Option Fault) (b : Bool) → or_else (option_map desub_faults.NotValid o) (if b then None else Some desub_faults.TooSmall) ≡ Some desub_faults.OutOfMemory → ⊥
    by None true h = cc
    by None false h = cc
    by (Some f) b h = cc

taken_some : (n : List ℕ) (link : RawLink) (p : Grid) → link_fault link ≡ None → IsGrid p → first_stranger (length (fine_of link).tiles) p ≡ None → (f : Option DesubFault) → desub_fault link p ≡ f
    → (reply : Reply) × IsTakenReply n link p f reply
taken_some n link p good grid tiles (Some (desub_faults.NotValid fault)) e = some _
taken_some n link p good grid tiles (Some desub_faults.TooSmall) e = some _
taken_some n link p good grid tiles (Some desub_faults.OutOfMemory) e = absurd (taken_memory link p e)
taken_some n link p good grid tiles None e =
    let apart = taken_apart link p e in
    let v = coarse_some link p good apart.1 (grid, tiles_below (length (fine_of link).tiles) p tiles, is_valid (fine_of link).tiles p apart.0) in
    (coarse_reply n link v.0 (cuts_low link p) (cuts_high link p), (v.0, v.1, v.2, refl))

own_some : (n : List ℕ) (link : RawLink) (p : Grid) (same : Bool) → link_fault link ≡ None → IsGrid p → (same ≡ true → first_stranger (length (fine_of link).tiles) p ≡ None)
    → (reply : Reply) × IsSetReply n link p same reply
own_some n link p true good grid tiles = taken_some n link p good grid (tiles refl) (desub_fault link p) refl
own_some n link p false good grid tiles = some _

step_some : (n : List ℕ) (k : ℕ) (p : Grid) (set : TileList) (o : Option RawLink) → ((link : RawLink) → o ≡ Some link → link_fault link ≡ None) → IsGrid p
    → first_stranger (length set.tiles) p ≡ None → (reply : Reply) × IsStepReply n k p set o reply
step_some n k p set None good grid tiles = some _
step_some n k p set (Some link) good grid tiles = own_some n link p (same_set set (fine_of link)) (good link refl) grid (λ same. same_tiles set (fine_of link) p same tiles)

over_some : (n : List ℕ) (c : RawChain) (k : ℕ) (p : Grid) (over : Option TileList) → chain_fault c ≡ None → IsGrid p → AreTiles over p → (reply : Reply) × IsOverReply n c k p over reply
over_some n c k p None good grid tiles = some _
over_some n c k p (Some set) good grid tiles = step_some n k p set (slice_get c.steps k) (λ link e. good_link c k link good e) grid tiles

laid_some : (n : List ℕ) (c : RawChain) (k : ℕ) (r : Result Laid Reply) → chain_fault c ≡ None → IfOk r (λ laid. IsGrid laid.pattern × AreTiles laid.over laid.pattern)
    → (reply : Reply) × IsDesubOf n c k r reply
laid_some n c k (Err stopped) good laid = some _
laid_some n c k (Ok l) good laid = over_some n c k l.pattern l.over good laid.0 laid.1

desub_some : (names : Names) (n : List ℕ) (r : Result RawChain Reply) (k : ℕ) (p : List ℕ) → HasGoodValues names → IfOk r (λ c. chain_fault c ≡ None) → (reply : Reply) × IsDesubIn names n r k p reply
desub_some names n (Err stopped) k p good chain = some _
desub_some names n (Ok c) k p good chain = laid_some n c k (pattern_named names p) chain (good_pattern names p good)

-- ---- tables and windows

dominoes_some : (axis : Axis) (r budget : ℕ) (s : Result TileList Reply) → IfOk s (λ set. length set.tiles ≤ 256) → (reply : Reply) × IsDominoesOf axis r budget s reply
dominoes_some axis r budget (Err stopped) few = some _
dominoes_some axis r budget (Ok set) few = asked_some spent_text set.tiles axis r budget (SaysDominoes (length set.tiles)) few (λ f. some _)

markers_some : (axis : Axis) (r budget : ℕ) (s : Result TileList Reply) → IfOk s (λ set. length set.tiles ≤ 256) → (reply : Reply) × IsMarkersOf axis r budget s reply
markers_some axis r budget (Err stopped) few = some _
markers_some axis r budget (Ok set) few = asked_both spent_text set.tiles r budget (SaysClasses (length set.tiles) axis) few (λ f g. some _)

surround_in : (ts : List Tile) (axis : Axis) (a b r budget : ℕ) (o : Option ℕ) → (reply : Reply) × IsWindowOf ts axis a b r budget o reply
surround_in ts axis a b r budget (Some t) = some _
surround_in ts axis a b r budget None = let told = window_some ts axis a b r budget in (told.0, (told.1, told.2, told.3))

surround_some : (axis : Axis) (a b r budget : ℕ) (s : Result TileList Reply) → (reply : Reply) × IsSurroundOf axis a b r budget s reply
surround_some axis a b r budget (Err stopped) = some _
surround_some axis a b r budget (Ok set) = surround_in set.tiles axis a b r budget (first_no_tile (length set.tiles) a b)

-- ---- no reason tells of memory

abbrev NoMemory : Option DeriveEnd → Type 0
NoMemory o = o ≡ Some reasons.OutOfMemory → ⊥

either : (x y : Option DeriveEnd) → NoMemory x → NoMemory y → NoMemory (or_else x y)
either None y hx hy = hy
either (Some e) y hx hy = hx

images_need_none : (ts : List Tile) (axis : Axis) (images : List Image) → NoMemory (images_fault ts axis images)
unfolding images_fault
images_need_none ts axis images = either _ _ (empty (nat_eq (length images) 0)) (either _ _ (many (nat_lt 256 (length images))) (twice _))
  where
    empty : (b : Bool) → NoMemory (if b then Some reasons.EmptySet else None)
    empty true h = cc
    empty false h = cc

    many : (b : Bool) → NoMemory (if b then Some reasons.TooManyTiles else None)
    many true h = cc
    many false h = cc

    twice : (o : Option (ℕ × ℕ)) → NoMemory (option_map repeated_pair o)
    twice None h = cc
    twice (Some q) h = cc

module _ (ts : List Tile) (radius budget : ℕ) where
  pair_needs_none : (axis : Axis) (q : ℕ × ℕ) → NoMemory (spent_at ts radius budget axis q)
  pair_needs_none axis q = by (nat_lt budget (node_count (tree_at ts radius axis q)))
    where
      by : (b : Bool) → NoMemory (if b then Some (reasons.Spent axis q.0 q.1) else None)
      by true h = cc
      by false h = cc

  pairs_need_none : (axis : Axis) (qs : List (ℕ × ℕ)) → NoMemory (first_in (spent_at ts radius budget axis) qs)
  pairs_need_none axis [] = λ h. cc
  pairs_need_none axis (q ∷ qs) = either (spent_at ts radius budget axis q) (first_in (spent_at ts radius budget axis) qs) (pair_needs_none axis q) (pairs_need_none axis qs)

  trees_need_none : (one two : ℕ → ℕ → Bool) → NoMemory (trees_fault ts radius one two budget)
  unfolding trees_fault
  trees_need_none one two = either _ _ (pairs_need_none axes.One (refuted_pairs ts axes.One one)) (either _ _ (pairs_need_none axes.Two (refuted_pairs ts axes.Two two)) (many _))
    where
      many : (b : Bool) → NoMemory (if b then Some reasons.TooManyNodes else None)
      many true h = cc
      many false h = cc

plan_needs_none : (p : Plan) (budget : ℕ) → NoMemory (derive_fault p budget)
plan_needs_none p budget = either (images_fault p.fine.tiles p.axis (images_of p)) (trees_fault p.fine.tiles p.radius p.one p.two budget)
    (images_need_none p.fine.tiles p.axis (images_of p)) (trees_need_none p.fine.tiles p.radius budget p.one p.two)

level_needs_none : (level : ℕ) (e : DeriveEnd) → (e ≡ reasons.OutOfMemory → ⊥) → at_level level e ≡ ends.OutOfMemory → ⊥
level_needs_none level reasons.EmptySet h k = cc
level_needs_none level reasons.TooManyTiles h k = cc
level_needs_none level (reasons.Repeated first second) h k = cc
level_needs_none level (reasons.Spent axis a b) h k = cc
level_needs_none level reasons.TooManyNodes h k = cc
level_needs_none level reasons.OutOfMemory h k = h refl

end_some : (e : SearchEnd) → (e ≡ ends.OutOfMemory → ⊥) → (reply : Reply) × IsEndReply e reply
end_some (ends.Spent level axis a b) h = some _
end_some (ends.NoMarker level) h = some _
end_some (ends.EmptySet level) h = some _
end_some (ends.TooManyTiles level) h = some _
end_some (ends.Repeated level) h = some _
end_some (ends.TooManyNodes level) h = some _
end_some (ends.NotGrowing start) h = some _
end_some ends.Levels h = some _
end_some ends.OutOfMemory h = absurd (h refl)

-- ---- derive

planned_some : (n : List ℕ) (links : List RawLink) (p : Plan) (budget : ℕ) (f : Option DeriveEnd) → derive_fault p budget ≡ f
    → (reply : Reply) × (answer : Result RawStep DeriveEnd) × MayAnswerStep p budget answer × derive.IsStepReply n links answer reply
planned_some n links p budget None e = (step_reply n links (derived p), Ok (derived p), (refl, e), refl)
planned_some n links p budget (Some x) e =
    let told = end_some (at_level (length links) x) (level_needs_none (length links) x (λ s. plan_needs_none p budget (e ∙ ap (λ (y : DeriveEnd). Some y) s))) in
    (told.0, Err x, inr e, told.1)

class_some : (n : List ℕ) (set : TileList) (links : List RawLink) (w : Wanted) (one two : ℕ → ℕ → Bool) (o : Option (List ℕ)) → (reply : Reply) × IsClassReply n set links w one two o reply
class_some n set links w one two None = some _
class_some n set links w one two (Some class) =
    let told = planned_some n links (plan set w.axis w.side w.radius class one two) w.budget (derive_fault (plan set w.axis w.side w.radius class one two) w.budget) refl in
    (told.0, (told.1, told.2, told.3))

derived_some : (n : List ℕ) (set : TileList) (links : List RawLink) (w : Wanted) → length set.tiles ≤ 256 → (reply : Reply) × IsStepOf n set links w reply
derived_some n set links w few =
    asked_both (level_spent_text (length links)) set.tiles w.radius w.budget (SaysStep n set links w) few
    (λ f g. class_some n set links w f g (slice_get (classes_along (length set.tiles) w.axis f g) w.class))

few_last : (set : TileList) (links : List RawLink) → length set.tiles ≤ 256 → ((k : ℕ) (link : RawLink) → slice_get links k ≡ Some link → link_fault link ≡ None) → length (last_set set links).tiles ≤ 256
few_last set [] few good = few
few_last set (link ∷ links) few good = few_last (coarse_of link) links (few_coarse link (good 0 link refl)) (λ k l e. good (suc k) l e)

behind_some : (n : List ℕ) (links : List RawLink) (w : Wanted) (end : End) (room : Bool) → length (last_set no_set links).tiles ≤ 256 → (reply : Reply) × IsBehindAll n links w room reply
behind_some n links w end true few = derived_some n (last_set no_set links) links w few
behind_some n links w end false few = some _

chain_some : (n : List ℕ) (links : List RawLink) (w : Wanted) (end : End) → length (last_set no_set links).tiles ≤ 256 → (reply : Reply) × IsBehind n links w end reply
chain_some n links w (Loop start renaming expansion) few = some _
chain_some n links w Open few = behind_some n links w Open _ few

derive_some : (n f : List ℕ) (w : Wanted) (r : Result Value Reply) → IfOk r IsGoodValue → (reply : Reply) × IsDeriveOf n f w r reply
derive_some n f w (Err stopped) good = some _
derive_some n f w (Ok (Set set)) good = derived_some n set [] w (few_tiles set good).1
derive_some n f w (Ok (Pattern p)) good = some _
derive_some n f w (Ok (Partition p)) good = some _
derive_some n f w (Ok (Chain c)) good = chain_some n c.steps w c.end (few_last no_set c.steps (omega arith) (λ k link e. good_link c k link good e))

-- ---- search

abbrev StepNeedsNone : Result RawStep SearchEnd → Type 0
StepNeedsNone r = r ≡ Err ends.OutOfMemory → ⊥

planned_needs_none : (level : ℕ) (step : RawStep) (fault : Option DeriveEnd) → NoMemory fault → StepNeedsNone (step_or_end level step fault)
planned_needs_none level step None h k = cc
planned_needs_none level step (Some x) h k = level_needs_none level x (λ s. h (ap (λ (y : DeriveEnd). Some y) s)) (let same : at_level level x ≡ ends.OutOfMemory = cc in same)

first_needs_none : (s : Asked) (level : ℕ) (set : TileList) (c : Option (List ℕ)) → StepNeedsNone (first_step s level set c)
first_needs_none s level set None k = cc
first_needs_none s level set (Some class) k =
    planned_needs_none level (derived (plan_at s level set class)) (derive_fault (plan_at s level set class) s.budget) (plan_needs_none (plan_at s level set class) s.budget) k

step_needs_none : (s : Asked) (level : ℕ) (set : TileList) → StepNeedsNone (step_at s level set)
unfolding step_at
step_needs_none s level set = first_needs_none s level set _

abbrev OverNeedsNone : Progress → Type 0
OverNeedsNone (going links nodes) = Unit {0}
OverNeedsNone (over (Ok c)) = Unit {0}
OverNeedsNone (over (Err e)) = e ≡ ends.OutOfMemory → ⊥

met_needs_none : (links : List RawLink) (nodes : ℕ) (m : Option (ℕ × List ℕ)) → OverNeedsNone (after_meeting links nodes m)
met_needs_none links nodes None = tt
met_needs_none links nodes (Some m) = by (least_expansion (drop m.0 links) m.1 (first_count (drop m.0 links)))
  where
    by : (x : Option ℕ) → OverNeedsNone (over (closed_by links m x))
    by None = λ h. cc
    by (Some n) = tt

with_needs_none : (level : ℕ) (links : List RawLink) (nodes : ℕ) (r : Result RawStep SearchEnd) → StepNeedsNone r → OverNeedsNone (with_step level links nodes r)
with_needs_none level links nodes (Err e) h = λ k. h (ap (λ (x : SearchEnd). Err x) k)
with_needs_none level links nodes (Ok step) h = by (limited (nodes_with nodes step.refuted))
  where
    by : (x : Option ℕ) → OverNeedsNone (with_nodes level (links ++ Marker step ∷ []) x)
    by None = λ k. cc
    by (Some n) = met_needs_none (links ++ Marker step ∷ []) n (meeting (links ++ Marker step ∷ []))

module _ (s : Asked) (set : TileList) where
  next_needs_none : (level : ℕ) (p : Progress) → OverNeedsNone p → OverNeedsNone (next s set level p)
  next_needs_none level (going links nodes) h = with_needs_none level links nodes (step_at s level (last_set set links)) (step_needs_none s level (last_set set links))
  next_needs_none level (over end) h = h

  progress_needs_none : (n : ℕ) → OverNeedsNone (progress s set n)
  progress_needs_none zero = tt
  progress_needs_none (suc n) = next_needs_none n (progress s set n) (progress_needs_none n)

  found_some : (n : List ℕ) (levels : ℕ) → (reply : Reply) × IsFoundReply n (found s set levels) reply
  found_some n levels = by (progress s set levels) (progress_needs_none levels)
    where
      by : (p : Progress) → OverNeedsNone p → (reply : Reply) × IsFoundReply n (outcome p) reply
      by (going links nodes) h = some _
      by (over (Ok c)) h = some _
      by (over (Err e)) h = end_some e h

  -- what is found may be answered
  may_found : (levels : ℕ) (r : Result RawChain SearchEnd) → found s set levels ≡ r → EndsAtZero set.tiles s.radius s.budget 0 r → MayAnswerSearch s set levels r
  may_found levels (Ok c) e z = record { found = e; ended = tt; at_zero = z }
  may_found levels (Err x) e z = record { found = tt; ended = inr (inr e); at_zero = z }

  abbrev SearchAnswers : List ℕ → ℕ → Type 0
  SearchAnswers n levels = (reply : Reply) × (answer : Result RawChain SearchEnd) × MayAnswerSearch s set levels answer × IsFoundReply n answer reply

  answer_found : (n : List ℕ) (levels : ℕ) → EndsAtZero set.tiles s.radius s.budget 0 (found s set levels) → SearchAnswers n levels
  answer_found n levels z = let told = found_some n levels in (told.0, found s set levels, may_found levels (found s set levels) refl z, told.1)

  answer_spent : (n : List ℕ) (levels : ℕ) (axis : Axis) (a b : ℕ) → 0 < levels → s.budget ≡ 0 → IsAskedFor set.tiles s.budget axis → IsFirstMatch set.tiles axis a b → SearchAnswers n levels
  answer_spent n levels axis a b lt z asks first =
      let given : IsSpent set.tiles s.radius s.budget 0 (ends.Spent 0 axis a b) = (axis, a, b, refl, spent_first set.tiles axis s.radius s.budget a b z first, asks) in
      (spent (level_spent_text 0 axis a b), Err (ends.Spent 0 axis a b), record { found = tt; ended = inr (inl (0, lt, given)); at_zero = λ e. inr (inr given) }, refl)

  searched : (n : List ℕ) (levels : ℕ) → 0 < levels → SearchAnswers n levels
  searched n levels some_levels = by (cases_lt 0 s.budget) (first_match set.tiles axes.One) (first_match set.tiles axes.Two)
    where
      by : (0 < s.budget) ⊎ (s.budget ≤ 0) → HasNoMatch set.tiles axes.One ⊎ ((a : ℕ) × (b : ℕ) × IsFirstMatch set.tiles axes.One a b)
          → HasNoMatch set.tiles axes.Two ⊎ ((a : ℕ) × (b : ℕ) × IsFirstMatch set.tiles axes.Two a b) → SearchAnswers n levels
      by (inl lt) one two = answer_found n levels (λ z. absurd (omega (arith, lt, z)))
      by (inr le) (inr h) two = answer_spent n levels axes.One h.0 h.1 some_levels (omega (arith, le)) tt h.2
      by (inr le) (inl none) (inr h) = answer_spent n levels axes.Two h.0 h.1 some_levels (omega (arith, le)) (λ z. none) h.2
      by (inr le) (inl none) (inl nothing) = answer_found n levels (λ z. inl (none, nothing))

search_some : (n : List ℕ) (s : Asked) (levels : ℕ) (r : Result TileList Reply) → 0 < levels → (reply : Reply) × IsSearchOf n s levels r reply
search_some n s levels (Err stopped) lt = some _
search_some n s levels (Ok set) lt = let told = searched s set n levels lt in (told.0, (told.1, told.2, told.3))

-- ---- lighten

-- what is met may be answered
met_some : (n : List ℕ) (c : RawChain) (budget : ℕ) (met : Result ℕ LightenEnd) → lightened c budget ≡ met → IfErr met NeedsNone → (reply : Reply) × IsLightenOf n budget (Ok c) reply
met_some n c budget (Ok nodes) e h = (binds n (Chain (light c)) (nodes_text (light c)), (Ok (light c), (refl, (nodes, e)), refl))
met_some n c budget (Err (light_ends.Spent step r axis a b)) e h =
    (spent (radius_spent_text step r axis a b), (Err (c, light_ends.Spent step r axis a b), (refl, inr (inr e)), refl))
met_some n c budget (Err (light_ends.TooManyNodes step)) e h = (limit (step_nodes_text step), (Err (c, light_ends.TooManyNodes step), (refl, inr (inr e)), refl))
met_some n c budget (Err light_ends.OutOfMemory) e h = absurd (h refl)

lighten_some : (n : List ℕ) (budget : ℕ) (r : Result RawChain Reply) → (reply : Reply) × IsLightenOf n budget r reply
lighten_some n budget (Err stopped) = some _
lighten_some n budget (Ok c) = met_some n c budget (lightened c budget) refl (lightened_needs_none c budget)

-- ---- code and induce

coded_some : (n : List ℕ) (g : Grid) (o : Option CodeFault) → Never code_faults.OutOfMemory o → (reply : Reply) × IsCodedReply n g o reply
coded_some n g None never = some _
coded_some n g (Some code_faults.OutsideBox) never = some _
coded_some n g (Some code_faults.TooLarge) never = some _
coded_some n g (Some (code_faults.Unplaced i j)) never = some _
coded_some n g (Some (code_faults.Doubled i j)) never = some _
coded_some n g (Some code_faults.OutOfMemory) never = absurd (never refl)

point_some : (n : List ℕ) (p : Divided) (z : Spot) (w h : ℕ) (b : Bool) → (reply : Reply) × IsPointReply n p z w h b reply
point_some n p z w h true = coded_some n (code_of p z w h) (code_fault p z w h) (code_never p z w h)
point_some n p z w h false = some _

place_some : (n : List ℕ) (p : Divided) (s t : Fraction) (w h : ℕ) (b : Bool) → (reply : Reply) × IsPlaceReply n p s t w h b reply
place_some n p s t w h true = point_some n p (reduced_spot (spot s t)) w h (is_small (reduced_spot (spot s t)))
place_some n p s t w h false = some _

code_some : (n : List ℕ) (s t : Fraction) (w h : ℕ) (r : Result Divided Reply) → (reply : Reply) × IsCodeOf n s t w h r reply
code_some n s t w h (Err stopped) = some _
code_some n s t w h (Ok p) = place_some n p s t w h (is_on_box p.torus s t)

induced_some : (n : List ℕ) (axis : Axis) (p : Divided) (o : Option InduceFault) → Never induce_faults.OutOfMemory o → (reply : Reply) × IsInducedReply n axis p o reply
induced_some n axis p None never = some _
induced_some n axis p (Some induce_faults.Half) never = some _
induced_some n axis p (Some induce_faults.TooLarge) never = some _
induced_some n axis p (Some induce_faults.TooManyPlanes) never = some _
induced_some n axis p (Some induce_faults.TooManyRegions) never = some _
induced_some n axis p (Some induce_faults.TooManyLabels) never = some _
induced_some n axis p (Some induce_faults.OutOfMemory) never = absurd (never refl)

induce_some : (n : List ℕ) (axis : Axis) (r : Result Divided Reply) → (reply : Reply) × IsInduceOf n axis r reply
induce_some n axis (Err stopped) = some _
induce_some n axis (Ok p) = induced_some n axis p (induce_fault axis p) (induce_never axis p)

-- ---- any word

pub replied : (names : Names) (w : Word) → HasGoodValues names → Fits w → (reply : Reply) × IsReply names w reply
replied names (word.Tiles n list) good fits = tiles_some (set_fault list) n list fits
replied names (word.Pattern n s cells) good fits = some _
replied names (word.Valid p) good fits = some _
replied names (word.Period p dx dy) good fits = some _
replied names (word.Fuse s axis u v) good fits = some _
replied names (word.Cert c) good fits = some _
replied names (word.Check n bytes) good fits = some _
replied names (word.Upgrade n c) good fits = some _
replied names (word.Lighten n c b) good fits = lighten_some n b (chain_named names c)
replied names (word.Expand n c w h) good fits = some _
replied names (word.Image c t) good fits = some _
replied names (word.Desub n c k p) good fits = desub_some names n (chain_named names c) k p good (good_chain names c good)
replied names (word.Bound c dx dy) good fits = some _
replied names (word.Draw p style) good fits = some _
replied names (word.Json m) good fits = some _
replied names (word.Dominoes s axis r b) good fits = dominoes_some axis r b (set_named names s) (good_set names s good)
replied names (word.Surround s axis t u r b) good fits = surround_some axis t u r b (set_named names s)
replied names (word.Markers s axis r b) good fits = markers_some axis r b (set_named names s) (good_set names s good)
replied names (word.Same s t) good fits = some _
replied names (word.Search n s turns side r l b) good fits = search_some n (asked turns side r b) l (set_named names s) (omega (arith, fits.3))
replied names (word.Derive n f axis side r j b) good fits = derive_some n f (wanted axis side r j b) (value_named names f) (good_value names f good)
replied names (word.Primitive c) good fits = primitive_some (chain_named names c)
replied names (word.Seeds c q) good fits = some _
replied names (word.Census c k t) good fits = census_reply k t (chain_named names c)
replied names (word.Torus n width height move1 move2 regions) good fits = some _
replied names (word.Code n t x y w h) good fits = code_some n x y w h (partition_named names t)
replied names (word.Induce n t axis) good fits = induce_some n axis (partition_named names t)
