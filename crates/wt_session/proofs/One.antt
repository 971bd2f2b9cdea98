-- Two replies of one command are the same, where its budget is enough.
use Rattle.std.proofs.Common.{arith, ◌≡◌, ◌≤◌, ℕ, Bool, true, false, List, [], length, get_or, drop, slice_get, nat_le, Option, None, Some, option_map, if◌then◌else◌, Result, Ok, Err, inl, inr, refl, sym, subst, ap, ◌∙◌}
use Rattle.std.specs.Prelude.{IfOk, codes}
use Rattle.std.proofs.lemmas.Bool.{cases_lt, and_parts}
use Rattle.std.proofs.lemmas.Bool.Decides.{nat_tests}
use Rattle.std.proofs.lemmas.List.{ext_get_or}
use Rattle.std.proofs.lemmas.Option.{slice_get_within, get_or_from_slice_get}
use Rattle.wt_grid.specs.declared.axis.Axis.{Axis}
use Rattle.wt_grid.specs.declared.axis.Axis.TheVariants as axes
use Rattle.wt_grid.specs.First.{or_else}
use Rattle.wt_grid.specs.Grid.{Grid, IsGrid, along, across}
use Rattle.wt_grid.specs.Parts.{core}
use Rattle.wt_grid.proofs.Order.{one_before}
use Rattle.wt_tile.specs.declared.tile.Tile.{Tile}
use Rattle.wt_tile.specs.declared.tile.TileList.{TileList}
use Rattle.wt_tile.specs.declared.tile.SetFault.{SetFault}
use Rattle.wt_tile.specs.declared.tile.SetFault.TheVariants as set_faults
use Rattle.wt_tile.specs.Sets.{set_fault}
use Rattle.wt_pattern.specs.declared.fault.Fault.{Fault}
use Rattle.wt_pattern.specs.Validity.{first_fault}
use Rattle.wt_pattern.specs.Windows.{IsEmptyWindow}
use Rattle.wt_step.specs.declared.raw.RawStep.{RawStep}
use Rattle.wt_step.specs.declared.raw.RawLink.{RawLink}
use Rattle.wt_step.specs.declared.raw.RawLink.TheVariants.{Marker, Restrict}
use Rattle.wt_step.specs.declared.coarse.DesubFault.{DesubFault}
use Rattle.wt_step.specs.declared.coarse.DesubFault.TheVariants as desub_faults
use Rattle.wt_step.specs.Links.{link_fault, fine_of}
use Rattle.wt_step.specs.Coarse.{IsDesubstitution, HasMargin, has_margin, desub_fault, cuts_low, cuts_high}
use Rattle.wt_step.proofs.Goodness.{good_step}
use Rattle.wt_step.proofs.Restricted.{good_restrict, one_kept}
use Rattle.wt_step.proofs.Desubstitution.{one_coarse}
use Rattle.wt_chain.specs.declared.raw.RawChain.{RawChain}
use Rattle.wt_chain.specs.declared.raw.End.{End}
use Rattle.wt_chain.specs.declared.raw.End.TheVariants.{Open, Loop}
use Rattle.wt_chain.specs.Faults.{chain_fault}
use Rattle.wt_chain.specs.Sets.{same_set, last_set}
use Rattle.wt_chain.proofs.Good.{step_good}
use Rattle.wt_check.specs.declared.counts.CensusFault.{CensusFault}
use Rattle.wt_check.specs.declared.counts.CensusFault.TheVariants as census_faults
use Rattle.wt_check.specs.Primitive.{IsLoopPower}
use Rattle.wt_window.specs.declared.window.WindowEnd.{WindowEnd}
use Rattle.wt_window.specs.declared.window.WindowEnd.TheVariants as window_ends
use Rattle.wt_window.specs.declared.domino_table.TableEnd.{TableEnd}
use Rattle.wt_window.specs.declared.domino_table.TableEnd.TheVariants as table_ends
use Rattle.wt_window.specs.Surrounded.{IsLeastWindow, surroundable, allowed}
use Rattle.wt_window.specs.Outcomes.{MayAnswerWindow, MayAnswerTable}
use Rattle.wt_window.proofs.Windows.{whole_windows}
use Rattle.wt_marker.specs.declared.end.DeriveEnd.{DeriveEnd}
use Rattle.wt_marker.specs.Derived.{Plan, plan, derived, derive_fault, MayAnswerStep}
use Rattle.wt_search.specs.declared.end.SearchEnd.{SearchEnd}
use Rattle.wt_search.specs.declared.end.SearchEnd.TheVariants as ends
use Rattle.wt_search.specs.Asked.{Asked, asked, at_level}
use Rattle.wt_search.specs.Found.{Progress, going, over, progress, found, SpentAfter, MayEnd, MayAnswerSearch}
use Rattle.wt_search.specs.declared.light_end.LightenEnd.{LightenEnd}
use Rattle.wt_search.specs.declared.light_end.LightenEnd.TheVariants as light_ends
use Rattle.wt_search.specs.Light.{light}
use Rattle.wt_search.specs.Lightened.{lightened, MayStop, MayBeSpentFrom, MayAnswerLighten}
use Rattle.wt_search.specs.Enough.{HasEnough, IsEnough, IsNotSpent}
use Rattle.wt_search.proofs.Enough.{enough_for}
use Rattle.wt_search.proofs.Levels.{same_table}
use Rattle.wt_script.specs.declared.word.Word.{Word}
use Rattle.wt_script.specs.declared.word.Word.TheVariants as word
use Rattle.wt_session.specs.declared.words.derive.Wanted.{Wanted}
use Rattle.wt_session.specs.declared.value.Value.{Value}
use Rattle.wt_session.specs.declared.value.Value.TheVariants.{Set, Pattern, Chain, Partition}
use Rattle.wt_session.specs.Sheets.{Laid}
use Rattle.wt_golden.specs.Fractions.{Fraction}
use Rattle.wt_induce.specs.declared.fault.InduceFault.{InduceFault}
use Rattle.wt_induce.specs.declared.fault.InduceFault.TheVariants as induce_faults
use Rattle.wt_induce.specs.Faults.{induce_fault}
use Rattle.wt_plane.specs.HalfPlanes.{Spot, spot, reduced_spot}
use Rattle.wt_torus.specs.declared.coded.CodeFault.{CodeFault}
use Rattle.wt_torus.specs.declared.coded.CodeFault.TheVariants as code_faults
use Rattle.wt_torus.specs.declared.partition.Partition.{Partition as Divided}
use Rattle.wt_torus.specs.Codes.{is_small, code_fault, code_of}
use Rattle.wt_session.specs.Code.{is_on_box, IsCodedReply, IsPointReply, IsPlaceReply, IsCodeOf}
use Rattle.wt_session.specs.Induce.{IsInducedReply, IsInduceOf}
use Rattle.wt_session.specs.Names.{Names, find}
use Rattle.wt_session.specs.Values.{IsGoodValue, HasGoodValues}
use Rattle.wt_session.specs.Replies.{Reply, says, binds, chain_in, chain_named, partition_named, pattern_named, set_named, value_named, open_chain}
use Rattle.wt_session.specs.Tiles.{IsTilesReplyBy}
use Rattle.wt_session.specs.Desub.{IsTakenReply, IsSetReply, IsStepReply, IsOverReply, IsDesubOf, IsDesubIn, coarse_reply}
use Rattle.wt_session.specs.Primitive.{IsPowerReply, IsPrimitiveOf, power_text}
use Rattle.wt_session.specs.Census.{MayAnswerCensus, IsCountsReply, IsCensusOf, counts_text}
use Rattle.wt_session.specs.Tables.{AsksTable, AsksTables, IsTableReply, spent_text}
use Rattle.wt_session.specs.Dominoes.{IsDominoesOf, SaysDominoes}
use Rattle.wt_session.specs.Markers.{IsMarkersOf, SaysClasses, classes_along}
use Rattle.wt_session.specs.Surround.{IsWindowReply, IsWindowOf, IsSurroundOf, window_text, first_no_tile}
use Rattle.wt_session.specs.Levels.{IsEndReply, level_spent_text}
use Rattle.wt_session.specs.Search.{IsFoundReply, IsSearchOf}
use Rattle.wt_session.specs.Derive as derive
use Rattle.wt_session.specs.Derive.{IsClassReply, SaysStep, IsStepOf, IsBehind, IsBehindAll, IsDeriveOf, no_set, step_reply, wanted}
use Rattle.wt_session.specs.Lighten.{IsHeavyReply, IsLightReply, IsLightenOf, nodes_text}
use Rattle.wt_session.specs.Meaning.{IsReply}
use Rattle.wt_session.specs.Enough.{HasEnoughTrials, HasEnoughAlong, HasEnoughAround, HasEnoughAtEnd, HasEnoughBehind, HasEnoughForSteps, IsEnoughFor}
use Rattle.wt_session.proofs.Heavy.{none_given_up}

-- ---- tiles

tiles_one : (f : Option SetFault) (n : List ℕ) (list : TileList) (x y : Reply) → IsTilesReplyBy f n list x → IsTilesReplyBy f n list y → x ≡ y
tiles_one None n list x y e k = e ∙ sym k
tiles_one (Some set_faults.Empty) n list x y e k = e ∙ sym k
tiles_one (Some (set_faults.Repeated i j)) n list x y e k = e ∙ sym k
tiles_one (Some set_faults.TooMany) n list x y e k = absurd e
tiles_one (Some (set_faults.NoColour t)) n list x y e k = absurd e
tiles_one (Some (set_faults.Names axis)) n list x y e k = absurd e

-- ---- desub

-- a chain that a name is bound to is good
pub good_chain : (names : Names) (n : List ℕ) → HasGoodValues names → IfOk (chain_named names n) (λ c. chain_fault c ≡ None)
good_chain names n good = by (find n names) (good n)
  where
    by : (o : Option Value) → ((v : Value) → o ≡ Some v → IsGoodValue v) → IfOk (chain_in n o) (λ c. chain_fault c ≡ None)
    by None g = tt
    by (Some (Set set)) g = tt
    by (Some (Pattern p)) g = tt
    by (Some (Chain c)) g = g (Chain c) refl
    by (Some (Partition p)) g = tt

pub good_link : (c : RawChain) (k : ℕ) (link : RawLink) → chain_fault c ≡ None → slice_get c.steps k ≡ Some link → link_fault link ≡ None
good_link c k link good e =
    let same : get_or c.steps k link ≡ link = get_or_from_slice_get c.steps k link link e in
    subst (λ (l : RawLink). link_fault l ≡ None) same (step_good c k link good (slice_get_within c.steps k link e))

-- a pattern that is taken apart is valid, and has the margin
pub taken_apart : (link : RawLink) (p : Grid) → desub_fault link p ≡ None → (first_fault (fine_of link).tiles p ≡ None) × (has_margin link p ≡ true)
taken_apart link p e = by (first_fault (fine_of link).tiles p) (has_margin link p) e
  where
    by : (o : Option Fault) (b : Bool) → or_else (option_map desub_faults.NotValid o) (if b then None else Some desub_faults.TooSmall) ≡ None → (o ≡ None) × (b ≡ true)
    by None true h = (refl, refl)
    by None false h = absurd cc
    by (Some f) b h = absurd cc

at_least : (k n : ℕ) → nat_le k n ≡ true → k ≤ n
at_least k n e = grind (arith, nat_tests, e)

-- the test of the margin tells of it
pub margin : (link : RawLink) (p : Grid) → has_margin link p ≡ true → HasMargin link p
margin (Marker s) p e =
    let m = and_parts (nat_le 3 (along s.axis (core s.radius p))) (nat_le 1 (across s.axis (core s.radius p))) e in
    (at_least 3 (along s.axis (core s.radius p)) m.0, at_least 1 (across s.axis (core s.radius p)) m.1)
margin (Restrict s) p e =
    let m = and_parts (nat_le 1 (core s.radius p).width) (nat_le 1 (core s.radius p).height) e in
    (at_least 1 (core s.radius p).width m.0, at_least 1 (core s.radius p).height m.1)

coarse_one : (link : RawLink) (p q r : Grid) → link_fault link ≡ None → has_margin link p ≡ true → IsGrid q → IsGrid r → IsDesubstitution link p q → IsDesubstitution link p r → q ≡ r
unfolding link_fault
coarse_one (Marker s) p q r good m gq gr iq ir = one_coarse s (good_step s good) p q r (margin (Marker s) p m).1 gq gr iq ir
coarse_one (Restrict s) p q r good m gq gr iq ir = one_kept s (good_restrict s good) p q r (margin (Restrict s) p m).1 gq gr iq ir

taken_one : (n : List ℕ) (link : RawLink) (p : Grid) (x y : Reply) → link_fault link ≡ None → (f : Option DesubFault) → desub_fault link p ≡ f → IsTakenReply n link p f x → IsTakenReply n link p f y → x ≡ y
taken_one n link p x y good (Some (desub_faults.NotValid fault)) e is js = is ∙ sym js
taken_one n link p x y good (Some desub_faults.TooSmall) e is js = is ∙ sym js
taken_one n link p x y good (Some desub_faults.OutOfMemory) e is js = absurd is
taken_one n link p x y good None e is js =
    let same : is.0 ≡ js.0 = coarse_one link p is.0 js.0 good (taken_apart link p e).1 is.2.0 js.2.0 is.1 js.1 in
    is.3 ∙ (ap (λ (q : Grid). coarse_reply n link q (cuts_low link p) (cuts_high link p)) same ∙ sym js.3)

own_one : (n : List ℕ) (link : RawLink) (p : Grid) (same : Bool) (x y : Reply) → link_fault link ≡ None → IsSetReply n link p same x → IsSetReply n link p same y → x ≡ y
own_one n link p true x y good is js = taken_one n link p x y good (desub_fault link p) refl is js
own_one n link p false x y good is js = is ∙ sym js

step_one : (n : List ℕ) (k : ℕ) (p : Grid) (set : TileList) (o : Option RawLink) (x y : Reply) → ((link : RawLink) → o ≡ Some link → link_fault link ≡ None)
    → IsStepReply n k p set o x → IsStepReply n k p set o y → x ≡ y
step_one n k p set None x y good is js = is ∙ sym js
step_one n k p set (Some link) x y good is js = own_one n link p (same_set set (fine_of link)) x y (good link refl) is js

over_one : (n : List ℕ) (c : RawChain) (k : ℕ) (p : Grid) (over : Option TileList) (x y : Reply) → chain_fault c ≡ None → IsOverReply n c k p over x → IsOverReply n c k p over y → x ≡ y
over_one n c k p None x y good is js = is ∙ sym js
over_one n c k p (Some set) x y good is js = step_one n k p set (slice_get c.steps k) x y (λ link e. good_link c k link good e) is js

laid_one : (n : List ℕ) (c : RawChain) (k : ℕ) (r : Result Laid Reply) (x y : Reply) → chain_fault c ≡ None → IsDesubOf n c k r x → IsDesubOf n c k r y → x ≡ y
laid_one n c k (Err stopped) x y good is js = is ∙ sym js
laid_one n c k (Ok laid) x y good is js = over_one n c k laid.pattern laid.over x y good is js

desub_one : (names : Names) (n : List ℕ) (r : Result RawChain Reply) (k : ℕ) (p : List ℕ) (x y : Reply) → IfOk r (λ c. chain_fault c ≡ None)
    → IsDesubIn names n r k p x → IsDesubIn names n r k p y → x ≡ y
desub_one names n (Err stopped) k p x y good is js = is ∙ sym js
desub_one names n (Ok c) k p x y good is js = laid_one n c k (pattern_named names p) x y good is js

-- ---- primitive

power_one : (loop : List RawLink) (renaming : List ℕ) (p q : Option ℕ) → IsLoopPower loop renaming p → IsLoopPower loop renaming q → p ≡ q
power_one loop renaming None None is js = refl
power_one loop renaming None (Some q) is js = absurd (is q js.0 js.1 js.2)
power_one loop renaming (Some p) None is js = absurd (js p is.0 is.1 is.2)
power_one loop renaming (Some p) (Some q) is js = elim (cases_lt p q) [
  | inl lt ↦ absurd (js.3 p is.0 (omega (arith, lt)) is.2)
  | inr ge ↦ elim (cases_lt q p) [
    | inl lt ↦ absurd (is.3 q js.0 (omega (arith, lt)) js.2)
    | inr le ↦ let same : p ≡ q = omega (arith, ge, le) in ap (λ (n : ℕ). Some n) same
  ]
]

power_end : (steps : List RawLink) (end : End) (x y : Reply) → IsPowerReply steps end x → IsPowerReply steps end y → x ≡ y
power_end steps Open x y is js = is ∙ sym js
power_end steps (Loop start renaming expansion) x y is js =
    is.2 ∙ (ap (λ (p : Option ℕ). says (power_text p)) (power_one (drop start steps) renaming is.0 js.0 is.1 js.1) ∙ sym js.2)

primitive_one : (r : Result RawChain Reply) (x y : Reply) → IsPrimitiveOf r x → IsPrimitiveOf r y → x ≡ y
primitive_one (Err stopped) x y is js = is ∙ sym js
primitive_one (Ok c) x y is js = power_end c.steps c.end x y is js

-- ---- census

open_census : (steps : List RawLink) (turns tile : ℕ) (answer : Result (List ℕ) CensusFault) (reply : Reply) → MayAnswerCensus steps Open turns tile answer → IsCountsReply tile answer reply → reply ≡ open_chain
open_census steps turns tile (Ok counts) reply may is = absurd may.0
open_census steps turns tile (Err census_faults.OpenChain) reply may is = is
open_census steps turns tile (Err census_faults.NoTile) reply may is = absurd cc
open_census steps turns tile (Err census_faults.TooLarge) reply may is = absurd cc
open_census steps turns tile (Err census_faults.OutOfMemory) reply may is = absurd is

module _ (steps : List RawLink) (start : ℕ) (renaming : List ℕ) (expansion turns tile : ℕ) where
  abbrev May : Result (List ℕ) CensusFault → Type 0
  May answer = MayAnswerCensus steps (Loop start renaming expansion) turns tile answer

  counts_one : (x y : Result (List ℕ) CensusFault) (s t : Reply) → May x → IsCountsReply tile x s → May y → IsCountsReply tile y t → s ≡ t
  counts_one (Ok counts) (Ok others) s t mx is my js =
      let size : length counts ≡ length others = mx.0.0 ∙ sym my.0.0 in
      let same : counts ≡ others = ext_get_or 0 counts others size (λ u lt. mx.0.1 u (omega (arith, lt, mx.0.0)) ∙ sym (my.0.1 u (omega (arith, lt, mx.0.0)))) in
      is ∙ (ap (λ (ns : List ℕ). says (counts_text ns)) same ∙ sym js)
  counts_one (Ok counts) (Err census_faults.OpenChain) s t mx is my js = absurd my
  counts_one (Ok counts) (Err census_faults.NoTile) s t mx is my js = let lt = mx.1.0 in absurd (omega (arith, lt, my))
  counts_one (Ok counts) (Err census_faults.TooLarge) s t mx is my js = absurd (mx.1.1 my.1)
  counts_one (Ok counts) (Err census_faults.OutOfMemory) s t mx is my js = absurd js
  counts_one (Err census_faults.OpenChain) y s t mx is my js = absurd mx
  counts_one (Err census_faults.OutOfMemory) y s t mx is my js = absurd is
  counts_one (Err census_faults.NoTile) (Ok counts) s t mx is my js = let lt = my.1.0 in absurd (omega (arith, lt, mx))
  counts_one (Err census_faults.NoTile) (Err census_faults.OpenChain) s t mx is my js = absurd my
  counts_one (Err census_faults.NoTile) (Err census_faults.NoTile) s t mx is my js = is ∙ sym js
  counts_one (Err census_faults.NoTile) (Err census_faults.TooLarge) s t mx is my js = let lt = my.0 in absurd (omega (arith, lt, mx))
  counts_one (Err census_faults.NoTile) (Err census_faults.OutOfMemory) s t mx is my js = absurd js
  counts_one (Err census_faults.TooLarge) (Ok counts) s t mx is my js = absurd (my.1.1 mx.1)
  counts_one (Err census_faults.TooLarge) (Err census_faults.OpenChain) s t mx is my js = absurd my
  counts_one (Err census_faults.TooLarge) (Err census_faults.NoTile) s t mx is my js = let lt = mx.0 in absurd (omega (arith, lt, my))
  counts_one (Err census_faults.TooLarge) (Err census_faults.TooLarge) s t mx is my js = is ∙ sym js
  counts_one (Err census_faults.TooLarge) (Err census_faults.OutOfMemory) s t mx is my js = absurd js

census_end : (steps : List RawLink) (end : End) (turns tile : ℕ) (a b : Result (List ℕ) CensusFault) (x y : Reply)
    → MayAnswerCensus steps end turns tile a → IsCountsReply tile a x → MayAnswerCensus steps end turns tile b → IsCountsReply tile b y → x ≡ y
census_end steps Open turns tile a b x y ma is mb js = open_census steps turns tile a x ma is ∙ sym (open_census steps turns tile b y mb js)
census_end steps (Loop start renaming expansion) turns tile a b x y ma is mb js = counts_one steps start renaming expansion turns tile a b x y ma is mb js

census_one : (turns tile : ℕ) (r : Result RawChain Reply) (x y : Reply) → IsCensusOf turns tile r x → IsCensusOf turns tile r y → x ≡ y
census_one turns tile (Err stopped) x y is js = is ∙ sym js
census_one turns tile (Ok c) x y is js = census_end c.steps c.end turns tile is.0 js.0 x y is.1 is.2 js.1 js.2

-- ---- tables of dominoes

-- where the budget is enough, what is said is said of the pairs that have a window
pub asked_table : (line : Axis → ℕ → ℕ → List ℕ) (ts : List Tile) (axis : Axis) (r budget : ℕ) (Said : (ℕ → ℕ → Bool) → Reply → Type 0) (reply : Reply)
    → HasEnoughAlong ts axis r budget → AsksTable line ts axis r budget Said reply → Said (surroundable ts axis r) reply
asked_table line ts axis r budget Said reply enough asks = by asks.0 asks.1 asks.2
  where
    by : (answer : Result (List (List ℕ)) TableEnd) → MayAnswerTable ts axis r budget answer → IsTableReply line axis Said answer reply → Said (surroundable ts axis r) reply
    by (Ok rows) may is = subst (λ (f : ℕ → ℕ → Bool). Said f reply) (same_table ts axis r (allowed rows) may.0) is
    by (Err table_ends.OutOfMemory) may is = absurd is
    by (Err (table_ends.Spent a b)) (inl e) is = absurd cc
    by (Err (table_ends.Spent a b)) (inr h) is =
        let pair = h.3 in
        let over = pair.over in
        let most = enough h.0 h.1 pair.first pair.second pair.fits in
        absurd (omega (arith, over, most))

pub asked_tables : (line : Axis → ℕ → ℕ → List ℕ) (ts : List Tile) (r budget : ℕ) (Said : (ℕ → ℕ → Bool) → (ℕ → ℕ → Bool) → Reply → Type 0) (reply : Reply)
    → HasEnoughAround ts r budget → AsksTables line ts r budget Said reply → Said (surroundable ts axes.One r) (surroundable ts axes.Two r) reply
asked_tables line ts r budget Said reply enough asks =
    asked_table line ts axes.Two r budget (Said (surroundable ts axes.One r)) reply enough.1
    (asked_table line ts axes.One r budget (λ one. AsksTable line ts axes.Two r budget (Said one)) reply enough.0 asks)

dominoes_one : (axis : Axis) (r budget : ℕ) (s : Result TileList Reply) (x y : Reply) → IfOk s (λ set. HasEnoughAlong set.tiles axis r budget)
    → IsDominoesOf axis r budget s x → IsDominoesOf axis r budget s y → x ≡ y
dominoes_one axis r budget (Err stopped) x y enough is js = is ∙ sym js
dominoes_one axis r budget (Ok set) x y enough is js =
    asked_table spent_text set.tiles axis r budget (SaysDominoes (length set.tiles)) x enough is
    ∙ sym (asked_table spent_text set.tiles axis r budget (SaysDominoes (length set.tiles)) y enough js)

markers_one : (axis : Axis) (r budget : ℕ) (s : Result TileList Reply) (x y : Reply) → IfOk s (λ set. HasEnoughAround set.tiles r budget)
    → IsMarkersOf axis r budget s x → IsMarkersOf axis r budget s y → x ≡ y
markers_one axis r budget (Err stopped) x y enough is js = is ∙ sym js
markers_one axis r budget (Ok set) x y enough is js =
    asked_tables spent_text set.tiles r budget (SaysClasses (length set.tiles) axis) x enough is
    ∙ sym (asked_tables spent_text set.tiles r budget (SaysClasses (length set.tiles) axis) y enough js)

-- ---- one window

same_grid : (w w' h h' : ℕ) (c c' : List ℕ) → w ≡ w' → h ≡ h' → c ≡ c' → Path Grid (record { width = w; height = h; cells = c }) (record { width = w'; height = h'; cells = c' })
same_grid w w' h h' c c' e f g = cc

least_one : (ts : List Tile) (axis : Axis) (a b r : ℕ) (g h : Grid) → IsLeastWindow ts axis a b r g → IsLeastWindow ts axis a b r h → g ≡ h
least_one ts axis a b r g h is js =
    let wg = (whole_windows ts axis a b r g).0 is.window in
    let wh = (whole_windows ts axis a b r h).0 js.window in
    let cells : g.cells ≡ h.cells = elim (is.least h js.window) [
      | inl e ↦ e
      | inr before ↦ elim (js.least g is.window) [ inl e ↦ sym e | inr after ↦ absurd (one_before g.cells h.cells before after) ]
    ] in
    same_grid g.width h.width g.height h.height g.cells h.cells (wg.0 ∙ sym wh.0) (wg.1 ∙ sym wh.1) cells

-- what a search finds that isn't spent
abbrev pub IsFoundWindow : List Tile → Axis → ℕ → ℕ → ℕ → Option Grid → Type 0
IsFoundWindow ts axis a b r None = IsEmptyWindow ts axis a b r
IsFoundWindow ts axis a b r (Some g) = IsLeastWindow ts axis a b r g

abbrev pub window_reply : Option Grid → Reply
window_reply None = says (codes "none\n")
window_reply (Some g) = says (window_text g)

pub window_found : (ts : List Tile) (axis : Axis) (a b r budget : ℕ) (answer : Result (Option Grid) WindowEnd) (reply : Reply) → HasEnoughTrials ts axis a b r budget
    → MayAnswerWindow ts axis a b r budget answer → IsWindowReply axis a b answer reply → (found : Option Grid) × IsFoundWindow ts axis a b r found × (reply ≡ window_reply found)
window_found ts axis a b r budget (Ok None) reply enough may is = (None, may.0, is)
window_found ts axis a b r budget (Ok (Some g)) reply enough may is = (Some g, may.0, is)
window_found ts axis a b r budget (Err window_ends.OutOfMemory) reply enough may is = absurd is
window_found ts axis a b r budget (Err window_ends.Spent) reply enough (fits, inl h) is = let e = h.0 in absurd cc
window_found ts axis a b r budget (Err window_ends.Spent) reply enough (fits, inr h) is = let over = h.1 in let most = enough fits in absurd (omega (arith, over, most))

found_one : (ts : List Tile) (axis : Axis) (a b r : ℕ) (f g : Option Grid) → IsFoundWindow ts axis a b r f → IsFoundWindow ts axis a b r g → f ≡ g
found_one ts axis a b r None None is js = refl
found_one ts axis a b r None (Some g) is js = absurd (is g js.window)
found_one ts axis a b r (Some g) None is js = absurd (js g is.window)
found_one ts axis a b r (Some g) (Some h) is js = ap (λ (x : Grid). Some x) (least_one ts axis a b r g h is js)

window_one : (ts : List Tile) (axis : Axis) (a b r budget : ℕ) (o : Option ℕ) (x y : Reply) → HasEnoughTrials ts axis a b r budget
    → IsWindowOf ts axis a b r budget o x → IsWindowOf ts axis a b r budget o y → x ≡ y
window_one ts axis a b r budget (Some t) x y enough is js = is ∙ sym js
window_one ts axis a b r budget None x y enough is js =
    let one = window_found ts axis a b r budget is.0 x enough is.1 is.2 in
    let two = window_found ts axis a b r budget js.0 y enough js.1 js.2 in
    one.2 ∙ (ap window_reply (found_one ts axis a b r one.0 two.0 one.1 two.1) ∙ sym two.2)

surround_one : (axis : Axis) (a b r budget : ℕ) (s : Result TileList Reply) (x y : Reply) → IfOk s (λ set. HasEnoughTrials set.tiles axis a b r budget)
    → IsSurroundOf axis a b r budget s x → IsSurroundOf axis a b r budget s y → x ≡ y
surround_one axis a b r budget (Err stopped) x y enough is js = is ∙ sym js
surround_one axis a b r budget (Ok set) x y enough is js = window_one set.tiles axis a b r budget (first_no_tile (length set.tiles) a b) x y enough is js

-- ---- search

end_one : (e : SearchEnd) (x y : Reply) → IsEndReply e x → IsEndReply e y → x ≡ y
end_one (ends.Spent level axis a b) x y is js = is ∙ sym js
end_one (ends.NoMarker level) x y is js = is ∙ sym js
end_one (ends.EmptySet level) x y is js = is ∙ sym js
end_one (ends.TooManyTiles level) x y is js = is ∙ sym js
end_one (ends.Repeated level) x y is js = is ∙ sym js
end_one (ends.TooManyNodes level) x y is js = is ∙ sym js
end_one (ends.NotGrowing start) x y is js = is ∙ sym js
end_one ends.Levels x y is js = is ∙ sym js
end_one ends.OutOfMemory x y is js = absurd is

found_reply_one : (n : List ℕ) (answer : Result RawChain SearchEnd) (x y : Reply) → IsFoundReply n answer x → IsFoundReply n answer y → x ≡ y
found_reply_one n (Ok c) x y is js = is ∙ sym js
found_reply_one n (Err e) x y is js = end_one e x y is js

never_spent : (s : Asked) (set : TileList) (level : ℕ) (p : Progress) (e : SearchEnd) → IsNotSpent e → SpentAfter s set level p e → ⊥
never_spent s set level (going links nodes) e not h = not level h.0 h.1 h.2 h.3
never_spent s set level (over end) e not h = h

-- where the budget is enough, the reply is that to what is found
pub reply_to_found : (n : List ℕ) (s : Asked) (set : TileList) (levels : ℕ) (answer : Result RawChain SearchEnd) (reply : Reply) → IsEnough s set levels
    → MayAnswerSearch s set levels answer → IsFoundReply n answer reply → IsFoundReply n (found s set levels) reply
reply_to_found n s set levels (Ok c) reply enough may is = subst (λ (a : Result RawChain SearchEnd). IsFoundReply n a reply) (sym may.found) is
reply_to_found n s set levels (Err e) reply enough may is = by may.ended
  where
    not : IsNotSpent e
    not = enough_for s set levels e enough may.ended

    by : MayEnd s set levels e → IsFoundReply n (found s set levels) reply
    by (inl h) = absurd (subst (λ (x : SearchEnd). IsEndReply x reply) h is)
    by (inr (inl h)) = absurd (never_spent s set h.0 (progress s set h.0) e not h.2)
    by (inr (inr h)) = subst (λ (a : Result RawChain SearchEnd). IsFoundReply n a reply) (sym h) is

search_one : (n : List ℕ) (s : Asked) (levels : ℕ) (r : Result TileList Reply) (x y : Reply) → IfOk r (λ set. IsEnough s set levels) → IsSearchOf n s levels r x → IsSearchOf n s levels r y → x ≡ y
search_one n s levels (Err stopped) x y enough is js = is ∙ sym js
search_one n s levels (Ok set) x y enough is js =
    found_reply_one n (found s set levels) x y (reply_to_found n s set levels is.0 x enough is.1 is.2) (reply_to_found n s set levels js.0 y enough js.1 js.2)

-- ---- derive

-- the reply to the reason against a plan's step, or to the step
abbrev pub IsPlannedReply : List ℕ → List RawLink → Plan → Option DeriveEnd → Reply → Type 0
IsPlannedReply n links p None reply = reply ≡ step_reply n links (derived p)
IsPlannedReply n links p (Some e) reply = IsEndReply (at_level (length links) e) reply

planned_one : (n : List ℕ) (links : List RawLink) (p : Plan) (f : Option DeriveEnd) (x y : Reply) → IsPlannedReply n links p f x → IsPlannedReply n links p f y → x ≡ y
planned_one n links p None x y is js = is ∙ sym js
planned_one n links p (Some e) x y is js = end_one (at_level (length links) e) x y is js

pub reply_to_plan : (n : List ℕ) (links : List RawLink) (p : Plan) (budget : ℕ) (answer : Result RawStep DeriveEnd) (reply : Reply)
    → MayAnswerStep p budget answer → derive.IsStepReply n links answer reply → IsPlannedReply n links p (derive_fault p budget) reply
reply_to_plan n links p budget (Ok step) reply may is =
    subst (λ (f : Option DeriveEnd). IsPlannedReply n links p f reply) (sym may.1) (is ∙ ap (step_reply n links) may.0)
reply_to_plan n links p budget (Err e) reply (inl h) is = absurd (subst (λ (x : DeriveEnd). IsEndReply (at_level (length links) x) reply) h is)
reply_to_plan n links p budget (Err e) reply (inr h) is = subst (λ (f : Option DeriveEnd). IsPlannedReply n links p f reply) (sym h) is

class_one : (n : List ℕ) (set : TileList) (links : List RawLink) (w : Wanted) (one two : ℕ → ℕ → Bool) (o : Option (List ℕ)) (x y : Reply)
    → IsClassReply n set links w one two o x → IsClassReply n set links w one two o y → x ≡ y
class_one n set links w one two None x y is js = is ∙ sym js
class_one n set links w one two (Some class) x y is js =
    planned_one n links (plan set w.axis w.side w.radius class one two) (derive_fault (plan set w.axis w.side w.radius class one two) w.budget) x y
    (reply_to_plan n links (plan set w.axis w.side w.radius class one two) w.budget is.0 x is.1 is.2)
    (reply_to_plan n links (plan set w.axis w.side w.radius class one two) w.budget js.0 y js.1 js.2)

pub around : (ts : List Tile) (r budget : ℕ) → HasEnough ts r budget → HasEnoughAround ts r budget
around ts r budget enough = (enough.windows axes.One, enough.windows axes.Two)

derived_one : (n : List ℕ) (set : TileList) (links : List RawLink) (w : Wanted) (x y : Reply) → HasEnough set.tiles w.radius w.budget → IsStepOf n set links w x → IsStepOf n set links w y → x ≡ y
derived_one n set links w x y enough is js =
    class_one n set links w (surroundable set.tiles axes.One w.radius) (surroundable set.tiles axes.Two w.radius)
    (slice_get (classes_along (length set.tiles) w.axis (surroundable set.tiles axes.One w.radius) (surroundable set.tiles axes.Two w.radius)) w.class) x y
    (asked_tables (level_spent_text (length links)) set.tiles w.radius w.budget (SaysStep n set links w) x (around set.tiles w.radius w.budget enough) is)
    (asked_tables (level_spent_text (length links)) set.tiles w.radius w.budget (SaysStep n set links w) y (around set.tiles w.radius w.budget enough) js)

behind_all_one : (n : List ℕ) (links : List RawLink) (w : Wanted) (room : Bool) (x y : Reply) → HasEnough (last_set no_set links).tiles w.radius w.budget
    → IsBehindAll n links w room x → IsBehindAll n links w room y → x ≡ y
behind_all_one n links w true x y enough is js = derived_one n (last_set no_set links) links w x y enough is js
behind_all_one n links w false x y enough is js = is ∙ sym js

behind_one : (n : List ℕ) (links : List RawLink) (w : Wanted) (end : End) (x y : Reply) → HasEnoughAtEnd links w.radius w.budget end → IsBehind n links w end x → IsBehind n links w end y → x ≡ y
behind_one n links w (Loop start renaming expansion) x y enough is js = is ∙ sym js
behind_one n links w Open x y enough is js = behind_all_one n links w _ x y enough is js

derive_one : (n f : List ℕ) (w : Wanted) (r : Result Value Reply) (x y : Reply) → IfOk r (HasEnoughBehind w.radius w.budget) → IsDeriveOf n f w r x → IsDeriveOf n f w r y → x ≡ y
derive_one n f w (Err stopped) x y enough is js = is ∙ sym js
derive_one n f w (Ok (Set set)) x y enough is js = derived_one n set [] w x y enough is js
derive_one n f w (Ok (Pattern p)) x y enough is js = is ∙ sym js
derive_one n f w (Ok (Chain c)) x y enough is js = behind_one n c.steps w c.end x y enough is js
derive_one n f w (Ok (Partition p)) x y enough is js = is ∙ sym js

-- ---- lighten

heavy_one : (e : LightenEnd) (x y : Reply) → IsHeavyReply e x → IsHeavyReply e y → x ≡ y
heavy_one (light_ends.Spent step r axis a b) x y is js = is ∙ sym js
heavy_one (light_ends.TooManyNodes step) x y is js = is ∙ sym js
heavy_one light_ends.OutOfMemory x y is js = absurd is

-- the reply to a chain that is lightened, or to the end that is met
abbrev pub IsMetReply : List ℕ → RawChain → Result ℕ LightenEnd → Reply → Type 0
IsMetReply n c (Ok nodes) reply = reply ≡ binds n (Chain (light c)) (nodes_text (light c))
IsMetReply n c (Err e) reply = IsHeavyReply e reply

met_one : (n : List ℕ) (c : RawChain) (met : Result ℕ LightenEnd) (x y : Reply) → IsMetReply n c met x → IsMetReply n c met y → x ≡ y
met_one n c (Ok nodes) x y is js = is ∙ sym js
met_one n c (Err e) x y is js = heavy_one e x y is js

-- where the budget is enough, the reply is that to what is met
pub reply_to_met : (n : List ℕ) (c : RawChain) (budget : ℕ) (answer : Result RawChain (RawChain × LightenEnd)) (reply : Reply) → HasEnoughForSteps budget c.steps
    → MayAnswerLighten c budget answer → IsLightReply n answer reply → IsMetReply n c (lightened c budget) reply
reply_to_met n c budget (Ok l) reply enough may is =
    subst (λ (m : Result ℕ LightenEnd). IsMetReply n c m reply) (sym may.1.1) (is ∙ ap (λ (x : RawChain). binds n (Chain x) (nodes_text x)) may.0)
reply_to_met n c budget (Err e) reply enough may is = by may.1
  where
    by : MayStop (MayBeSpentFrom 0 budget c.steps 0 e.1) (lightened c budget) e.1 → IsMetReply n c (lightened c budget) reply
    by (inl h) = absurd (subst (λ (x : LightenEnd). IsHeavyReply x reply) h is)
    by (inr (inl h)) = absurd (none_given_up e.1 c budget enough h)
    by (inr (inr h)) = subst (λ (m : Result ℕ LightenEnd). IsMetReply n c m reply) (sym h) is

lighten_one : (n : List ℕ) (budget : ℕ) (r : Result RawChain Reply) (x y : Reply) → IfOk r (λ c. HasEnoughForSteps budget c.steps) → IsLightenOf n budget r x → IsLightenOf n budget r y → x ≡ y
lighten_one n budget (Err stopped) x y enough is js = is ∙ sym js
lighten_one n budget (Ok c) x y enough is js =
    met_one n c (lightened c budget) x y (reply_to_met n c budget is.0 x enough is.1 is.2) (reply_to_met n c budget js.0 y enough js.1 js.2)

-- ---- code and induce

coded_one : (n : List ℕ) (g : Grid) (o : Option CodeFault) (x y : Reply) → IsCodedReply n g o x → IsCodedReply n g o y → x ≡ y
coded_one n g None x y is js = is ∙ sym js
coded_one n g (Some code_faults.OutsideBox) x y is js = is ∙ sym js
coded_one n g (Some code_faults.TooLarge) x y is js = is ∙ sym js
coded_one n g (Some (code_faults.Unplaced i j)) x y is js = is ∙ sym js
coded_one n g (Some (code_faults.Doubled i j)) x y is js = is ∙ sym js
coded_one n g (Some code_faults.OutOfMemory) x y is js = absurd is

point_one : (n : List ℕ) (p : Divided) (z : Spot) (w h : ℕ) (b : Bool) (x y : Reply) → IsPointReply n p z w h b x → IsPointReply n p z w h b y → x ≡ y
point_one n p z w h true x y is js = coded_one n (code_of p z w h) (code_fault p z w h) x y is js
point_one n p z w h false x y is js = is ∙ sym js

place_one : (n : List ℕ) (p : Divided) (s t : Fraction) (w h : ℕ) (b : Bool) (x y : Reply) → IsPlaceReply n p s t w h b x → IsPlaceReply n p s t w h b y → x ≡ y
place_one n p s t w h true x y is js = point_one n p (reduced_spot (spot s t)) w h (is_small (reduced_spot (spot s t))) x y is js
place_one n p s t w h false x y is js = is ∙ sym js

code_one : (n : List ℕ) (s t : Fraction) (w h : ℕ) (r : Result Divided Reply) (x y : Reply) → IsCodeOf n s t w h r x → IsCodeOf n s t w h r y → x ≡ y
code_one n s t w h (Err stopped) x y is js = is ∙ sym js
code_one n s t w h (Ok p) x y is js = place_one n p s t w h (is_on_box p.torus s t) x y is js

induced_one : (n : List ℕ) (axis : Axis) (p : Divided) (o : Option InduceFault) (x y : Reply) → IsInducedReply n axis p o x → IsInducedReply n axis p o y → x ≡ y
induced_one n axis p None x y is js = is ∙ sym js
induced_one n axis p (Some induce_faults.Half) x y is js = is ∙ sym js
induced_one n axis p (Some induce_faults.TooLarge) x y is js = is ∙ sym js
induced_one n axis p (Some induce_faults.TooManyPlanes) x y is js = is ∙ sym js
induced_one n axis p (Some induce_faults.TooManyRegions) x y is js = is ∙ sym js
induced_one n axis p (Some induce_faults.TooManyLabels) x y is js = is ∙ sym js
induced_one n axis p (Some induce_faults.OutOfMemory) x y is js = absurd is

induce_one : (n : List ℕ) (axis : Axis) (r : Result Divided Reply) (x y : Reply) → IsInduceOf n axis r x → IsInduceOf n axis r y → x ≡ y
induce_one n axis (Err stopped) x y is js = is ∙ sym js
induce_one n axis (Ok p) x y is js = induced_one n axis p (induce_fault axis p) x y is js

-- ---- any word

pub one : (names : Names) (w : Word) (x y : Reply) → HasGoodValues names → IsEnoughFor names w → IsReply names w x → IsReply names w y → x ≡ y
one names (word.Tiles n list) x y good enough is js = tiles_one (set_fault list) n list x y is js
one names (word.Pattern n s cells) x y good enough is js = is ∙ sym js
one names (word.Valid p) x y good enough is js = is ∙ sym js
one names (word.Period p dx dy) x y good enough is js = is ∙ sym js
one names (word.Fuse s axis u v) x y good enough is js = is ∙ sym js
one names (word.Cert c) x y good enough is js = is ∙ sym js
one names (word.Check n bytes) x y good enough is js = is ∙ sym js
one names (word.Upgrade n c) x y good enough is js = is ∙ sym js
one names (word.Lighten n c b) x y good enough is js = lighten_one n b (chain_named names c) x y enough is js
one names (word.Expand n c w h) x y good enough is js = is ∙ sym js
one names (word.Image c t) x y good enough is js = is ∙ sym js
one names (word.Desub n c k p) x y good enough is js = desub_one names n (chain_named names c) k p x y (good_chain names c good) is js
one names (word.Bound c dx dy) x y good enough is js = is ∙ sym js
one names (word.Draw p style) x y good enough is js = is ∙ sym js
one names (word.Json m) x y good enough is js = is ∙ sym js
one names (word.Dominoes s axis r b) x y good enough is js = dominoes_one axis r b (set_named names s) x y enough is js
one names (word.Surround s axis t u r b) x y good enough is js = surround_one axis t u r b (set_named names s) x y enough is js
one names (word.Markers s axis r b) x y good enough is js = markers_one axis r b (set_named names s) x y enough is js
one names (word.Same s t) x y good enough is js = is ∙ sym js
one names (word.Search n s turns side r l b) x y good enough is js = search_one n (asked turns side r b) l (set_named names s) x y enough is js
one names (word.Derive n f axis side r j b) x y good enough is js = derive_one n f (wanted axis side r j b) (value_named names f) x y enough is js
one names (word.Primitive c) x y good enough is js = primitive_one (chain_named names c) x y is js
one names (word.Seeds c q) x y good enough is js = is ∙ sym js
one names (word.Census c k t) x y good enough is js = census_one k t (chain_named names c) x y is js
one names (word.Torus n width height move1 move2 regions) x y good enough is js = is ∙ sym js
one names (word.Code n t s u w h) x y good enough is js = code_one n s u w h (partition_named names t) x y is js
one names (word.Induce n t axis) x y good enough is js = induce_one n axis (partition_named names t) x y is js
