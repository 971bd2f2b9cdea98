-- Where its budget is enough, no command says that it is spent.
use Rattle.std.proofs.Common.{arith, ◌≡◌, ◌<◌, ℕ, suc, Bool, true, false, List, [], ◌∷◌, ◌++◌, length, get_or, drop, slice_get, nat_lt, nat_eq, Option, None, Some, option_map, if◌then◌else◌, Result, Ok, Err, inr, refl, sym, subst, ap, ◌∙◌}
use Rattle.std.specs.Prelude.{ℤ, IfOk, IfErr, codes}
use Rattle.std.proofs.lemmas.Bool.Decides.{nat_tests}
use Rattle.wt_line.specs.declared.faults.What.{What}
use Rattle.wt_text.specs.Lines.{lines, bytes_of}
use Rattle.wt_text.specs.Readers.{TextFault, syntax_at, limit_at, whole_text}
use Rattle.wt_grid.specs.declared.axis.Axis.{Axis}
use Rattle.wt_grid.specs.declared.axis.Axis.TheVariants as axes
use Rattle.wt_grid.specs.declared.image.Image.{Image}
use Rattle.wt_grid.specs.declared.limits.TheConstants.{MAX_SIDE}
use Rattle.wt_grid.specs.First.{or_else}
use Rattle.wt_grid.specs.Order.{first_in}
use Rattle.wt_grid.specs.Grid.{Grid}
use Rattle.wt_tile.specs.declared.tile.Tile.{Tile}
use Rattle.wt_tile.specs.declared.tile.TileList.{TileList}
use Rattle.wt_tile.specs.declared.tile.SetFault.{SetFault}
use Rattle.wt_tile.specs.declared.tile.SetFault.TheVariants as set_faults
use Rattle.wt_tile.specs.Matching.{matches, tile_at}
use Rattle.wt_tile.specs.Fusion.{fused}
use Rattle.wt_tile.specs.Sets.{set_fault}
use Rattle.wt_pattern.specs.declared.drawing.Style.{Style}
use Rattle.wt_pattern.specs.Drawings.{drawing_of}
use Rattle.wt_pattern.specs.PatternRows.{pattern_lines}
use Rattle.wt_pattern.specs.Validity.{first_stranger}
use Rattle.wt_step.specs.declared.raw.RawLink.{RawLink}
use Rattle.wt_step.specs.declared.raw.RawLink.TheVariants.{Marker}
use Rattle.wt_step.specs.declared.coarse.DesubFault.{DesubFault}
use Rattle.wt_step.specs.declared.coarse.DesubFault.TheVariants as desub_faults
use Rattle.wt_step.specs.Links.{fine_of}
use Rattle.wt_step.specs.Coarse.{desub_fault}
use Rattle.wt_chain.specs.declared.raw.RawChain.{RawChain}
use Rattle.wt_chain.specs.declared.raw.Refusal.{Refusal}
use Rattle.wt_chain.specs.declared.raw.End.{End}
use Rattle.wt_chain.specs.declared.raw.End.TheVariants.{Open, Loop}
use Rattle.wt_chain.specs.Faults.{chain_fault}
use Rattle.wt_chain.specs.Limits.{nodes_through}
use Rattle.wt_chain.specs.Sets.{same_set, last_set, first_count}
use Rattle.wt_check.specs.declared.counts.CensusFault.{CensusFault}
use Rattle.wt_check.specs.declared.counts.CensusFault.TheVariants as census_faults
use Rattle.wt_cert.specs.Parts.{cert_part}
use Rattle.wt_scale.specs.Vectors.{size_result}
use Rattle.wt_scale.specs.declared.size.SizeFault.{SizeFault}
use Rattle.wt_scale.specs.declared.size.SizeFault.TheVariants as size_faults
use Rattle.wt_expand.specs.Turn.{turned_tile}
use Rattle.wt_refute.specs.Refutation.{node_count}
use Rattle.wt_window.specs.Surrounded.{surroundable, Tells}
use Rattle.wt_marker.specs.declared.end.DeriveEnd.{DeriveEnd}
use Rattle.wt_marker.specs.declared.end.DeriveEnd.TheVariants as reasons
use Rattle.wt_marker.specs.Derived.{Plan, plan, derived, derive_fault, images_fault, trees_fault, first_spent, spent_at, refuted_pairs, tree_at, images_of, IsRefutable, repeated_pair}
use Rattle.wt_marker.proofs.Windows.{refutable}
use Rattle.wt_search.specs.declared.end.SearchEnd.{SearchEnd}
use Rattle.wt_search.specs.declared.end.SearchEnd.TheVariants as ends
use Rattle.wt_search.specs.declared.limits.TheConstants.{MAX_NODES}
use Rattle.wt_search.specs.Asked.{Asked, asked, at_level}
use Rattle.wt_search.specs.Found.{found}
use Rattle.wt_search.specs.Enough.{HasEnough, IsEnough, IsNotSpent}
use Rattle.wt_search.proofs.Enough.{enough_for}
use Rattle.wt_search.proofs.Levels.{surroundable_tells}
use Rattle.wt_search.specs.declared.light_end.LightenEnd.{LightenEnd}
use Rattle.wt_search.specs.declared.light_end.LightenEnd.TheVariants as light_ends
use Rattle.wt_search.specs.Lightened.{lightened}
use Rattle.wt_script.specs.declared.word.Word.{Word}
use Rattle.wt_script.specs.declared.word.Word.TheVariants as word
use Rattle.wt_session.specs.declared.limits.TheConstants.{MAX_INPUT}
use Rattle.wt_session.specs.declared.words.derive.Wanted.{Wanted}
use Rattle.wt_session.specs.declared.value.Value.{Value}
use Rattle.wt_session.specs.declared.value.Value.TheVariants.{Set, Pattern, Chain, Partition}
use Rattle.wt_session.specs.Sheets.{Laid}
use Rattle.wt_golden.specs.Fractions.{Fraction}
use Rattle.wt_induce.specs.declared.fault.InduceFault.{InduceFault}
use Rattle.wt_induce.specs.declared.fault.InduceFault.TheVariants as induce_faults
use Rattle.wt_induce.specs.Faults.{induce_fault}
use Rattle.wt_plane.specs.HalfPlanes.{Spot, spot, reduced_spot}
use Rattle.wt_torus.specs.declared.coded.CodeFault.{CodeFault}
use Rattle.wt_torus.specs.declared.coded.CodeFault.TheVariants as code_faults
use Rattle.wt_torus.specs.declared.partition.Partition.{Partition as Divided}
use Rattle.wt_torus.specs.Codes.{is_small, code_fault, code_of}
use Rattle.wt_session.specs.Code.{is_on_box, IsCodedReply, IsPointReply, IsPlaceReply, IsCodeOf}
use Rattle.wt_session.specs.Induce.{IsInducedReply, IsInduceOf}
use Rattle.wt_session.specs.declared.partitions.PartitionFault.{PartitionFault}
use Rattle.wt_session.specs.declared.partitions.PartitionFault.TheVariants as partition_faults
use Rattle.wt_session.specs.Partitions.{partition_of}
use Rattle.wt_session.specs.Torus.{torus_by}
use Rattle.wt_session.specs.Names.{Names, find}
use Rattle.wt_session.specs.Replies.{Reply, says, binds, stops, limit, spent, refused, no_tile, value_in, set_in, pattern_in, chain_in, partition_in, value_named, set_named, pattern_named, chain_named, partition_named}
use Rattle.wt_session.specs.Tiles.{IsTilesReplyBy}
use Rattle.wt_session.specs.Pattern.{placed, placed_over}
use Rattle.wt_session.specs.Valid.{valid_over, valid_of}
use Rattle.wt_session.specs.Period.{period_of}
use Rattle.wt_session.specs.Check.{judged, checked, check_reply}
use Rattle.wt_session.specs.Fuse.{fused_in, fuse_of, fused_text}
use Rattle.wt_session.specs.Cert.{cert_of}
use Rattle.wt_session.specs.Expand.{expanded, expand_of}
use Rattle.wt_session.specs.Image.{image_text, image_by, image_of}
use Rattle.wt_session.specs.Desub.{IsTakenReply, IsSetReply, IsStepReply, IsOverReply, IsDesubOf, IsDesubIn}
use Rattle.wt_session.specs.Bound.{size_reply, bound_of}
use Rattle.wt_session.specs.Draw.{drawn, draw_of}
use Rattle.wt_session.specs.Json.{json_of}
use Rattle.wt_session.specs.Same.{same_onto, same_from}
use Rattle.wt_session.specs.Seeds.{seeds_by, seeds_of}
use Rattle.wt_session.specs.Primitive.{IsPowerReply, IsPrimitiveOf}
use Rattle.wt_session.specs.Census.{IsCountsReply, IsCensusOf}
use Rattle.wt_session.specs.Tables.{spent_text}
use Rattle.wt_session.specs.Dominoes.{IsDominoesOf, SaysDominoes}
use Rattle.wt_session.specs.Markers.{IsMarkersOf, SaysClasses, classes_along}
use Rattle.wt_session.specs.Surround.{IsWindowOf, IsSurroundOf, first_no_tile}
use Rattle.wt_session.specs.Levels.{IsEndReply, level_text, level_spent_text, sets_text}
use Rattle.wt_session.specs.Search.{IsFoundReply, IsSearchOf}
use Rattle.wt_session.specs.Derive.{IsClassReply, SaysStep, IsStepOf, IsBehind, IsBehindAll, IsDeriveOf, no_set, step_reply, longer_reply, opened, images_text, wanted}
use Rattle.wt_session.specs.Upgrade.{upgrade_of}
use Rattle.wt_session.specs.Lighten.{IsLightenOf}
use Rattle.wt_session.specs.Meaning.{IsReply}
use Rattle.wt_session.specs.Enough.{HasEnoughTrials, HasEnoughAlong, HasEnoughAround, HasEnoughAtEnd, HasEnoughBehind, HasEnoughForSteps, IsEnoughFor, IsUnspent}
use Rattle.wt_session.proofs.One.{asked_table, asked_tables, around, window_found, window_reply, reply_to_found, IsPlannedReply, reply_to_plan, IsMetReply, reply_to_met}
use Rattle.wt_session.proofs.Heavy.{IsOther, lightened_other}

-- the status of a refusal, and 0 of an answer
abbrev status : Reply → ℕ
status (says text) = 0
status (binds n v text) = 0
status (stops s line) = s

-- a status below that of a spent budget
abbrev Low : Reply → Type 0
Low reply = status reply < 6

low_is_unspent : (reply : Reply) → Low reply → IsUnspent reply
low_is_unspent reply lt line e = let six : status reply ≡ 6 = ap status e in omega (arith, lt, six)

told : (x z : Reply) → x ≡ z → Low z → Low x
told x z e lt = subst Low (sym e) lt

zero_low : 0 < 6
zero_low = omega arith

one_low : 1 < 6
one_low = omega arith

five_low : 5 < 6
five_low = omega arith

-- ---- what names are bound to, or why not

abbrev LowErr : {A : Type 0} → Result A Reply → Type 0
LowErr r = IfErr r Low

value_low : (names : Names) (n : List ℕ) → LowErr (value_named names n)
value_low names n = by (find n names)
  where
    by : (o : Option Value) → LowErr (value_in n o)
    by None = one_low
    by (Some v) = tt

set_low : (names : Names) (n : List ℕ) → LowErr (set_named names n)
set_low names n = by (find n names)
  where
    by : (o : Option Value) → LowErr (set_in n o)
    by None = one_low
    by (Some (Set set)) = tt
    by (Some (Pattern p)) = one_low
    by (Some (Chain c)) = one_low
    by (Some (Partition p)) = one_low

pattern_low : (names : Names) (n : List ℕ) → LowErr (pattern_named names n)
pattern_low names n = by (find n names)
  where
    by : (o : Option Value) → LowErr (pattern_in n o)
    by None = one_low
    by (Some (Set set)) = one_low
    by (Some (Pattern p)) = tt
    by (Some (Chain c)) = one_low
    by (Some (Partition p)) = one_low

chain_low : (names : Names) (n : List ℕ) → LowErr (chain_named names n)
chain_low names n = by (find n names)
  where
    by : (o : Option Value) → LowErr (chain_in n o)
    by None = one_low
    by (Some (Set set)) = one_low
    by (Some (Pattern p)) = one_low
    by (Some (Chain c)) = tt
    by (Some (Partition p)) = one_low

partition_low : (names : Names) (n : List ℕ) → LowErr (partition_named names n)
partition_low names n = by (find n names)
  where
    by : (o : Option Value) → LowErr (partition_in n o)
    by None = one_low
    by (Some (Set set)) = one_low
    by (Some (Pattern p)) = one_low
    by (Some (Chain c)) = one_low
    by (Some (Partition p)) = tt

-- ---- commands without a budget

tiles_low : (f : Option SetFault) (n : List ℕ) (list : TileList) (x : Reply) → IsTilesReplyBy f n list x → Low x
tiles_low None n list x e = told x _ e zero_low
tiles_low (Some set_faults.Empty) n list x e = told x _ e one_low
tiles_low (Some (set_faults.Repeated i j)) n list x e = told x _ e one_low
tiles_low (Some set_faults.TooMany) n list x e = absurd e
tiles_low (Some (set_faults.NoColour t)) n list x e = absurd e
tiles_low (Some (set_faults.Names axis)) n list x e = absurd e

placed_low : (n : List ℕ) (set : TileList) (p : Grid) (o : Option (ℕ × ℕ)) → Low (placed n set p o)
placed_low n set p None = zero_low
placed_low n set p (Some at) = one_low

over_low : (n : List ℕ) (p : Grid) (r : Result TileList Reply) → LowErr r → Low (placed_over n p r)
over_low n p (Err reply) low = low
over_low n p (Ok set) low = placed_low n set p (first_stranger (length set.tiles) p)

valid_over_low : (over : Option TileList) (p : Grid) → Low (valid_over over p)
valid_over_low None p = one_low
valid_over_low (Some set) p = zero_low

valid_low : (r : Result Laid Reply) → LowErr r → Low (valid_of r)
valid_low (Err reply) low = low
valid_low (Ok laid) low = valid_over_low laid.over laid.pattern

period_low : (dx dy : ℤ) (r : Result Laid Reply) → LowErr r → Low (period_of dx dy r)
period_low dx dy (Err reply) low = low
period_low dx dy (Ok laid) low = zero_low

-- whichever a test chooses
either_low : (b : Bool) (x y : Reply) → Low x → Low y → Low (if b then x else y)
either_low true x y lx ly = lx
either_low false x y lx ly = ly

fused_low : (set : TileList) (axis : Axis) (u v : ℕ) → Low (fused_in set axis u v)
fused_low set axis u v = either_low (matches set.tiles axis u v) (says (fused_text set (fused axis (tile_at set.tiles u) (tile_at set.tiles v)))) (refused (codes "refused no match\n")) zero_low one_low

fuse_low : (axis : Axis) (u v : ℕ) (r : Result TileList Reply) → LowErr r → Low (fuse_of axis u v r)
fuse_low axis u v (Err reply) low = low
fuse_low axis u v (Ok set) low =
    either_low (nat_lt u (length set.tiles)) (if nat_lt v (length set.tiles) then fused_in set axis u v else no_tile v) (no_tile u)
    (either_low (nat_lt v (length set.tiles)) (fused_in set axis u v) (no_tile v) (fused_low set axis u v) one_low) one_low

cert_low : (r : Result RawChain Reply) → LowErr r → Low (cert_of r)
cert_low (Err reply) low = low
cert_low (Ok c) low = zero_low

judged_low : (n : List ℕ) (c : RawChain) (o : Option Refusal) → Low (judged n c o)
judged_low n c None = zero_low
judged_low n c (Some refusal) = one_low

checked_low : (n : List ℕ) (r : Result RawChain (TextFault What)) → Low (checked n r)
checked_low n (Ok c) = judged_low n c (chain_fault c)
checked_low n (Err (syntax_at k)) = one_low
checked_low n (Err (limit_at what k)) = five_low

check_low : (n bytes : List ℕ) → Low (check_reply n bytes)
check_low n bytes =
    either_low (nat_lt MAX_INPUT (length bytes)) (limit (codes "limit input\n")) (checked n (whole_text cert_part (lines bytes))) five_low (checked_low n (whole_text cert_part (lines bytes)))

expanded_low : (n : List ℕ) (steps : List RawLink) (end : End) (w h : ℕ) → Low (expanded n steps end w h)
expanded_low n steps Open w h = one_low
expanded_low n steps (Loop start renaming e) w h = zero_low

expand_low : (n : List ℕ) (w h : ℕ) (r : Result RawChain Reply) → LowErr r → Low (expand_of n w h r)
expand_low n w h (Err reply) low = low
expand_low n w h (Ok c) low = expanded_low n c.steps c.end w h

image_text_low : (g : Grid) → Low (image_text g)
image_text_low g =
    either_low (nat_lt MAX_SIDE g.width) (limit (codes "limit width\n")) (if nat_lt MAX_SIDE g.height then limit (codes "limit height\n") else says (bytes_of (pattern_lines g))) five_low
    (either_low (nat_lt MAX_SIDE g.height) (limit (codes "limit height\n")) (says (bytes_of (pattern_lines g))) five_low zero_low)

image_by_low : (steps : List RawLink) (end : End) (t : ℕ) → Low (image_by steps end t)
image_by_low steps Open t = one_low
image_by_low steps (Loop start renaming e) t =
    either_low (nat_lt t (first_count (drop start steps))) (image_text (turned_tile (drop start steps) renaming t)) (no_tile t) (image_text_low (turned_tile (drop start steps) renaming t)) one_low

image_low : (t : ℕ) (r : Result RawChain Reply) → LowErr r → Low (image_of t r)
image_low t (Err reply) low = low
image_low t (Ok c) low = image_by_low c.steps c.end t

taken_low : (n : List ℕ) (link : RawLink) (p : Grid) (f : Option DesubFault) (x : Reply) → IsTakenReply n link p f x → Low x
taken_low n link p (Some (desub_faults.NotValid fault)) x e = told x _ e one_low
taken_low n link p (Some desub_faults.TooSmall) x e = told x _ e one_low
taken_low n link p (Some desub_faults.OutOfMemory) x e = absurd e
taken_low n link p None x e = told x _ e.3 zero_low

own_low : (n : List ℕ) (link : RawLink) (p : Grid) (same : Bool) (x : Reply) → IsSetReply n link p same x → Low x
own_low n link p true x e = taken_low n link p (desub_fault link p) x e
own_low n link p false x e = told x _ e one_low

step_low : (n : List ℕ) (k : ℕ) (p : Grid) (set : TileList) (o : Option RawLink) (x : Reply) → IsStepReply n k p set o x → Low x
step_low n k p set None x e = told x _ e one_low
step_low n k p set (Some link) x e = own_low n link p (same_set set (fine_of link)) x e

desub_over_low : (n : List ℕ) (c : RawChain) (k : ℕ) (p : Grid) (over : Option TileList) (x : Reply) → IsOverReply n c k p over x → Low x
desub_over_low n c k p None x e = told x _ e one_low
desub_over_low n c k p (Some set) x e = step_low n k p set (slice_get c.steps k) x e

laid_low : (n : List ℕ) (c : RawChain) (k : ℕ) (r : Result Laid Reply) (x : Reply) → LowErr r → IsDesubOf n c k r x → Low x
laid_low n c k (Err stopped) x low e = told x stopped e low
laid_low n c k (Ok laid) x low e = desub_over_low n c k laid.pattern laid.over x e

desub_low : (names : Names) (n : List ℕ) (r : Result RawChain Reply) (k : ℕ) (p : List ℕ) (x : Reply) → LowErr r → IsDesubIn names n r k p x → Low x
desub_low names n (Err stopped) k p x low e = told x stopped e low
desub_low names n (Ok c) k p x low e = laid_low n c k (pattern_named names p) x (pattern_low names p) e

size_low : (r : Result ℕ SizeFault) → Low (size_reply r)
size_low (Ok size) = zero_low
size_low (Err size_faults.OpenChain) = one_low
size_low (Err size_faults.ZeroVector) = one_low
size_low (Err size_faults.TooLarge) = five_low

bound_low : (dx dy : ℤ) (r : Result RawChain Reply) → LowErr r → Low (bound_of dx dy r)
bound_low dx dy (Err reply) low = low
bound_low dx dy (Ok c) low = size_low (size_result c dx dy)

drawn_low : (o : Option (List ℕ)) → Low (drawn o)
drawn_low None = one_low
drawn_low (Some text) = zero_low

draw_low : (style : Style) (r : Result Laid Reply) → LowErr r → Low (draw_of style r)
draw_low style (Err reply) low = low
draw_low style (Ok laid) low = drawn_low (drawing_of laid.over laid.pattern style)

json_low : (r : Result Value Reply) → LowErr r → Low (json_of r)
json_low (Err reply) low = low
json_low (Ok v) low = zero_low

onto_low : (from : TileList) (r : Result TileList Reply) → LowErr r → Low (same_onto from r)
onto_low from (Err stopped) low = low
onto_low from (Ok to) low = zero_low

same_low : (names : Names) (t : List ℕ) (r : Result TileList Reply) → LowErr r → Low (same_from names t r)
same_low names t (Err stopped) low = low
same_low names t (Ok from) low = onto_low from (set_named names t) (set_low names t)

seeds_by_low : (q : ℕ) (steps : List RawLink) (end : End) → Low (seeds_by q steps end)
seeds_by_low q steps Open = one_low
seeds_by_low q steps (Loop start renaming e) = zero_low

seeds_low : (q : ℕ) (r : Result RawChain Reply) → LowErr r → Low (seeds_of q r)
seeds_low q (Err stopped) low = low
seeds_low q (Ok c) low = seeds_by_low q c.steps c.end

power_low : (steps : List RawLink) (end : End) (x : Reply) → IsPowerReply steps end x → Low x
power_low steps Open x e = told x _ e one_low
power_low steps (Loop start renaming expansion) x e = told x _ e.2 zero_low

primitive_low : (r : Result RawChain Reply) (x : Reply) → LowErr r → IsPrimitiveOf r x → Low x
primitive_low (Err stopped) x low e = told x stopped e low
primitive_low (Ok c) x low e = power_low c.steps c.end x e

counts_low : (tile : ℕ) (answer : Result (List ℕ) CensusFault) (x : Reply) → IsCountsReply tile answer x → Low x
counts_low tile (Ok counts) x e = told x _ e zero_low
counts_low tile (Err census_faults.OpenChain) x e = told x _ e one_low
counts_low tile (Err census_faults.NoTile) x e = told x _ e one_low
counts_low tile (Err census_faults.TooLarge) x e = told x _ e five_low
counts_low tile (Err census_faults.OutOfMemory) x e = absurd e

census_low : (turns tile : ℕ) (r : Result RawChain Reply) (x : Reply) → LowErr r → IsCensusOf turns tile r x → Low x
census_low turns tile (Err stopped) x low e = told x stopped e low
census_low turns tile (Ok c) x low e = counts_low tile e.0 x e.2

-- ---- tables and windows

dominoes_low : (axis : Axis) (r budget : ℕ) (s : Result TileList Reply) (x : Reply) → LowErr s → IfOk s (λ set. HasEnoughAlong set.tiles axis r budget) → IsDominoesOf axis r budget s x → Low x
dominoes_low axis r budget (Err stopped) x low enough e = told x stopped e low
dominoes_low axis r budget (Ok set) x low enough e = told x _ (asked_table spent_text set.tiles axis r budget (SaysDominoes (length set.tiles)) x enough e) zero_low

markers_low : (axis : Axis) (r budget : ℕ) (s : Result TileList Reply) (x : Reply) → LowErr s → IfOk s (λ set. HasEnoughAround set.tiles r budget) → IsMarkersOf axis r budget s x → Low x
markers_low axis r budget (Err stopped) x low enough e = told x stopped e low
markers_low axis r budget (Ok set) x low enough e = told x _ (asked_tables spent_text set.tiles r budget (SaysClasses (length set.tiles) axis) x enough e) zero_low

window_low : (o : Option Grid) → Low (window_reply o)
window_low None = zero_low
window_low (Some g) = zero_low

window_of_low : (ts : List Tile) (axis : Axis) (a b r budget : ℕ) (o : Option ℕ) (x : Reply) → HasEnoughTrials ts axis a b r budget → IsWindowOf ts axis a b r budget o x → Low x
window_of_low ts axis a b r budget (Some t) x enough e = told x _ e one_low
window_of_low ts axis a b r budget None x enough e = let w = window_found ts axis a b r budget e.0 x enough e.1 e.2 in told x (window_reply w.0) w.2 (window_low w.0)

surround_low : (axis : Axis) (a b r budget : ℕ) (s : Result TileList Reply) (x : Reply) → LowErr s → IfOk s (λ set. HasEnoughTrials set.tiles axis a b r budget) → IsSurroundOf axis a b r budget s x → Low x
surround_low axis a b r budget (Err stopped) x low enough e = told x stopped e low
surround_low axis a b r budget (Ok set) x low enough e = window_of_low set.tiles axis a b r budget (first_no_tile (length set.tiles) a b) x enough e

-- ---- search

end_low : (e : SearchEnd) (x : Reply) → IsNotSpent e → IsEndReply e x → Low x
end_low (ends.Spent level axis a b) x not e = absurd (not level axis a b refl)
end_low (ends.NoMarker level) x not e = told x _ e one_low
end_low (ends.EmptySet level) x not e = told x _ e one_low
end_low (ends.TooManyTiles level) x not e = told x _ e five_low
end_low (ends.Repeated level) x not e = told x _ e one_low
end_low (ends.TooManyNodes level) x not e = told x _ e five_low
end_low (ends.NotGrowing start) x not e = told x _ e one_low
end_low ends.Levels x not e = told x _ e one_low
end_low ends.OutOfMemory x not e = absurd e

found_low : (n : List ℕ) (s : Asked) (set : TileList) (levels : ℕ) (x : Reply) (r : Result RawChain SearchEnd) → found s set levels ≡ r → IsEnough s set levels → IsFoundReply n r x → Low x
found_low n s set levels x (Ok c) same enough e = told x _ e zero_low
found_low n s set levels x (Err end) same enough e = end_low end x (enough_for s set levels end enough (inr (inr same))) e

search_low : (n : List ℕ) (s : Asked) (levels : ℕ) (r : Result TileList Reply) (x : Reply) → LowErr r → IfOk r (λ set. IsEnough s set levels) → IsSearchOf n s levels r x → Low x
search_low n s levels (Err stopped) x low enough e = told x stopped e low
search_low n s levels (Ok set) x low enough e = found_low n s set levels x (found s set levels) refl enough (reply_to_found n s set levels e.0 x enough e.1 e.2)

-- ---- derive

abbrev NotSpent : DeriveEnd → Type 0
NotSpent e = (axis : Axis) (a b : ℕ) → e ≡ reasons.Spent axis a b → ⊥

abbrev NoneSpent : Option DeriveEnd → Type 0
NoneSpent o = (e : DeriveEnd) → o ≡ Some e → NotSpent e

none_spent : (o : Option DeriveEnd) → o ≡ None → NoneSpent o
none_spent o h e k = absurd (let both : None ≡ Some e = sym h ∙ k in cc)

either : (x y : Option DeriveEnd) → NoneSpent x → NoneSpent y → NoneSpent (or_else x y)
either None y hx hy = hy
either (Some e) y hx hy = hx

images_unspent : (ts : List Tile) (axis : Axis) (images : List Image) → NoneSpent (images_fault ts axis images)
unfolding images_fault
images_unspent ts axis images = either _ _ (empty (nat_eq (length images) 0)) (either _ _ (many (nat_lt 256 (length images))) (twice _))
  where
    empty : (b : Bool) → NoneSpent (if b then Some reasons.EmptySet else None)
    empty true e h axis a b s = cc
    empty false e h axis a b s = cc

    many : (b : Bool) → NoneSpent (if b then Some reasons.TooManyTiles else None)
    many true e h axis a b s = cc
    many false e h axis a b s = cc

    twice : (o : Option (ℕ × ℕ)) → NoneSpent (option_map repeated_pair o)
    twice None e h axis a b s = cc
    twice (Some q) e h axis a b s = cc

all_none : {A B : Type 0} (f : A → Option B) (xs : List A) → ((k : ℕ) (d : A) → k < length xs → f (get_or xs k d) ≡ None) → first_in f xs ≡ None
all_none f [] h = refl
all_none f (x ∷ xs) h =
    let here : f x ≡ None = h 0 x (omega arith) in
    let rest : first_in f xs ≡ None = all_none f xs (λ k d lt. h (suc k) d (omega arith)) in
    rw (here, rest) refl

module _ (ts : List Tile) (radius budget : ℕ) (enough : HasEnough ts radius budget) where
  fits_budget : (axis : Axis) (q : ℕ × ℕ) → IsRefutable ts axis radius q → spent_at ts radius budget axis q ≡ None
  fits_budget axis q h =
      let few = enough.trees axis q.0 q.1 h.first h.second h.fits h.empty in
      let no : nat_lt budget (node_count (tree_at ts radius axis q)) ≡ false = grind (arith, nat_tests, few) in
      rw no refl

  trees_fit : (axis : Axis) (f : ℕ → ℕ → Bool) → Tells ts axis radius f → first_spent ts radius budget axis f ≡ None
  trees_fit axis f tells = all_none (spent_at ts radius budget axis) (refuted_pairs ts axis f) (λ k d lt. fits_budget axis _ (refutable ts axis radius f tells k d lt))

  trees_unspent : (one two : ℕ → ℕ → Bool) → Tells ts axes.One radius one → Tells ts axes.Two radius two → NoneSpent (trees_fault ts radius one two budget)
  unfolding trees_fault
  trees_unspent one two t u = either _ _ (none_spent _ (trees_fit axes.One one t)) (either _ _ (none_spent _ (trees_fit axes.Two two u)) (many _))
    where
      many : (b : Bool) → NoneSpent (if b then Some reasons.TooManyNodes else None)
      many true e h axis a b s = cc
      many false e h axis a b s = cc

level_unspent : (level : ℕ) (e : DeriveEnd) → NotSpent e → IsNotSpent (at_level level e)
level_unspent level reasons.EmptySet h l axis a b s = cc
level_unspent level reasons.TooManyTiles h l axis a b s = cc
level_unspent level (reasons.Repeated first second) h l axis a b s = cc
level_unspent level (reasons.Spent x c d) h l axis a b s = h x c d refl
level_unspent level reasons.TooManyNodes h l axis a b s = cc
level_unspent level reasons.OutOfMemory h l axis a b s = cc

longer_low : (n : List ℕ) (level : ℕ) (c : RawChain) (images : List ℕ) → Low (longer_reply n level c images)
longer_low n level c images =
    either_low (nat_lt MAX_NODES (nodes_through 0 c.steps)) (limit (level_text (codes "limit nodes") level)) (binds n (Chain c) (sets_text c.steps ++ images)) five_low zero_low

planned_low : (n : List ℕ) (links : List RawLink) (p : Plan) (f : Option DeriveEnd) (x : Reply) → NoneSpent f → IsPlannedReply n links p f x → Low x
planned_low n links p None x not e = told x (step_reply n links (derived p)) e (longer_low n (length links) (opened (links ++ Marker (derived p) ∷ [])) (images_text (derived p).images))
planned_low n links p (Some reason) x not e = end_low (at_level (length links) reason) x (level_unspent (length links) reason (not reason refl)) e

class_low : (n : List ℕ) (set : TileList) (links : List RawLink) (w : Wanted) (o : Option (List ℕ)) (x : Reply) → HasEnough set.tiles w.radius w.budget
    → IsClassReply n set links w (surroundable set.tiles axes.One w.radius) (surroundable set.tiles axes.Two w.radius) o x → Low x
class_low n set links w None x enough e = told x _ e one_low
class_low n set links w (Some class) x enough e =
    planned_low n links p (derive_fault p w.budget) x
    (either (images_fault set.tiles w.axis (images_of p)) (trees_fault set.tiles w.radius one two w.budget) (images_unspent set.tiles w.axis (images_of p))
    (trees_unspent set.tiles w.radius w.budget enough one two (surroundable_tells set.tiles axes.One w.radius) (surroundable_tells set.tiles axes.Two w.radius)))
    (reply_to_plan n links p w.budget e.0 x e.1 e.2)
  where
    one : ℕ → ℕ → Bool
    one = surroundable set.tiles axes.One w.radius

    two : ℕ → ℕ → Bool
    two = surroundable set.tiles axes.Two w.radius

    p : Plan
    p = plan set w.axis w.side w.radius class one two

derived_low : (n : List ℕ) (set : TileList) (links : List RawLink) (w : Wanted) (x : Reply) → HasEnough set.tiles w.radius w.budget → IsStepOf n set links w x → Low x
derived_low n set links w x enough e =
    class_low n set links w (slice_get (classes_along (length set.tiles) w.axis (surroundable set.tiles axes.One w.radius) (surroundable set.tiles axes.Two w.radius)) w.class) x enough
    (asked_tables (level_spent_text (length links)) set.tiles w.radius w.budget (SaysStep n set links w) x (around set.tiles w.radius w.budget enough) e)

behind_all_low : (n : List ℕ) (links : List RawLink) (w : Wanted) (room : Bool) (x : Reply) → HasEnough (last_set no_set links).tiles w.radius w.budget → IsBehindAll n links w room x → Low x
behind_all_low n links w true x enough e = derived_low n (last_set no_set links) links w x enough e
behind_all_low n links w false x enough e = told x _ e five_low

behind_low : (n : List ℕ) (links : List RawLink) (w : Wanted) (end : End) (x : Reply) → HasEnoughAtEnd links w.radius w.budget end → IsBehind n links w end x → Low x
behind_low n links w (Loop start renaming expansion) x enough e = told x _ e one_low
behind_low n links w Open x enough e = behind_all_low n links w _ x enough e

derive_low : (n f : List ℕ) (w : Wanted) (r : Result Value Reply) (x : Reply) → LowErr r → IfOk r (HasEnoughBehind w.radius w.budget) → IsDeriveOf n f w r x → Low x
derive_low n f w (Err stopped) x low enough e = told x stopped e low
derive_low n f w (Ok (Set set)) x low enough e = derived_low n set [] w x enough e
derive_low n f w (Ok (Pattern p)) x low enough e = told x _ e one_low
derive_low n f w (Ok (Chain c)) x low enough e = behind_low n c.steps w c.end x enough e
derive_low n f w (Ok (Partition p)) x low enough e = told x _ e one_low

-- ---- upgrade and lighten

upgrade_low : (n : List ℕ) (r : Result RawChain Reply) → LowErr r → Low (upgrade_of n r)
upgrade_low n (Err stopped) low = low
upgrade_low n (Ok c) low = zero_low

met_low : (n : List ℕ) (c : RawChain) (met : Result ℕ LightenEnd) (x : Reply) → IfErr met IsOther → IsMetReply n c met x → Low x
met_low n c (Ok nodes) x other e = told x _ e zero_low
met_low n c (Err (light_ends.Spent step r axis a b)) x other e = absurd (other step r axis a b refl)
met_low n c (Err (light_ends.TooManyNodes step)) x other e = told x _ e five_low
met_low n c (Err light_ends.OutOfMemory) x other e = absurd e

lighten_low : (n : List ℕ) (budget : ℕ) (r : Result RawChain Reply) (x : Reply) → LowErr r → IfOk r (λ c. HasEnoughForSteps budget c.steps) → IsLightenOf n budget r x → Low x
lighten_low n budget (Err stopped) x low enough e = told x stopped e low
lighten_low n budget (Ok c) x low enough e = met_low n c (lightened c budget) x (lightened_other c budget enough) (reply_to_met n c budget e.0 x enough e.1 e.2)

-- ---- torus, code and induce

torus_low : (n : List ℕ) (r : Result Divided PartitionFault) → Low (torus_by n r)
torus_low n (Ok p) = zero_low
torus_low n (Err e) = one_low

coded_low : (n : List ℕ) (g : Grid) (o : Option CodeFault) (x : Reply) → IsCodedReply n g o x → Low x
coded_low n g None x e = told x _ e zero_low
coded_low n g (Some code_faults.OutsideBox) x e = told x _ e one_low
coded_low n g (Some code_faults.TooLarge) x e = told x _ e five_low
coded_low n g (Some (code_faults.Unplaced i j)) x e = told x _ e one_low
coded_low n g (Some (code_faults.Doubled i j)) x e = told x _ e one_low
coded_low n g (Some code_faults.OutOfMemory) x e = absurd e

point_low : (n : List ℕ) (p : Divided) (z : Spot) (w h : ℕ) (b : Bool) (x : Reply) → IsPointReply n p z w h b x → Low x
point_low n p z w h true x e = coded_low n (code_of p z w h) (code_fault p z w h) x e
point_low n p z w h false x e = told x _ e five_low

place_low : (n : List ℕ) (p : Divided) (s t : Fraction) (w h : ℕ) (b : Bool) (x : Reply) → IsPlaceReply n p s t w h b x → Low x
place_low n p s t w h true x e = point_low n p (reduced_spot (spot s t)) w h (is_small (reduced_spot (spot s t))) x e
place_low n p s t w h false x e = told x _ e one_low

code_low : (n : List ℕ) (s t : Fraction) (w h : ℕ) (r : Result Divided Reply) (x : Reply) → LowErr r → IsCodeOf n s t w h r x → Low x
code_low n s t w h (Err stopped) x low e = told x stopped e low
code_low n s t w h (Ok p) x low e = place_low n p s t w h (is_on_box p.torus s t) x e

induced_low : (n : List ℕ) (axis : Axis) (p : Divided) (o : Option InduceFault) (x : Reply) → IsInducedReply n axis p o x → Low x
induced_low n axis p None x e = told x _ e zero_low
induced_low n axis p (Some induce_faults.Half) x e = told x _ e one_low
induced_low n axis p (Some induce_faults.TooLarge) x e = told x _ e five_low
induced_low n axis p (Some induce_faults.TooManyPlanes) x e = told x _ e five_low
induced_low n axis p (Some induce_faults.TooManyRegions) x e = told x _ e five_low
induced_low n axis p (Some induce_faults.TooManyLabels) x e = told x _ e five_low
induced_low n axis p (Some induce_faults.OutOfMemory) x e = absurd e

induce_low : (n : List ℕ) (axis : Axis) (r : Result Divided Reply) (x : Reply) → LowErr r → IsInduceOf n axis r x → Low x
induce_low n axis (Err stopped) x low e = told x stopped e low
induce_low n axis (Ok p) x low e = induced_low n axis p (induce_fault axis p) x e

-- ---- any word

low : (names : Names) (w : Word) (x : Reply) → IsEnoughFor names w → IsReply names w x → Low x
low names (word.Tiles n list) x enough e = tiles_low (set_fault list) n list x e
low names (word.Pattern n s cells) x enough e = told x _ e (over_low n cells (set_named names s) (set_low names s))
low names (word.Valid p) x enough e = told x _ e (valid_low (pattern_named names p) (pattern_low names p))
low names (word.Period p dx dy) x enough e = told x _ e (period_low dx dy (pattern_named names p) (pattern_low names p))
low names (word.Fuse s axis u v) x enough e = told x _ e (fuse_low axis u v (set_named names s) (set_low names s))
low names (word.Cert c) x enough e = told x _ e (cert_low (chain_named names c) (chain_low names c))
low names (word.Check n bytes) x enough e = told x _ e (check_low n bytes)
low names (word.Upgrade n c) x enough e = told x _ e (upgrade_low n (chain_named names c) (chain_low names c))
low names (word.Lighten n c b) x enough e = lighten_low n b (chain_named names c) x (chain_low names c) enough e
low names (word.Expand n c w h) x enough e = told x _ e (expand_low n w h (chain_named names c) (chain_low names c))
low names (word.Image c t) x enough e = told x _ e (image_low t (chain_named names c) (chain_low names c))
low names (word.Desub n c k p) x enough e = desub_low names n (chain_named names c) k p x (chain_low names c) e
low names (word.Bound c dx dy) x enough e = told x _ e (bound_low dx dy (chain_named names c) (chain_low names c))
low names (word.Draw p style) x enough e = told x _ e (draw_low style (pattern_named names p) (pattern_low names p))
low names (word.Json m) x enough e = told x _ e (json_low (value_named names m) (value_low names m))
low names (word.Dominoes s axis r b) x enough e = dominoes_low axis r b (set_named names s) x (set_low names s) enough e
low names (word.Surround s axis t u r b) x enough e = surround_low axis t u r b (set_named names s) x (set_low names s) enough e
low names (word.Markers s axis r b) x enough e = markers_low axis r b (set_named names s) x (set_low names s) enough e
low names (word.Same s t) x enough e = told x _ e (same_low names t (set_named names s) (set_low names s))
low names (word.Search n s turns side r l b) x enough e = search_low n (asked turns side r b) l (set_named names s) x (set_low names s) enough e
low names (word.Derive n f axis side r j b) x enough e = derive_low n f (wanted axis side r j b) (value_named names f) x (value_low names f) enough e
low names (word.Primitive c) x enough e = primitive_low (chain_named names c) x (chain_low names c) e
low names (word.Seeds c q) x enough e = told x _ e (seeds_low q (chain_named names c) (chain_low names c))
low names (word.Census c k t) x enough e = census_low k t (chain_named names c) x (chain_low names c) e
low names (word.Torus n width height move1 move2 regions) x enough e = told x _ e (torus_low n (partition_of (record { width = width; height = height; move1 = move1; move2 = move2 }) regions))
low names (word.Code n t s u w h) x enough e = code_low n s u w h (partition_named names t) x (partition_low names t) e
low names (word.Induce n t axis) x enough e = induce_low n axis (partition_named names t) x (partition_low names t) e

pub unspent : (names : Names) (w : Word) (x : Reply) → IsEnoughFor names w → IsReply names w x → IsUnspent x
unspent names w x enough e = low_is_unspent x (low names w x enough e)
