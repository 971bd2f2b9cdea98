-- The tables tell how large images grow.
use Rattle.std.proofs.Common.{arith, ◌≡◌, ◌<◌, ◌≤◌, ◌+◌, ℕ, zero, suc, List, [], ◌∷◌, length, map, replicate, get_or, slice_index_or, Bool, true, false, ◌&&◌, ◌||◌, nat_eq, nat_lt, nat_le, if◌then◌else◌, Option, None, Some, option_map, refl, sym, ◌∙◌, ap, subst}
use Rattle.wt_grid.specs.Unless.{unless}
use Rattle.std.proofs.lemmas.Bool.{and_parts}
use Rattle.std.specs.List.{list_all}
use Rattle.wt_grid.specs.Traces.{piece_tiles}
use Rattle.wt_grid.specs.Images.{first_tile}
use Rattle.wt_grid.specs.declared.image.Image.TheVariants.{One as Single, Two as Double}
use Rattle.wt_grid.specs.declared.image.Image.{Image}
use Rattle.wt_grid.specs.declared.axis.Axis.TheVariants.{One, Two}
use Rattle.wt_grid.specs.declared.axis.Axis.{Axis}
use Rattle.std.proofs.lemmas.Bool.Decides.{nat_tests}
use Rattle.std.proofs.lemmas.List.FromFn.{get_or-map-range_with_len}
use Rattle.std.proofs.lemmas.List.{get_or-replicate}
use Rattle.wt_tile.specs.declared.tile.TileList.{TileList}
use Rattle.wt_tile.specs.Sets.{set_fault}
use Rattle.wt_tile.proofs.Sizes.{few_tiles}
use Rattle.wt_grid.specs.First.{or_else, first_from}
use Rattle.wt_grid.specs.Order.{in_order, leads, is_below, comes_before}
use Rattle.wt_grid.specs.Widths.{Stage, width, total}
use Rattle.wt_grid.proofs.First.{neither, none_under}
use Rattle.wt_step.specs.declared.raw.RawStep.{RawStep}
use Rattle.wt_step.specs.declared.raw.RawRestrict.{RawRestrict}
use Rattle.wt_step.specs.declared.raw.RawLink.{RawLink}
use Rattle.wt_step.specs.declared.raw.RawLink.TheVariants.{Marker, Restrict}
use Rattle.wt_step.specs.declared.raw.StepFault.TheVariants.{Radius, Fine, Coarse, Kept}
use Rattle.wt_step.specs.Words.{image_fits}
use Rattle.wt_step.specs.Faults.{step_fault}
use Rattle.wt_step.specs.Restrict.{kept_fit, sorting_fault, use_fault, restrict_fault}
use Rattle.wt_step.specs.Links.{link_fault, fine_of, coarse_of}
use Rattle.wt_step.proofs.Goodness.{good_step}
use Rattle.wt_step.proofs.Restricted.{good_restrict}
use Rattle.wt_tile.proofs.TileSets.{no_fault as set_none}
use Rattle.wt_chain.specs.Sets.{AreLinked, last_set, first_count, IsClosedBy}
use Rattle.wt_chain.specs.Growth.{image_of, is_along, stage, stages, origin_from, origin, renaming_stage, turn, turn_stages}
use Rattle.wt_bijection.specs.Renaming.{renaming_fault}
use Rattle.wt_bijection.proofs.Lengths.{no_fault}
use Rattle.wt_chain.specs.Faults.{growth_fault_at, growth_fault, small_at, first_small}
use Rattle.wt_chain.specs.Tables.{entry, grows_by, grows, next_table, climb, origin_entry, renamed_table, turns_table, IsTable}

-- What good steps say of images.

all_at : {A : Type 0} (p : A → Bool) (xs : List A) (t : ℕ) (d : A) → list_all p xs ≡ true → t < length xs → p (get_or xs t d) ≡ true
all_at p [] t d e lt = absurd (omega arith)
all_at p (x ∷ xs) zero d e lt = (and_parts (p x) (list_all p xs) e).0
all_at p (x ∷ xs) (suc t) d e lt = all_at p xs t d (and_parts (p x) (list_all p xs) e).1 (omega arith)

ordered_at : (n : ℕ) (xs : List ℕ) (t : ℕ) → in_order (is_below n) comes_before xs ≡ true → t < length xs → get_or xs t 0 < n
ordered_at n [] t e lt = absurd (omega arith)
ordered_at n (x ∷ xs) t e lt =
    let b = and_parts (is_below n x && leads comes_before x xs) (in_order (is_below n) comes_before xs) e in
    let c = and_parts (is_below n x) (leads comes_before x xs) b.0 in
    at_place t lt (grind (arith, nat_tests, c.0)) (λ k l. ordered_at n xs k b.1 l)
  where
    at_place : (k : ℕ) → k < length (x ∷ xs) → x < n → ((j : ℕ) → j < length xs → get_or xs j 0 < n) → get_or (x ∷ xs) k 0 < n
    at_place zero l h r = h
    at_place (suc k) l h r = r k (omega arith)

fits_first : (n : ℕ) (image : Image) → image_fits n image ≡ true → first_tile image < n
fits_first n (Single a) e = grind (arith, nat_tests, e)
fits_first n (Double a b) e = let g = and_parts (nat_lt a n) (nat_lt b n) e in grind (arith, nat_tests, g.0)

marker_first : (s : RawStep) → step_fault s ≡ None → (t : ℕ) → t < length s.coarse.tiles → first_tile (slice_index_or s.images t (Single 0)) < length s.fine.tiles
marker_first s e t lt =
    let b = and_parts (nat_eq (length s.images) (length s.coarse.tiles)) (list_all (image_fits (length s.fine.tiles)) s.images) (good_step s e).image_list in
    let n : length s.images ≡ length s.coarse.tiles = grind (arith, nat_tests, b.0) in
    fits_first (length s.fine.tiles) (slice_index_or s.images t (Single 0)) (all_at (image_fits (length s.fine.tiles)) s.images t (Single 0) b.1 (omega arith))

restrict_first : (s : RawRestrict) → restrict_fault s ≡ None → (t : ℕ) → t < length s.coarse.tiles → get_or s.kept t 0 < length s.fine.tiles
restrict_first s e t lt =
    let b = and_parts (in_order (is_below (length s.fine.tiles)) comes_before s.kept) (nat_eq (length s.kept) (length s.coarse.tiles)) (good_restrict s e).kept_list in
    let n : length s.kept ≡ length s.coarse.tiles = grind (arith, nat_tests, b.1) in
    ordered_at (length s.fine.tiles) s.kept t b.0 (omega arith)

-- the first tile of an image is a fine tile
pub first_fits : (link : RawLink) → link_fault link ≡ None → (t : ℕ) → t < length (coarse_of link).tiles → first_tile (image_of link t) < length (fine_of link).tiles
unfolding link_fault
first_fits (Marker s) e t lt = marker_first s e t lt
first_fits (Restrict s) e t lt = restrict_first s e t lt

fits_second : (n a b : ℕ) → image_fits n (Double a b) ≡ true → b < n
fits_second n a b e = let h = (and_parts (nat_lt a n) (nat_lt b n) e).1 in grind (arith, nat_tests, h)

-- the second tile of an image is a fine tile, as the first is
pub second_fits : (link : RawLink) → link_fault link ≡ None → (t a b : ℕ) → t < length (coarse_of link).tiles → image_of link t ≡ Double a b → b < length (fine_of link).tiles
unfolding link_fault
second_fits (Marker s) e t a b lt i =
    let h = and_parts (nat_eq (length s.images) (length s.coarse.tiles)) (list_all (image_fits (length s.fine.tiles)) s.images) (good_step s e).image_list in
    let n : length s.images ≡ length s.coarse.tiles = grind (arith, nat_tests, h.0) in
    let f = all_at (image_fits (length s.fine.tiles)) s.images t (Single 0) h.1 (omega arith) in
    fits_second (length s.fine.tiles) a b (subst (λ (x : Image). image_fits (length s.fine.tiles) x ≡ true) i f)
second_fits (Restrict s) e t a b lt i = absurd cc

pub coarse_good : (link : RawLink) → link_fault link ≡ None → set_fault (coarse_of link) ≡ None
unfolding link_fault
coarse_good (Marker s) e = set_none s.coarse (good_step s e).coarse
coarse_good (Restrict s) e = set_none s.coarse (good_restrict s e).coarse

pub few_coarse : (link : RawLink) → link_fault link ≡ None → length (coarse_of link).tiles ≤ 256
few_coarse link e = (few_tiles (coarse_of link) (coarse_good link e)).1

-- One step.

pub step_some : (along : Bool) (image : Image) (left : List Stage) → ((t : ℕ) → 1 ≤ width left t)
    → 1 ≤ (if along then total (width left) (piece_tiles image) else width left (first_tile image))
step_some true (Single a) left h = omega (arith, h a)
step_some true (Double a b) left h = omega (arith, h a)
step_some false image left h = h (first_tile image)

step_tells : (along : Bool) (image : Image) (n : ℕ) (rows : List Bool) (left : List Stage) → IsTable n rows left → first_tile image < n
    → grows_by along image rows ≡ nat_le 2 (if along then total (width left) (piece_tiles image) else width left (first_tile image))
step_tells true (Single a) n rows left table lt =
    let same : width left a + 0 ≡ width left a = omega arith in rw same (table.tells a lt)
step_tells true (Double a b) n rows left table lt =
    let wide : 2 ≤ width left a + (width left b + 0) = omega (arith, table.some a, table.some b) in grind (arith, nat_tests, wide)
step_tells false (Single a) n rows left table lt = table.tells a lt
step_tells false (Double a b) n rows left table lt = table.tells a lt

next_is_table : (axis : Axis) (link : RawLink) (rows : List Bool) (left : List Stage) → link_fault link ≡ None
    → IsTable (length (fine_of link).tiles) rows left → IsTable (length (coarse_of link).tiles) (next_table axis link rows) (stage axis link ∷ left)
unfolding next_table
next_is_table axis link rows left e table = record {
  tells = λ t lt. get_or-map-range_with_len (grows axis link rows) 0 256 t t false (omega (arith, few_coarse link e)) (omega arith)
      ∙ step_tells (is_along axis link) (image_of link t) (length (fine_of link).tiles) rows left table (first_fits link e t lt);
  some = λ t. step_some (is_along axis link) (image_of link t) left table.some;
}

-- All steps, the renaming, and n turns.

climb_is_table : (axis : Axis) (links : List RawLink) (set : TileList) (rows : List Bool) (left : List Stage) → AreLinked set links
    → IsTable (length set.tiles) rows left → IsTable (length (last_set set links).tiles) (climb axis links rows) (stages axis links left)
climb_is_table axis [] set rows left h table = table
climb_is_table axis (link ∷ links) set rows left h table =
    let here : IsTable (length (fine_of link).tiles) rows left = rw h.1 table in
    climb_is_table axis links (coarse_of link) (next_table axis link rows) (stage axis link ∷ left) h.2 (next_is_table axis link rows left h.0 here)

pub origin_below : (i : ℕ) (rs : List ℕ) (t m : ℕ) → 0 < m → i + length rs ≤ m → origin_from i rs t < m
origin_below i [] t m some le = some
origin_below i (r ∷ rs) t m some le = at_first (nat_eq r t) (origin_below (i + 1) rs t m some (omega arith))
  where
    at_first : (b : Bool) → origin_from (i + 1) rs t < m → (if b then i else origin_from (i + 1) rs t) < m
    at_first true h = omega arith
    at_first false h = h

renamed_is_table : (n m : ℕ) (renaming : List ℕ) (rows : List Bool) (left : List Stage) → n ≤ 256 → 0 < m → length renaming ≤ m
    → IsTable m rows left → IsTable n (renamed_table renaming rows) (renaming_stage renaming ∷ left)
unfolding renamed_table
renamed_is_table n m renaming rows left few some le table = record {
  tells = λ t lt. get_or-map-range_with_len (origin_entry renaming rows) 0 256 t t false (omega arith) (omega arith)
      ∙ table.tells (origin renaming t) (origin_below 0 renaming t m some (omega arith));
  some = λ t. table.some (origin renaming t);
}

no_turn : (t : ℕ) → t < 256 → entry (replicate 256 false) t ≡ nat_le 2 1
no_turn t lt = get_or-replicate 256 t false false lt

pub fine_good : (link : RawLink) → link_fault link ≡ None → set_fault (fine_of link) ≡ None
unfolding link_fault
fine_good (Marker s) e = set_none s.fine (good_step s e).fine
fine_good (Restrict s) e = set_none s.fine (good_restrict s e).fine

-- after n turns, for a loop of good steps whose renaming has no fault
pub turns_are_table : (axis : Axis) (link : RawLink) (links : List RawLink) (renaming : List ℕ) (n : ℕ) → AreLinked (fine_of link) (link ∷ links)
    → renaming_fault (last_set (coarse_of link) links).tiles (fine_of link).tiles renaming ≡ None
    → IsTable (length (fine_of link).tiles) (turns_table axis (link ∷ links) renaming n) (turn_stages axis (link ∷ links) renaming n)
turns_are_table axis link links renaming zero h e =
    let few = few_tiles (fine_of link) (fine_good link h.0) in
    record { tells = λ t lt. no_turn t (omega arith); some = λ t. omega arith }
turns_are_table axis link links renaming (suc n) h e =
    let few = few_tiles (fine_of link) (fine_good link h.0) in
    let whole = no_fault (last_set (coarse_of link) links).tiles (fine_of link).tiles renaming e in
    renamed_is_table (length (fine_of link).tiles) (length (last_set (coarse_of link) links).tiles) renaming
    (climb axis (link ∷ links) (turns_table axis (link ∷ links) renaming n)) (stages axis (link ∷ links) (turn_stages axis (link ∷ links) renaming n))
    few.1 (omega arith) (omega arith)
    (climb_is_table axis (link ∷ links) (fine_of link) (turns_table axis (link ∷ links) renaming n) (turn_stages axis (link ∷ links) renaming n) h
    (turns_are_table axis link links renaming n h e))

pub first_same : {A : Type 0} (f g : ℕ → Option A) (i n : ℕ) → ((k : ℕ) → i ≤ k → k < i + n → f k ≡ g k) → first_from f i n ≡ first_from g i n
first_same f g i zero h = refl
first_same f g i (suc n) h = rw (h i (omega arith) (omega arith)) (ap (or_else (g i)) (first_same f g (i + 1) n (λ k lo hi. h k (omega arith) (omega arith))))

-- the first tile that two tables call small is the first whose image doesn't grow
small_is_fault : (link : RawLink) (links : List RawLink) (renaming : List ℕ) (n : ℕ) → AreLinked (fine_of link) (link ∷ links)
    → renaming_fault (last_set (coarse_of link) links).tiles (fine_of link).tiles renaming ≡ None
    → first_small (turns_table One (link ∷ links) renaming n) (turns_table Two (link ∷ links) renaming n) (length (fine_of link).tiles)
    ≡ growth_fault (link ∷ links) renaming n (length (fine_of link).tiles)
small_is_fault link links renaming n h e =
    let wide = turns_are_table One link links renaming n h e in
    let high = turns_are_table Two link links renaming n h e in
    first_same (small_at (turns_table One (link ∷ links) renaming n) (turns_table Two (link ∷ links) renaming n)) (growth_fault_at (link ∷ links) renaming n) 0 (length (fine_of link).tiles)
    (λ k lo hi. let w = wide.tells k (omega arith) in let t = high.tells k (omega arith) in rw (w, t) refl)

pub growth_is_fault : (loop : List RawLink) (renaming : List ℕ) (turn_stages : ℕ) → IsClosedBy loop renaming
    → first_small (turns_table One loop renaming turn_stages) (turns_table Two loop renaming turn_stages) (first_count loop) ≡ growth_fault loop renaming turn_stages (first_count loop)
growth_is_fault [] renaming turn_stages h = absurd h
growth_is_fault (link ∷ links) renaming turn_stages h = small_is_fault link links renaming turn_stages h.0 h.1
