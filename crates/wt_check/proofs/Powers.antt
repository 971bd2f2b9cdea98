-- How often tiles stand in what turns of a loop make of a rectangle.
use Rattle.std.proofs.Common.{arith, ◌≡◌, ◌<◌, ◌≤◌, ◌+◌, ◌-◌, ◌*◌, ◌/◌, ◌%◌, ◌^◌, ℕ, zero, suc, List, [], ◌∷◌, length, take, drop, map, get_or, slice_index, Bool, true, false, nat_eq, if◌then◌else◌, Option, Some, None, MatchOption, inl, inr, refl, sym, ◌∙◌, ap, subst}
use Rattle.wt_chain.proofs.Turned.{piece_of, piece_is, tiles_are, tiles_at, turned_last}
use Rattle.wt_tile.specs.Matching.{matches}
use Rattle.wt_grid.specs.declared.image.Image.TheVariants.{One as Single, Two as Double}
use Rattle.wt_grid.specs.declared.image.Image.{Image}
use Rattle.wt_grid.specs.declared.axis.Axis.TheVariants.{One, Two}
use Rattle.std.proofs.Math.Nat.{div-add-mod, mul-le-mul_left}
use Rattle.std.proofs.lemmas.List.{take_all}
use Rattle.std.proofs.lemmas.Bool.{cases_lt}
use Rattle.std.proofs.lemmas.Bool.Decides.{nat_tests}
use Rattle.wt_tile.specs.declared.tile.Tile.{Tile}
use Rattle.wt_tile.specs.declared.tile.TileList.{TileList}
use Rattle.wt_tile.proofs.Sizes.{few_tiles}
use Rattle.wt_bijection.specs.Carried.{IsRenaming}
use Rattle.wt_grid.specs.Grid.{Grid, IsGrid, cell, lines, grid_of}
use Rattle.wt_grid.specs.Images.{piece_at, LineBelow, first_tile}
use Rattle.wt_grid.specs.Parts.{AllBelow, IsValid}
use Rattle.wt_grid.specs.Shifts.{fill}
use Rattle.wt_grid.specs.Traces.{piece_tiles}
use Rattle.wt_grid.specs.Widths.{total}
use Rattle.wt_pattern.specs.Patterns.{IsPattern}
use Rattle.wt_morphism.specs.Images.{piece}
use Rattle.wt_step.specs.declared.raw.RawLink.{RawLink}
use Rattle.wt_step.specs.declared.raw.RawLink.TheVariants.{Marker, Restrict}
use Rattle.wt_step.specs.Links.{link_fault, fine_of, coarse_of}
use Rattle.wt_step.specs.Meaning.{pieces_of}
use Rattle.wt_chain.specs.declared.raw.RawChain.{RawChain}
use Rattle.wt_chain.specs.declared.raw.End.{End}
use Rattle.wt_chain.specs.declared.raw.End.TheVariants.{Loop}
use Rattle.wt_chain.specs.Faults.{chain_fault}
use Rattle.wt_chain.specs.Good.{IsGoodLoop, IsGoodEnd}
use Rattle.wt_chain.proofs.Goodness.{good, linked_run}
use Rattle.wt_chain.proofs.Run.{run_drop}
use Rattle.wt_chain.specs.Sets.{AreLinked, last_set, first_count, IsRun}
use Rattle.wt_chain.specs.Growth.{image_of, origin}
use Rattle.wt_chain.specs.Turns.{axis_of, image_under, image_through, renamed_back, turned, turned_times, single}
use Rattle.wt_chain.proofs.Grown.{first_fits, fine_good, coarse_good, few_coarse}
use Rattle.wt_scale.proofs.LinkImages.{link_image}
use Rattle.wt_scale.proofs.Doubling.{through_valid, turned_valid, times_valid}
use Rattle.wt_scale.proofs.RenamedBack.{renamed_back_valid}
use Rattle.wt_check.specs.Powers.{power, unit, units, count, HasLarge, AreCounts, sum_below, pushed, tiles_under, tile_back, IsClosed}
use Rattle.wt_check.specs.Census.{IsTooLarge}
use Rattle.wt_check.proofs.Totals.{sum_same, sum_zero, sum_add, sum_member, total_grid, total_of, total_lines, pulled, image_adds}

-- ---- one step's image

total_same : (f g : ℕ → ℕ) (xs : List ℕ) → ((x : ℕ) → f x ≡ g x) → total f xs ≡ total g xs
total_same f g [] h = refl
total_same f g (x ∷ xs) h =
    let a = h x in
    let r = total_same f g xs h in
    omega (arith, a, r)

-- What the cells of an image add up to, each coarse tile adds by its tiles.
pub image_total : (link : RawLink) → link_fault link ≡ None → (q : Grid) → IsPattern (coarse_of link).tiles q → (f : ℕ → ℕ)
    → total f (image_under link q).cells ≡ total (λ t. total f (piece_tiles (image_of link t))) q.cells
image_total link good q p f =
    let v = link_image link good q p in
    total_lines (axis_of link) f (image_under link q) v.pattern.0
    ∙ (image_adds f (pieces_of link) (lines (axis_of link) q) (lines (axis_of link) (image_under link q)) v.image
    ∙ (sym (total_lines (axis_of link) (pulled f (pieces_of link)) q p.0)
    ∙ total_same (pulled f (pieces_of link)) (λ t. total f (piece_tiles (image_of link t))) q.cells (λ t. ap (total f) (tiles_at link t))))

-- and a rectangle that is renamed back by what each tile is renamed to
pub back_total : (renaming : List ℕ) (g : Grid) → IsGrid g → (f : ℕ → ℕ) → total f (renamed_back renaming g).cells ≡ total (λ t. f (origin renaming t)) g.cells
back_total renaming g whole f =
    total_of f g.width g.height (λ x y. origin renaming (cell g x y)) whole.wide
    ∙ sym (total_grid (λ t. f (origin renaming t)) g whole)

-- ---- counts

no_unit : (n c : ℕ) (f : ℕ → ℕ) → n ≤ c → sum_below n (λ x. unit x c * f x) ≡ 0
no_unit zero c f le = refl
no_unit (suc n) c f le =
    let r = no_unit n c f (omega arith) in
    let e : nat_eq c n ≡ false = grind (arith, nat_tests, le) in
    rw (e, r) (omega arith)

one_unit : (n c : ℕ) (f : ℕ → ℕ) → c < n → sum_below n (λ x. unit x c * f x) ≡ f c
one_unit zero c f lt = absurd (omega arith)
one_unit (suc n) c f lt = elim (cases_lt c n) [
  | inl l ↦
      let r = one_unit n c f l in
      let e : nat_eq c n ≡ false = grind (arith, nat_tests, l) in
      rw (e, r) (omega arith)
  | inr ge ↦
      let s : c ≡ n = omega arith in
      let r = no_unit n c f (omega arith) in
      let e : nat_eq c n ≡ true = grind (arith, nat_tests, s) in
      rw (e, r, s) (omega arith)
]

-- a list's numbers added up tile by tile
by_tiles : (n : ℕ) (f : ℕ → ℕ) (xs : List ℕ) → LineBelow n xs → sum_below n (λ x. units x xs * f x) ≡ total f xs
by_tiles n f [] h = sum_same n (λ x. 0 * f x) (λ x. 0) (λ k lt. omega arith) ∙ sum_zero n
by_tiles n f (c ∷ cs) h =
    let a = sum_add n (λ x. unit x c * f x) (λ x. units x cs * f x) in
    let b = one_unit n c f h.0 in
    let r = by_tiles n f cs h.1 in
    let s = sum_same n (λ x. units x (c ∷ cs) * f x) (λ x. unit x c * f x + units x cs * f x) (λ k lt. omega arith) in
    s ∙ omega (arith, a, b, r)

line_below : (n : ℕ) (xs : List ℕ) → ((k : ℕ) → k < length xs → get_or xs k 0 < n) → LineBelow n xs
line_below n [] h = tt
line_below n (x ∷ xs) h = (h 0 (omega arith), line_below n xs (λ k lt. h (suc k) (omega arith)))

row_below : (k w h : ℕ) → 1 ≤ w → k < w * h → k / w < h
row_below k w h le lt = elim (cases_lt (k / w) h) [
  | inl l ↦ l
  | inr ge ↦
      let e = div-add-mod k w in
      let m : w * h ≤ w * (k / w) = mul-le-mul_left w ge in
      absurd (omega (arith, e, m, lt))
]

pub cells_below : (n : ℕ) (g : Grid) → IsGrid g → AllBelow n g → LineBelow n g.cells
cells_below n g whole below = line_below n g.cells (λ k lt. inside k lt)
  where
    inside : (k : ℕ) → k < length g.cells → get_or g.cells k 0 < n
    inside k lt =
        let e = div-add-mod k g.width in
        let place : k / g.width * g.width + k % g.width ≡ k = omega (arith, e) in
        let w = whole.wide in
        let size = whole.whole in
        let column : k % g.width < g.width = omega arith in
        let row : k / g.width < g.height = row_below k g.width g.height w (omega (arith, size, lt)) in
        subst (λ (i : ℕ). get_or g.cells i 0 < n) place (below (k % g.width) (k / g.width) column row)

lower : (n m : ℕ) (xs : List ℕ) → n ≤ m → LineBelow n xs → LineBelow m xs
lower n m [] le h = tt
lower n m (x ∷ xs) le h = (let a = h.0 in omega (arith, a), lower n m xs le h.1)

-- the sum over 256 tiles of how often each stands in a rectangle
pub counted : (f : ℕ → ℕ) (g : Grid) (n : ℕ) → n ≤ 256 → IsGrid g → AllBelow n g → (ns : List ℕ) → AreCounts ns g
    → sum_below 256 (λ x. slice_index ns x * f x) ≡ total f g.cells
counted f g n le whole below ns counts =
    sum_same 256 (λ x. slice_index ns x * f x) (λ x. count x g * f x) (λ k lt. ap (λ (c : ℕ). c * f k) (counts k lt))
    ∙ by_tiles 256 f g.cells (lower n 256 g.cells le (cells_below n g whole below))

-- ---- numbers pushed through one step

pub push_counts : (link : RawLink) → link_fault link ≡ None → (q : Grid) → IsPattern (coarse_of link).tiles q → (ns : List ℕ) → AreCounts ns q → (u : ℕ)
    → pushed (tiles_under link) ns 256 u ≡ count u (image_under link q)
unfolding pushed
push_counts link good q p ns counts u =
    counted (λ t. units u (piece_tiles (image_of link t))) q (length (coarse_of link).tiles) (few_coarse link good) p.0 p.1 ns counts
    ∙ sym (image_total link good q p (unit u))

pub back_counts : (renaming : List ℕ) (ts : List Tile) → length ts ≤ 256 → (g : Grid) → IsPattern ts g → (ns : List ℕ) → AreCounts ns g → (u : ℕ)
    → pushed (tile_back renaming) ns 256 u ≡ count u (renamed_back renaming g)
unfolding pushed
back_counts renaming ts few g p ns counts u =
    sum_same 256 (λ x. slice_index ns x * units u (tile_back renaming x)) (λ x. slice_index ns x * unit u (origin renaming x))
    (λ k lt. let z : unit u (origin renaming k) + 0 ≡ unit u (origin renaming k) = omega arith in ap (λ (c : ℕ). slice_index ns k * c) z)
    ∙ (counted (λ t. unit u (origin renaming t)) g (length ts) few p.0 p.1 ns counts ∙ sym (back_total renaming g p.0 (unit u)))

-- ---- large counts stay large

first_counts : (image : Image) → 1 ≤ units (first_tile image) (piece_tiles image)
first_counts (Single a) = let e : nat_eq a a ≡ true = grind (arith, nat_tests) in rw e (omega arith)
first_counts (Double a b) = let e : nat_eq a a ≡ true = grind (arith, nat_tests) in rw e (omega arith)

total_more : (f : ℕ → ℕ) (u : ℕ) (xs : List ℕ) → 1 ≤ f u → units u xs ≤ total f xs
total_more f u [] le = omega arith
total_more f u (x ∷ xs) le =
    let r = total_more f u xs le in
    let h : unit u x ≤ f x = here (nat_eq x u) refl in
    omega (arith, r, h)
  where
    here : (b : Bool) → nat_eq x u ≡ b → (if b then 1 else 0) ≤ f x
    here true e = let s : x ≡ u = grind (arith, nat_tests, e) in rw s le
    here false e = omega arith

pub large_below : (link : RawLink) → link_fault link ≡ None → (q : Grid) → IsPattern (coarse_of link).tiles q → HasLarge q → HasLarge (image_under link q)
large_below link good q p h =
    let a : ℕ = first_tile (image_of link h.0) in
    let e = image_total link good q p (unit (first_tile (image_of link h.0))) in
    let m = total_more (λ t. units (first_tile (image_of link h.0)) (piece_tiles (image_of link t))) h.0 q.cells (first_counts (image_of link h.0)) in
    let l = h.1 in
    (first_tile (image_of link h.0), omega (arith, e, m, l))

pub large_back : (renaming : List ℕ) (g : Grid) → IsGrid g → HasLarge g → HasLarge (renamed_back renaming g)
large_back renaming g whole h =
    let e = back_total renaming g whole (unit (origin renaming h.0)) in
    let one' : 1 ≤ unit (origin renaming h.0) (origin renaming h.0) = (let s : nat_eq (origin renaming h.0) (origin renaming h.0) ≡ true = grind (arith, nat_tests) in rw s (omega arith)) in
    let m = total_more (λ t. unit (origin renaming h.0) (origin renaming t)) h.0 g.cells one' in
    let l = h.1 in
    (origin renaming h.0, omega (arith, e, m, l))

pub large_through : (links : List RawLink) (set : TileList) → AreLinked set links → (q : Grid) → IsPattern (last_set set links).tiles q → HasLarge q → HasLarge (image_through links q)
large_through [] set linked q p h = h
large_through (link ∷ links) set linked q p h =
    large_below link linked.0 (image_through links q) (through_valid links (coarse_of link) linked.2 q p).pattern
    (large_through links (coarse_of link) linked.2 q p h)

none_above : (n u : ℕ) (xs : List ℕ) → n ≤ u → LineBelow n xs → units u xs ≡ 0
none_above n u [] le h = refl
none_above n u (x ∷ xs) le h =
    let r = none_above n u xs le h.1 in
    let l = h.0 in
    let e : nat_eq x u ≡ false = grind (arith, nat_tests, le, l) in
    rw e (omega (arith, r))

-- ---- turns

-- ---- steps one by one

-- what counts say of a rectangle
abbrev pub Tell : Option (List ℕ) → Grid → Type 0
Tell o g = MatchOption o (HasLarge g) (λ next. AreCounts next g)

-- a list of counts that is asked of any rectangle above the steps
abbrev pub TellsThrough : List RawLink → List ℕ → Option (List ℕ) → Type 0
TellsThrough links ns o = (set : TileList) (q : Grid) → AreLinked set links → IsPattern (last_set set links).tiles q → AreCounts ns q → Tell o (image_through links q)

abbrev pub Pushes : (ℕ → List ℕ) → List ℕ → Option (List ℕ) → Type 0
Pushes tiles ns o = MatchOption o ((u : ℕ) × (u < 256) × (2 ^ 128 ≤ pushed tiles ns 256 u)) (λ next. (u : ℕ) → u < 256 → slice_index next u ≡ pushed tiles ns 256 u)

-- counts pushed as they stand in a rectangle are those in its image
pushed_tell : (tiles : ℕ → List ℕ) (ns : List ℕ) (g : Grid) → ((u : ℕ) → pushed tiles ns 256 u ≡ count u g) → (o : Option (List ℕ)) → Pushes tiles ns o → Tell o g
pushed_tell tiles ns g same None h = let e = same h.0 in let l = h.2 in (h.0, omega (arith, e, l))
pushed_tell tiles ns g same (Some next) h = λ u lt. h u lt ∙ same u

pub through_none : (links rest : List RawLink) (link : RawLink) (ns : List ℕ) → links ≡ link ∷ rest → TellsThrough rest ns None → TellsThrough links ns None
through_none links rest link ns e tells set q linked p counts =
    let l = subst (λ (ls : List RawLink). AreLinked set ls) e linked in
    let p' = subst (λ (ls : List RawLink). IsPattern (last_set set ls).tiles q) e p in
    let h = tells (coarse_of link) q l.2 p' counts in
    let v = (through_valid rest (coarse_of link) l.2 q p').pattern in
    subst (λ (ls : List RawLink). HasLarge (image_through ls q)) (sym e) (large_below link l.0 (image_through rest q) v h)

pub through_some : (links rest : List RawLink) (link : RawLink) (ns coarse : List ℕ) (o : Option (List ℕ)) → links ≡ link ∷ rest → TellsThrough rest ns (Some coarse) → Pushes (tiles_under link) coarse o
    → TellsThrough links ns o
through_some links rest link ns coarse o e tells push set q linked p counts =
    let l = subst (λ (ls : List RawLink). AreLinked set ls) e linked in
    let p' = subst (λ (ls : List RawLink). IsPattern (last_set set ls).tiles q) e p in
    let h = tells (coarse_of link) q l.2 p' counts in
    let v = (through_valid rest (coarse_of link) l.2 q p').pattern in
    subst (λ (ls : List RawLink). Tell o (image_through ls q)) (sym e)
    (pushed_tell (tiles_under link) coarse (image_under link (image_through rest q)) (push_counts link l.0 (image_through rest q) v coarse h) o push)

-- ---- a turn

abbrev pub TellsTurn : List RawLink → List ℕ → List ℕ → Option (List ℕ) → Type 0
TellsTurn loop renaming ns o = (closed : IsClosed loop renaming) (g : Grid) → IsPattern closed.set.tiles g → AreCounts ns g → Tell o (turned loop renaming g)

pub back_valid : (loop : List RawLink) (renaming : List ℕ) (closed : IsClosed loop renaming) (g : Grid) → IsPattern closed.set.tiles g → IsPattern (last_set closed.set loop).tiles (renamed_back renaming g)
back_valid loop renaming closed g p = (renamed_back_valid (last_set closed.set loop).tiles closed.set.tiles renaming closed.renames g p).pattern

pub turn_none : (loop : List RawLink) (renaming ns : List ℕ) → Pushes (tile_back renaming) ns None → TellsTurn loop renaming ns None
turn_none loop renaming ns push closed g p counts =
    large_through loop closed.set closed.linked (renamed_back renaming g) (back_valid loop renaming closed g p)
    (pushed_tell (tile_back renaming) ns (renamed_back renaming g) (back_counts renaming closed.set.tiles closed.few g p ns counts) None push)

pub turn_some : (loop : List RawLink) (renaming ns named : List ℕ) (o : Option (List ℕ)) → Pushes (tile_back renaming) ns (Some named) → TellsThrough loop named o → TellsTurn loop renaming ns o
turn_some loop renaming ns named o push tells closed g p counts =
    tells closed.set (renamed_back renaming g) closed.linked (back_valid loop renaming closed g p)
    (pushed_tell (tile_back renaming) ns (renamed_back renaming g) (back_counts renaming closed.set.tiles closed.few g p ns counts) (Some named) push)

-- ---- all turns of a tile

module _ (loop : List RawLink) (renaming : List ℕ) (closed : IsClosed loop renaming) where
  pub renaming_few : length renaming ≤ 256
  renaming_few =
      let w = closed.renames.whole in let a = closed.renames.alike in let f = closed.few in
      omega (arith, w, a, f)

  pub turn_valid : (g : Grid) → IsPattern closed.set.tiles g → IsPattern closed.set.tiles (turned loop renaming g)
  turn_valid g p = (through_valid loop closed.set closed.linked (renamed_back renaming g) (back_valid loop renaming closed g p)).pattern

  large_turn : (g : Grid) → IsPattern closed.set.tiles g → HasLarge g → HasLarge (turned loop renaming g)
  large_turn g p h = large_through loop closed.set closed.linked (renamed_back renaming g) (back_valid loop renaming closed g p) (large_back renaming g p.0 h)

  pub all_valid : (n : ℕ) (g : Grid) → IsPattern closed.set.tiles g → IsPattern closed.set.tiles (turned_times loop renaming n g)
  all_valid zero g p = p
  all_valid (suc n) g p = all_valid n (turned loop renaming g) (turn_valid g p)

  pub single_valid : (t : ℕ) → t < length closed.set.tiles → IsPattern closed.set.tiles (single t)
  single_valid t lt = (record { wide = omega arith; high = omega arith; whole = refl }, below, valid)
    where
      below : AllBelow (length closed.set.tiles) (single t)
      below x y lx ly = let z : y * 1 + x ≡ 0 = omega arith in rw z lt

      valid : IsValid (matches closed.set.tiles) (single t)
      valid One i j li lj = absurd (omega arith)
      valid Two i j li lj = absurd (omega arith)

  module _ (t : ℕ) (lt : t < length closed.set.tiles) where
    pub power_valid : (n : ℕ) → IsPattern closed.set.tiles (power loop renaming n t)
    power_valid n = all_valid n (single t) (single_valid t lt)

    large_power : (k n : ℕ) → HasLarge (power loop renaming k t) → HasLarge (power loop renaming (k + n) t)
    large_power k zero h = let e : k + 0 ≡ k = omega arith in rw e h
    large_power k (suc n) h =
        let e : k + suc n ≡ suc (k + n) = omega arith in
        rw (e, turned_last loop renaming (k + n) (single t)) (large_turn (power loop renaming (k + n) t) (power_valid (k + n)) (large_power k n h))

    -- one turn on
    pub turn_tells : (ns : List ℕ) (o : Option (List ℕ)) (n : ℕ) → TellsTurn loop renaming ns o → AreCounts ns (power loop renaming n t) → Tell o (power loop renaming (n + 1) t)
    turn_tells ns o n tells counts =
        let e : n + 1 ≡ suc n = omega arith in
        rw (e, turned_last loop renaming n (single t)) (tells closed (power loop renaming n t) (power_valid n) counts)

    -- counts that are numbers below 2^128 are not too large, and no earlier ones were
    pub not_large : (ns : List ℕ) (n : ℕ) → AreCounts ns (power loop renaming n t) → ((u : ℕ) → slice_index ns u < 2 ^ 128) → IsTooLarge loop renaming n t → ⊥
    not_large ns n counts fits h =
        let e : h.0 + (n - h.0) ≡ n = (let l = h.1 in omega (arith, l)) in
        let large = subst (λ (m : ℕ). HasLarge (power loop renaming m t)) e (large_power h.0 (n - h.0) h.2) in
        elim (cases_lt large.0 256) [
          | inl below ↦
              let c = counts large.0 below in
              let f = fits large.0 in
              let l = large.1 in
              omega (arith, c, f, l)
          | inr ge ↦
              let few = closed.few in
              let p = power_valid n in
              let z = none_above (length closed.set.tiles) large.0 (power loop renaming n t).cells (omega (arith, few, ge)) (cells_below (length closed.set.tiles) (power loop renaming n t) p.0 p.1) in
              let l = large.1 in
              omega (arith, z, l)
        ]

-- ---- the loop of a good chain

loop_closed : (loop : List RawLink) (renaming : List ℕ) (e : ℕ) → IsRun loop → IsGoodLoop loop renaming e → IsClosed loop renaming
loop_closed [] renaming e run good = absurd good
loop_closed (link ∷ links) renaming e run good = record {
  set = fine_of link;
  few = (few_tiles (fine_of link) (fine_good link run.0)).1;
  counted = refl;
  linked = run;
  renames = good.0;
}

pub chain_closed : (c : RawChain) → chain_fault c ≡ None → (start e : ℕ) (renaming : List ℕ) → c.end ≡ Loop start renaming e → IsClosed (drop start c.steps) renaming
chain_closed c none start e renaming end =
    let g = good c none in
    loop_closed (drop start c.steps) renaming e (run_drop start c.steps (linked_run c.steps g.run)) (subst (λ (z : End). IsGoodEnd c.steps z) end g.end)
