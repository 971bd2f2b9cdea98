-- Masks pulled back through the steps of a loop.
use Rattle.std.proofs.Common.{arith, ◌≡◌, ◌<◌, ◌≤◌, ◌+◌, ◌-◌, ℕ, zero, suc, List, [], ◌∷◌, length, take, get_or, slice_index, slice_index_or, map, min, max, Bool, true, false, ◌&&◌, nat_eq, nat_lt, if◌then◌else◌, None, MatchBool, refl, sym, ◌∙◌, ap, subst}
use Rattle.std.proofs.lemmas.Bool.{and_parts}
use Rattle.wt_chain.specs.Tables.{entries_of}
use Rattle.std.specs.List.{list_all}
use Rattle.wt_grid.specs.Traces.{piece_tiles}
use Rattle.wt_grid.specs.declared.image.Image.TheVariants.{One as Single, Two as Double}
use Rattle.wt_grid.specs.declared.image.Image.{Image}
use Rattle.std.proofs.lemmas.Bool.Decides.{nat_tests}
use Rattle.wt_tile.specs.declared.tile.TileList.{TileList}
use Rattle.wt_tile.proofs.Sizes.{few_tiles}
use Rattle.wt_grid.specs.Grid.{Grid}
use Rattle.wt_grid.specs.Images.{LineBelow, first_tile}
use Rattle.wt_grid.specs.Widths.{total}
use Rattle.wt_pattern.specs.Patterns.{IsPattern}
use Rattle.wt_step.specs.declared.raw.RawLink.{RawLink}
use Rattle.wt_step.specs.declared.raw.RawLink.TheVariants.{Marker, Restrict}
use Rattle.wt_step.specs.Words.{image_fits}
use Rattle.wt_step.specs.Links.{link_fault, fine_of, coarse_of}
use Rattle.wt_step.proofs.Goodness.{good_step}
use Rattle.wt_lane.specs.Masks.{mask_bit}
use Rattle.wt_chain.specs.Sets.{AreLinked, last_set, first_count}
use Rattle.wt_chain.specs.Growth.{image_of, origin}
use Rattle.wt_chain.specs.Turns.{image_under, image_through, renamed_back, turned, turned_times, single}
use Rattle.wt_chain.proofs.Grown.{first_fits, second_fits, coarse_good, origin_below}
use Rattle.wt_scale.proofs.Doubling.{through_valid}
use Rattle.wt_check.specs.Powers.{power, unit, units, count, IsClosed}
use Rattle.wt_check.specs.Masks.{image_bit, AreMasks, pulled_by, pulled_through}
use Rattle.wt_mask.specs.Masks.{mask_at}
use Rattle.wt_check.specs.Primitive.{IsMixing, HasNoMixing, ArePowers}
use Rattle.wt_check.proofs.Powers.{image_total, back_total, back_valid, turn_valid, single_valid, renaming_few, cells_below}
use Rattle.wt_check.proofs.Pushed.{origins_at}

-- ---- the tiles of an image are fine tiles

-- ---- one step

image_masks : (image : Image) (n : ℕ) (rows : List (List ℕ)) (weights : ℕ → ℕ → ℕ) → AreMasks n rows weights → first_tile image < n → ((a b : ℕ) → image ≡ Double a b → b < n) → (u : ℕ)
    → image_bit rows u image ≡ min 1 (total (weights u) (piece_tiles image))
image_masks (Single a) n rows weights masks lt second u = let x = masks a u lt in omega (arith, x)
image_masks (Double a b) n rows weights masks lt second u =
    let x = masks a u lt in
    let y = masks b u (second a b refl) in
    omega (arith, x, y)

pub step_masks : (link : RawLink) → link_fault link ≡ None → (rows next : List (List ℕ)) (weights : ℕ → ℕ → ℕ)
    → ((t u : ℕ) → t < 256 → mask_bit (mask_at next t) u ≡ image_bit rows u (image_of link t)) → AreMasks (length (fine_of link).tiles) rows weights
    → AreMasks (length (coarse_of link).tiles) next (λ u. pulled_by link (weights u))
step_masks link e rows next weights made masks t u lt =
    let few = (few_tiles (coarse_of link) (coarse_good link e)).1 in
    made t u (omega (arith, few)) ∙ image_masks (image_of link t) (length (fine_of link).tiles) rows weights masks (first_fits link e t lt) (λ a b i. second_fits link e t a b lt i) u

-- ---- several steps

pub record IsStep (set : TileList) (links : List RawLink) (k : ℕ) (link : RawLink) : Type 0 where
  pub good : link_fault link ≡ None
  pub fine : fine_of link ≡ last_set set (take k links)
  pub coarse : last_set set (take (suc k) links) ≡ coarse_of link
  pub pulls : (f : ℕ → ℕ) (t : ℕ) → pulled_through (take (suc k) links) f t ≡ pulled_by link (pulled_through (take k links) f) t

pub step_at : (k : ℕ) (set : TileList) (links : List RawLink) (link : RawLink) → AreLinked set links → k < length links → link ≡ get_or links k link → IsStep set links k link
step_at k set [] link linked lt e = absurd (omega arith)
step_at zero set (l ∷ ls) link linked lt e = rw e (record { good = linked.0; fine = linked.1; coarse = refl; pulls = λ f t. refl })
step_at (suc k) set (l ∷ ls) link linked lt e =
    let r = step_at k (coarse_of l) ls link linked.2 (omega arith) e in
    record { good = r.good; fine = r.fine; coarse = r.coarse; pulls = λ f t. r.pulls (pulled_by l f) t }

pub climbed_masks : (k : ℕ) (set : TileList) (links : List RawLink) (link : RawLink) (rows next : List (List ℕ)) (weights : ℕ → ℕ → ℕ) → AreLinked set links → k < length links → link ≡ get_or links k link
    → ((t u : ℕ) → t < 256 → mask_bit (mask_at next t) u ≡ image_bit rows u (image_of link t))
    → AreMasks (length (last_set set (take k links)).tiles) rows (λ u. pulled_through (take k links) (weights u))
    → AreMasks (length (last_set set (take (suc k) links)).tiles) next (λ u. pulled_through (take (suc k) links) (weights u))
climbed_masks k set links link rows next weights linked lt e made masks t u below =
    let s = step_at k set links link linked lt e in
    let before : AreMasks (length (fine_of link).tiles) rows (λ u. pulled_through (take k links) (weights u)) = subst (λ (x : TileList). AreMasks (length x.tiles) rows (λ u. pulled_through (take k links) (weights u))) (sym s.fine) masks in
    let m = step_masks link s.good rows next (λ u. pulled_through (take k links) (weights u)) made before in
    m t u (subst (λ (x : TileList). t < length x.tiles) s.coarse below) ∙ ap (λ (w : ℕ). min 1 w) (sym (s.pulls (weights u) t))

-- ---- one turn

total_alike : (n : ℕ) (f g : ℕ → ℕ) (xs : List ℕ) → LineBelow n xs → ((x : ℕ) → x < n → f x ≡ g x) → total f xs ≡ total g xs
total_alike n f g [] b h = refl
total_alike n f g (x ∷ xs) b h =
    let a = h x b.0 in
    let r = total_alike n f g xs b.1 h in
    omega (arith, a, r)

total_through : (links : List RawLink) (set : TileList) → AreLinked set links → (q : Grid) → IsPattern (last_set set links).tiles q → (f : ℕ → ℕ)
    → total f (image_through links q).cells ≡ total (pulled_through links f) q.cells
total_through [] set linked q p f = refl
total_through (link ∷ links) set linked q p f =
    image_total link linked.0 (image_through links q) (through_valid links (coarse_of link) linked.2 q p).pattern f
    ∙ total_through links (coarse_of link) linked.2 q p (pulled_by link f)

module _ (loop : List RawLink) (renaming : List ℕ) (closed : IsClosed loop renaming) where
  turn_total : (g : Grid) → IsPattern closed.set.tiles g → (f : ℕ → ℕ) → total f (turned loop renaming g).cells ≡ total (λ t. pulled_through loop f (origin renaming t)) g.cells
  turn_total g p f =
      total_through loop closed.set closed.linked (renamed_back renaming g) (back_valid loop renaming closed g p) f
      ∙ back_total renaming g p.0 (pulled_through loop f)

  next_by : (n t u : ℕ) → t < length closed.set.tiles → count u (turned_times loop renaming n (turned loop renaming (single t))) ≡ total (λ x. count u (power loop renaming n x)) (turned loop renaming (single t)).cells
      → count u (power loop renaming (suc n) t) ≡ pulled_through loop (λ x. count u (power loop renaming n x)) (origin renaming t)
  next_by n t u lt a =
      let b = turn_total (single t) (single_valid loop renaming closed t lt) (λ x. count u (power loop renaming n x)) in
      let z : total (λ t. pulled_through loop (λ x. count u (power loop renaming n x)) (origin renaming t)) (t ∷ []) ≡ pulled_through loop (λ x. count u (power loop renaming n x)) (origin renaming t) = omega arith in
      a ∙ (b ∙ z)

  -- what turns make of a rectangle holds what they make of its tiles
  pub power_total : (n : ℕ) (g : Grid) → IsPattern closed.set.tiles g → (u : ℕ) → count u (turned_times loop renaming n g) ≡ total (λ x. count u (power loop renaming n x)) g.cells
  power_total zero g p u = total_alike (length closed.set.tiles) (unit u) (λ x. units u (x ∷ [])) g.cells (cells_below (length closed.set.tiles) g p.0 p.1) (λ x lt. omega arith)
  power_total (suc n) g p u =
      power_total n (turned loop renaming g) (turn_valid loop renaming closed g p) u
      ∙ (turn_total g p (λ x. count u (power loop renaming n x))
      ∙ total_alike (length closed.set.tiles) (λ t. pulled_through loop (λ x. count u (power loop renaming n x)) (origin renaming t)) (λ x. count u (power loop renaming (suc n) x)) g.cells
      (cells_below (length closed.set.tiles) g p.0 p.1) (λ t lt. sym (next_by n t u lt (power_total n (turned loop renaming (single t)) (turn_valid loop renaming closed (single t) (single_valid loop renaming closed t lt)) u))))

  pub power_next : (n t u : ℕ) → t < length closed.set.tiles → count u (power loop renaming (suc n) t) ≡ pulled_through loop (λ x. count u (power loop renaming n x)) (origin renaming t)
  power_next n t u lt = next_by n t u lt (power_total n (turned loop renaming (single t)) (turn_valid loop renaming closed (single t) (single_valid loop renaming closed t lt)) u)

  pub count_few : first_count loop ≤ 256
  count_few = let c = closed.counted in let f = closed.few in omega (arith, c, f)

  pub start_masks : (rows : List (List ℕ)) → AreMasks 256 rows (λ u t. if nat_eq t u then 1 else 0) → ArePowers loop renaming 0 rows
  start_masks rows masks t u lt = let few = count_few in let m = masks t u (omega (arith, few)) in omega (arith, m)

  pub next_powers : (os : List ℕ) (rows up next : List (List ℕ)) → os ≡ entries_of (origin renaming)
      → ((set : TileList) (weights : ℕ → ℕ → ℕ) → AreLinked set loop → AreMasks (length set.tiles) rows weights → AreMasks (length (last_set set loop).tiles) up (λ u. pulled_through loop (weights u)))
      → ((t u : ℕ) → t < 256 → mask_bit (mask_at next t) u ≡ mask_bit (mask_at up (slice_index os t)) u)
      → (turns : ℕ) → ArePowers loop renaming turns rows → ArePowers loop renaming (turns + 1) next
  next_powers os rows up next same climbs moves turns masks t u lt =
      let c = closed.counted in
      let few = count_few in
      let below : t < length closed.set.tiles = omega (arith, c, lt) in
      let start : AreMasks (length closed.set.tiles) rows (λ u t. count u (power loop renaming turns t)) = λ a b l. masks a b (omega (arith, c, l)) in
      let m = climbs closed.set (λ u t. count u (power loop renaming turns t)) closed.linked start in
      let o = origins_at renaming os t same (omega (arith, few, lt)) in
      let w = closed.renames.whole in
      let a = closed.renames.alike in
      let inside : origin renaming t < length (last_set closed.set loop).tiles = origin_below 0 renaming t (length (last_set closed.set loop).tiles) (omega (arith, a, below)) (omega (arith, w)) in
      let e : turns + 1 ≡ suc turns = omega arith in
      let first : mask_bit (mask_at up (slice_index os t)) u ≡ mask_bit (mask_at up (origin renaming t)) u = ap (λ (k : ℕ). mask_bit (mask_at up k) u) o in
      let last : min 1 (pulled_through loop (λ x. count u (power loop renaming turns x)) (origin renaming t)) ≡ min 1 (count u (power loop renaming (turns + 1) t)) = rw e (ap (λ (k : ℕ). min 1 k) (sym (power_next turns t u below))) in
      moves t u (omega (arith, few, lt)) ∙ (first ∙ (m (origin renaming t) u inside ∙ last))

  pub full_mixes : (turns : ℕ) (rows : List (List ℕ)) → ArePowers loop renaming turns rows → ((t u : ℕ) → t < first_count loop → u < first_count loop → mask_bit (mask_at rows t) u ≡ 1) → IsMixing loop renaming turns
  full_mixes turns rows masks full a b la lb = let m = masks a b la in let f = full a b la lb in omega (arith, m, f)

  pub not_mixes : (turns : ℕ) (rows : List (List ℕ)) → ArePowers loop renaming turns rows → ((t : ℕ) × (u : ℕ) × (t < first_count loop) × (u < first_count loop) × (mask_bit (mask_at rows t) u ≡ 1 → ⊥)) → IsMixing loop renaming turns → ⊥
  not_mixes turns rows masks h mixes =
      let m = masks h.0 h.1 h.2 in
      let some = mixes h.0 h.1 h.2 h.3 in
      h.4 (omega (arith, m, some))

  pub none_more : (turns : ℕ) → HasNoMixing loop renaming turns → (IsMixing loop renaming (turns + 1) → ⊥) → HasNoMixing loop renaming (turns + 1)
  none_more turns none last j one' le mixes = by (nat_eq j (turns + 1)) refl
    where
      by : (b : Bool) → nat_eq j (turns + 1) ≡ b → ⊥
      by true e = let s : j ≡ turns + 1 = grind (arith, nat_tests, e) in last (subst (λ (k : ℕ). IsMixing loop renaming k) s mixes)
      by false e = let l : j ≤ turns = grind (arith, nat_tests, e, le) in none j one' l mixes
