-- The tiles at the corners of images.
use Rattle.std.proofs.Common.{arith, ◌≡◌, ◌<◌, ◌≤◌, ◌+◌, ◌-◌, ℕ, zero, suc, List, [], ◌∷◌, length, take, get_or, slice_index, map, Bool, true, false, ◌&&◌, ◌||◌, if◌then◌else◌, None, inl, inr, refl, sym, ◌∙◌, ap, subst}
use Rattle.wt_morphism.specs.Strands.{tile_of}
use Rattle.wt_chain.proofs.Turned.{piece_is}
use Rattle.wt_chain.specs.Tables.{entries_of}
use Rattle.wt_grid.specs.Axes.{same_axis}
use Rattle.wt_grid.specs.declared.image.Image.TheVariants.{One as Single, Two as Double}
use Rattle.wt_grid.specs.declared.image.Image.{Image}
use Rattle.wt_grid.specs.declared.axis.Axis.TheVariants.{One, Two}
use Rattle.wt_grid.specs.declared.axis.Axis.{Axis}
use Rattle.std.proofs.lemmas.Option.{get_or_from_slice_get}
use Rattle.wt_tile.specs.declared.tile.TileList.{TileList}
use Rattle.wt_tile.proofs.Sizes.{few_tiles}
use Rattle.wt_grid.specs.Grid.{Grid, IsGrid, cell, listed, lines, along, across, at}
use Rattle.wt_grid.specs.Lines.{Singles, Pairs, IsImage, AllLong}
use Rattle.wt_grid.specs.Images.{piece_at, first_tile, last_tile}
use Rattle.wt_grid.specs.Parts.{AllBelow}
use Rattle.wt_grid.proofs.Bridge.{get_or-listed, cell_of}
use Rattle.wt_grid.proofs.Grids.{long_lines}
use Rattle.wt_pattern.specs.Patterns.{IsPattern}
use Rattle.wt_morphism.specs.Images.{piece}
use Rattle.wt_step.specs.declared.raw.RawLink.{RawLink}
use Rattle.wt_step.specs.declared.raw.RawLink.TheVariants.{Marker, Restrict}
use Rattle.wt_step.specs.Links.{link_fault, fine_of, coarse_of}
use Rattle.wt_step.specs.Meaning.{pieces_of}
use Rattle.wt_chain.specs.Sets.{AreLinked, last_set, first_count}
use Rattle.wt_chain.specs.Growth.{image_of, is_along, origin}
use Rattle.wt_chain.specs.Turns.{axis_of, image_under, image_through, renamed_back, turned, turned_times, single}
use Rattle.wt_chain.proofs.Grown.{first_fits, coarse_good, origin_below}
use Rattle.wt_scale.proofs.LinkImages.{link_image}
use Rattle.wt_scale.proofs.Doubling.{through_valid}
use Rattle.wt_check.specs.Powers.{power, IsClosed}
use Rattle.wt_check.specs.declared.corners.Corner.{Corner}
use Rattle.wt_check.specs.Corners.{end_place, corner_of, is_far, corner_under, corner_through, AreTableOf, AreCorners}
use Rattle.wt_check.proofs.Powers.{back_valid, turn_valid, single_valid}
use Rattle.wt_check.proofs.Pushed.{origins_at}
use Rattle.wt_check.proofs.Pulled.{step_at, count_few}
use Rattle.wt_chain.proofs.Grown.{second_fits}

-- ---- the first and the last line

last_line : List (List ℕ) → List ℕ
last_line [] = []
last_line (x ∷ []) = x
last_line (x ∷ y ∷ xs) = last_line (y ∷ xs)

abbrev first_line : List (List ℕ) → List ℕ
first_line [] = []
first_line (x ∷ xs) = x

last_listed : (n : ℕ) (f : ℕ → List ℕ) → last_line (listed (suc n) f) ≡ f n
unfolding last_line
last_listed zero f = refl
last_listed (suc n) f = last_listed n (λ k. f (suc k))

abbrev end_line : Bool → List (List ℕ) → List ℕ
end_line far ls = if far then last_line ls else first_line ls

abbrev end_tile : Bool → Image → ℕ
end_tile far p = if far then last_tile p else first_tile p

listed_from : (n : ℕ) (f : ℕ → List ℕ) → 1 ≤ n → (last_line (listed n f) ≡ f (n - 1)) × (first_line (listed n f) ≡ f 0)
listed_from zero f le = absurd (omega arith)
listed_from (suc n) f le = let e : suc n - 1 ≡ n = omega arith in (last_listed n f ∙ ap f (sym e), refl)

-- the cells at one end
end_at : (far : Bool) (axis : Axis) (g : Grid) (j : ℕ) → 1 ≤ along axis g → j < across axis g → at axis g (end_place far (along axis g)) j ≡ get_or (end_line far (lines axis g)) j 0
end_at true axis g j le lt =
    let l = listed_from (along axis g) (λ i. listed (across axis g) (λ j. at axis g i j)) le in
    sym (ap (λ (u : List ℕ). get_or u j 0) l.0 ∙ get_or-listed (across axis g) j (λ j. at axis g (along axis g - 1) j) 0 lt)
end_at false axis g j le lt =
    let l = listed_from (along axis g) (λ i. listed (across axis g) (λ j. at axis g i j)) le in
    sym (ap (λ (u : List ℕ). get_or u j 0) l.1 ∙ get_or-listed (across axis g) j (λ j. at axis g 0 j) 0 lt)

module _ (im : List Image) where
  single_at : (q u : List ℕ) (j : ℕ) → Singles im q u → j < length q → piece_at im (get_or q j 0) ≡ Single (get_or u j 0)
  single_at [] u j s lt = absurd (omega arith)
  single_at (i ∷ is) [] j s lt = absurd s
  single_at (i ∷ is) (a ∷ as') zero s lt = get_or_from_slice_get im i (Single a) (Single 0) s.0
  single_at (i ∷ is) (a ∷ as') (suc j) s lt = single_at is as' j s.1 (omega arith)

  pair_at : (q u v : List ℕ) (j : ℕ) → Pairs im q u v → j < length q → piece_at im (get_or q j 0) ≡ Double (get_or u j 0) (get_or v j 0)
  pair_at [] u v j s lt = absurd (omega arith)
  pair_at (i ∷ is) [] v j s lt = absurd s
  pair_at (i ∷ is) (a ∷ as') [] j s lt = absurd s
  pair_at (i ∷ is) (a ∷ as') (b ∷ bs) zero s lt = get_or_from_slice_get im i (Double a b) (Single 0) s.0
  pair_at (i ∷ is) (a ∷ as') (b ∷ bs) (suc j) s lt = pair_at is as' bs j s.1 (omega arith)

  first_image : (q : List ℕ) (qs ls : List (List ℕ)) (j : ℕ) → IsImage im (q ∷ qs) ls → j < length q → get_or (first_line ls) j 0 ≡ first_tile (piece_at im (get_or q j 0))
  first_image q qs [] j h lt = absurd h
  first_image q qs (u ∷ []) j h lt = sym (ap first_tile (single_at q u j h.0 lt))
  first_image q qs (u ∷ v ∷ ls) j h lt = elim h [
    | inl s ↦ sym (ap first_tile (single_at q u j s.0 lt))
    | inr s ↦ sym (ap first_tile (pair_at q u v j s.0 lt))
  ]

  last_image : (m j : ℕ) (q : List ℕ) (qs ls : List (List ℕ)) → j < m → AllLong m (q ∷ qs) → IsImage im (q ∷ qs) ls → get_or (last_line ls) j 0 ≡ last_tile (piece_at im (get_or (last_line (q ∷ qs)) j 0))
  unfolding last_line
  last_image m j q qs [] lt long h = absurd h
  last_image m j q [] (u ∷ []) lt long h = sym (ap last_tile (single_at q u j h.0 (let l = long.0 in omega (arith, l, lt))))
  last_image m j q (r ∷ qs) (u ∷ []) lt long h = absurd h.1
  last_image m j q [] (u ∷ v ∷ []) lt long h = elim h [
    | inl s ↦ absurd s.1
    | inr s ↦ sym (ap last_tile (pair_at q u v j s.0 (let l = long.0 in omega (arith, l, lt))))
  ]
  last_image m j q [] (u ∷ v ∷ x ∷ ls) lt long h = elim h [ inl s ↦ absurd s.1 | inr s ↦ absurd s.1 ]
  last_image m j q (r ∷ qs) (u ∷ v ∷ []) lt long h = elim h [
    | inl s ↦ last_image m j r qs (v ∷ []) lt long.1 s.1
    | inr s ↦ absurd s.1
  ]
  last_image m j q (r ∷ qs) (u ∷ v ∷ x ∷ ls) lt long h = elim h [
    | inl s ↦ last_image m j r qs (v ∷ x ∷ ls) lt long.1 s.1
    | inr s ↦ last_image m j r qs (x ∷ ls) lt long.1 s.1
  ]

  end_image : (far : Bool) (m j : ℕ) (qs ls : List (List ℕ)) → 1 ≤ length qs → j < m → AllLong m qs → IsImage im qs ls → get_or (end_line far ls) j 0 ≡ end_tile far (piece_at im (get_or (end_line far qs) j 0))
  end_image far m j [] ls some lt long h = absurd (omega arith)
  end_image true m j (q ∷ qs) ls some lt long h = last_image m j q qs ls lt long h
  end_image false m j (q ∷ qs) ls some lt long h = first_image q qs ls j h (let l = long.0 in omega (arith, l, lt))

-- ---- corners by lines

abbrev far_along : Axis → Corner → Bool
far_along One c = c.right
far_along Two c = c.upper

abbrev far_across : Axis → Corner → Bool
far_across One c = c.upper
far_across Two c = c.right

corner_lines : (axis : Axis) (c : Corner) (g : Grid) → corner_of c g ≡ at axis g (end_place (far_along axis c) (along axis g)) (end_place (far_across axis c) (across axis g))
corner_lines One c g = refl
corner_lines Two c g = refl

end_inside : (far : Bool) (n : ℕ) → 1 ≤ n → end_place far n < n
end_inside true n le = omega arith
end_inside false n le = omega arith

some_along : (axis : Axis) (g : Grid) → IsGrid g → (1 ≤ along axis g) × (1 ≤ across axis g)
some_along One g w = (w.wide, w.high)
some_along Two g w = (w.high, w.wide)

some_lines : (n : ℕ) (f : ℕ → List ℕ) → 1 ≤ n → 1 ≤ length (listed n f)
some_lines zero f le = absurd (omega arith)
some_lines (suc n) f le = omega arith

tile_picked : (far : Bool) (image : Image) → end_tile far (piece image) ≡ tile_of far image
tile_picked true (Single a) = refl
tile_picked true (Double a b) = refl
tile_picked false (Single a) = refl
tile_picked false (Double a b) = refl

only_right : (r u : Bool) → ((r && true) || (u && false)) ≡ r
only_right true true = refl
only_right true false = refl
only_right false true = refl
only_right false false = refl

only_upper : (r u : Bool) → ((r && false) || (u && true)) ≡ u
only_upper true true = refl
only_upper true false = refl
only_upper false true = refl
only_upper false false = refl

far_by : (axis : Axis) (c : Corner) → ((c.right && same_axis One axis) || (c.upper && same_axis Two axis)) ≡ far_along axis c
far_by One c = only_right c.right c.upper
far_by Two c = only_upper c.right c.upper

far_picked : (c : Corner) (link : RawLink) (t : ℕ) → tile_of (far_along (axis_of link) c) (image_of link t) ≡ corner_under c link t
far_picked c (Marker s) t = ap (λ (b : Bool). tile_of b (image_of (Marker s) t)) (sym (far_by s.axis c))
far_picked c (Restrict s) t = refl

-- The tile at a corner of an image is that which the tile at the corner stands for there.
corner_image : (c : Corner) (link : RawLink) → link_fault link ≡ None → (q : Grid) → IsPattern (coarse_of link).tiles q → corner_of c (image_under link q) ≡ corner_under c link (corner_of c q)
corner_image c link good q p =
    let v = link_image link good q p in
    let axis = axis_of link in
    let far = far_along (axis_of link) c in
    let wide = v.as_wide in
    let s = some_along (axis_of link) q p.0 in
    let si = some_along (axis_of link) (image_under link q) v.pattern.0 in
    let inside = end_inside (far_across (axis_of link) c) (across (axis_of link) q) s.1 in
    let inside' : end_place (far_across (axis_of link) c) (across (axis_of link) q) < across (axis_of link) (image_under link q) = omega (arith, inside, wide) in
    let a = corner_lines (axis_of link) c (image_under link q) in
    let b = ap (λ (n : ℕ). at (axis_of link) (image_under link q) (end_place (far_along (axis_of link) c) (along (axis_of link) (image_under link q))) (end_place (far_across (axis_of link) c) n)) wide in
    let d = end_at (far_along (axis_of link) c) (axis_of link) (image_under link q) (end_place (far_across (axis_of link) c) (across (axis_of link) q)) si.0 inside' in
    let e = end_image (pieces_of link) (far_along (axis_of link) c) (across (axis_of link) q) (end_place (far_across (axis_of link) c) (across (axis_of link) q)) (lines (axis_of link) q) (lines (axis_of link) (image_under link q))
    (some_lines (along (axis_of link) q) _ s.0) inside (long_lines (axis_of link) q) v.image in
    let f = end_at (far_along (axis_of link) c) (axis_of link) q (end_place (far_across (axis_of link) c) (across (axis_of link) q)) s.0 inside in
    let g : get_or (end_line (far_along (axis_of link) c) (lines (axis_of link) q)) (end_place (far_across (axis_of link) c) (across (axis_of link) q)) 0 ≡ corner_of c q = sym f ∙ sym (corner_lines (axis_of link) c q) in
    let h = ap (λ (t : ℕ). end_tile (far_along (axis_of link) c) (piece_at (pieces_of link) t)) g in
    let i = ap (end_tile (far_along (axis_of link) c)) (piece_is link (corner_of c q)) ∙ (tile_picked (far_along (axis_of link) c) (image_of link (corner_of c q)) ∙ far_picked c link (corner_of c q)) in
    a ∙ (b ∙ (d ∙ (e ∙ (h ∙ i))))

corner_below : (n : ℕ) (c : Corner) (g : Grid) → IsGrid g → AllBelow n g → corner_of c g < n
corner_below n c g w b = b (end_place c.right g.width) (end_place c.upper g.height) (end_inside c.right g.width w.wide) (end_inside c.upper g.height w.high)

corners_through : (c : Corner) (links : List RawLink) (set : TileList) → AreLinked set links → (q : Grid) → IsPattern (last_set set links).tiles q → corner_of c (image_through links q) ≡ corner_through c links (corner_of c q)
corners_through c [] set linked q p = refl
corners_through c (link ∷ links) set linked q p =
    corner_image c link linked.0 (image_through links q) (through_valid links (coarse_of link) linked.2 q p).pattern
    ∙ ap (corner_under c link) (corners_through c links (coarse_of link) linked.2 q p)

corner_back : (c : Corner) (renaming : List ℕ) (g : Grid) → IsGrid g → corner_of c (renamed_back renaming g) ≡ origin renaming (corner_of c g)
corner_back c renaming g w = cell_of g.width g.height (end_place c.right g.width) (end_place c.upper g.height) (λ x y. origin renaming (cell g x y)) (end_inside c.right g.width w.wide) (end_inside c.upper g.height w.high)

single_end : (far : Bool) → end_place far 1 ≡ 0
single_end true = refl
single_end false = refl

corner_single : (c : Corner) (t : ℕ) → corner_of c (single t) ≡ t
corner_single c t = rw (single_end c.right, single_end c.upper) refl

module _ (c : Corner) (loop : List RawLink) (renaming : List ℕ) (closed : IsClosed loop renaming) where
  corner_turn : (g : Grid) → IsPattern closed.set.tiles g → corner_of c (turned loop renaming g) ≡ corner_through c loop (origin renaming (corner_of c g))
  corner_turn g p =
      corners_through c loop closed.set closed.linked (renamed_back renaming g) (back_valid loop renaming closed g p)
      ∙ ap (corner_through c loop) (corner_back c renaming g p.0)

  -- the corner of what turns make of a rectangle is that of what they make of its corner
  corner_times : (n : ℕ) (g : Grid) → IsPattern closed.set.tiles g → corner_of c (turned_times loop renaming n g) ≡ corner_of c (power loop renaming n (corner_of c g))
  corner_times zero g p = sym (corner_single c (corner_of c g))
  corner_times (suc n) g p =
      let below = corner_below (length closed.set.tiles) c g p.0 p.1 in
      let s = single_valid loop renaming closed (corner_of c g) below in
      let a = corner_times n (turned loop renaming g) (turn_valid loop renaming closed g p) in
      let b = corner_times n (turned loop renaming (single (corner_of c g))) (turn_valid loop renaming closed (single (corner_of c g)) s) in
      let e : corner_of c (turned loop renaming g) ≡ corner_of c (turned loop renaming (single (corner_of c g))) =
      corner_turn g p ∙ (ap (λ (t : ℕ). corner_through c loop (origin renaming t)) (sym (corner_single c (corner_of c g))) ∙ sym (corner_turn (single (corner_of c g)) s)) in
      a ∙ (ap (λ (t : ℕ). corner_of c (power loop renaming n t)) e ∙ sym b)

  corner_next : (n t : ℕ) → t < length closed.set.tiles → corner_of c (power loop renaming (suc n) t) ≡ corner_of c (power loop renaming n (corner_through c loop (origin renaming t)))
  corner_next n t lt =
      let s = single_valid loop renaming closed t lt in
      corner_times n (turned loop renaming (single t)) (turn_valid loop renaming closed (single t) s)
      ∙ ap (λ (k : ℕ). corner_of c (power loop renaming n k)) (corner_turn (single t) s ∙ ap (λ (k : ℕ). corner_through c loop (origin renaming k)) (corner_single c t))

  pub next_corners : (os rows up next : List ℕ) → os ≡ entries_of (origin renaming)
      → ((set : TileList) (f : ℕ → ℕ) → AreLinked set loop → AreTableOf (length set.tiles) rows f → AreTableOf (length (last_set set loop).tiles) up (λ t. f (corner_through c loop t)))
      → ((t : ℕ) → t < 256 → slice_index next t ≡ slice_index up (slice_index os t))
      → (turns : ℕ) → AreCorners c loop renaming turns rows → AreCorners c loop renaming (turns + 1) next
  next_corners os rows up next same climbs moves turns entries_of t lt =
      let n = closed.counted in
      let few = count_few loop renaming closed in
      let below : t < length closed.set.tiles = omega (arith, n, lt) in
      let start : AreTableOf (length closed.set.tiles) rows (λ t. corner_of c (power loop renaming turns t)) = λ a l. entries_of a (omega (arith, n, l)) in
      let m = climbs closed.set (λ t. corner_of c (power loop renaming turns t)) closed.linked start in
      let o = origins_at renaming os t same (omega (arith, few, lt)) in
      let w = closed.renames.whole in
      let a = closed.renames.alike in
      let inside : origin renaming t < length (last_set closed.set loop).tiles = origin_below 0 renaming t (length (last_set closed.set loop).tiles) (omega (arith, a, below)) (omega (arith, w)) in
      let e : turns + 1 ≡ suc turns = omega arith in
      let first : slice_index up (slice_index os t) ≡ slice_index up (origin renaming t) = ap (λ (k : ℕ). slice_index up k) o in
      moves t (omega (arith, few, lt)) ∙ (first ∙ (m (origin renaming t) inside ∙ rw e (sym (corner_next turns t below))))

-- ---- tables of corners, step by step

picked_fits : (far : Bool) (image : Image) (n : ℕ) → first_tile image < n → ((a b : ℕ) → image ≡ Double a b → b < n) → tile_of far image < n
picked_fits far (Single a) n f s = f
picked_fits true (Double a b) n f s = s a b refl
picked_fits false (Double a b) n f s = f

corner_last : (k : ℕ) (c : Corner) (links : List RawLink) (link : RawLink) (t : ℕ) → k < length links → link ≡ get_or links k link → corner_through c (take (suc k) links) t ≡ corner_through c (take k links) (corner_under c link t)
corner_last k c [] link t lt e = absurd (omega arith)
corner_last zero c (l ∷ ls) link t lt e = rw e refl
corner_last (suc k) c (l ∷ ls) link t lt e = ap (corner_under c l) (corner_last k c ls link t (omega arith) e)

pub climbed_corners : (k : ℕ) (c : Corner) (set : TileList) (links : List RawLink) (link : RawLink) (rows next : List ℕ) (f : ℕ → ℕ) → AreLinked set links → k < length links → link ≡ get_or links k link
    → ((t : ℕ) → t < 256 → slice_index next t ≡ slice_index rows (corner_under c link t))
    → AreTableOf (length (last_set set (take k links)).tiles) rows (λ t. f (corner_through c (take k links) t))
    → AreTableOf (length (last_set set (take (suc k) links)).tiles) next (λ t. f (corner_through c (take (suc k) links) t))
climbed_corners k c set links link rows next f linked lt e made rows_are t below =
    let s = step_at k set links link linked lt e in
    let coarse : t < length (coarse_of link).tiles = subst (λ (x : TileList). t < length x.tiles) s.coarse below in
    let few = (few_tiles (coarse_of link) (coarse_good link s.good)).1 in
    let fine : corner_under c link t < length (fine_of link).tiles = picked_fits (is_far c link) (image_of link t) (length (fine_of link).tiles) (first_fits link s.good t coarse) (λ a b i. second_fits link s.good t a b coarse i) in
    let inside = subst (λ (x : TileList). corner_under c link t < length x.tiles) s.fine fine in
    made t (omega (arith, few, coarse)) ∙ (rows_are (corner_under c link t) inside ∙ ap f (sym (corner_last k c links link t lt e)))
