-- Even lines, and the images of rectangles whose lines are even.
use Rattle.std.proofs.Common.{arith, ◌≡◌, ◌↔◌, ℕ, zero, suc, ◌+◌, ◌<◌, ◌≤◌, Bool, true, false, cond, not, List, [], ◌∷◌, length, map, Option, None, Some, refl, ap, sym, ◌∙◌, subst}
use Rattle.wt_grid.proofs.Order.{agreed, agrees}
use Rattle.wt_grid.specs.declared.image.Image.{Image}
use Rattle.wt_grid.specs.declared.axis.Axis.TheVariants.{One, Two}
use Rattle.wt_grid.specs.declared.axis.Axis.{Axis}
use Rattle.std.proofs.lemmas.List.{length-map}
use Rattle.wt_grid.specs.First.{or_else, first_from}
use Rattle.wt_grid.specs.Order.{agree}
use Rattle.wt_grid.specs.Lines.{IsImage, AllLong}
use Rattle.wt_grid.specs.Grid.{Grid, IsGrid, cell, along, across, at, listed, lines, of_lines}
use Rattle.wt_grid.specs.Parts.{AllBelow}
use Rattle.wt_grid.specs.Images.{piece_at, is_pair, is_double, image_lines, image_grid, IsEvenLine, IsEven}
use Rattle.wt_grid.proofs.First.{none_from, all_none}
use Rattle.wt_grid.proofs.Bridge.{length-listed}
use Rattle.wt_grid.proofs.Grids.{long_lines, lines_of, grid_of_lines, length_lines}
use Rattle.wt_grid.proofs.Images.{even_image}
use Rattle.wt_grid.proofs.ImageGrids.{lines_below, long_images, image_count}
use Rattle.wt_grid.proofs.CarriedSides.{image_found}
use Rattle.wt_grid.proofs.Rectangles.{same_lines, wide_across, wide_along}
use Rattle.wt_morphism.specs.declared.image.Morphism.{Morphism}
use Rattle.wt_morphism.specs.Images.{piece, pieces, image, is_two, line_start, uneven_at, uneven_in, uneven}
use Rattle.wt_morphism.proofs.Cells.{piece_of}

none_agree : (b : Bool) (x : ℕ × ℕ) → cond b None (Some x) ≡ None → b ≡ true
none_agree true x e = refl
none_agree false x e = absurd cc

-- Lines of numbers, by a function.

module _ (im : List Image) where
  even_line : (b : Bool) (n : ℕ) (f : ℕ → ℕ) → ((j : ℕ) → j < n → is_pair (piece_at im (f j)) ≡ b) → IsEvenLine im b (listed n f)
  even_line b zero f h = tt
  even_line b (suc n) f h = (h 0 (omega arith), even_line b n (λ k. f (suc k)) (λ j lt. h (suc j) (omega arith)))

  line_even : (b : Bool) (n : ℕ) (f : ℕ → ℕ) → IsEvenLine im b (listed n f) → (j : ℕ) → j < n → is_pair (piece_at im (f j)) ≡ b
  line_even b zero f h j lt = absurd (omega arith)
  line_even b (suc n) f h zero lt = h.0
  line_even b (suc n) f h (suc j) lt = line_even b n (λ k. f (suc k)) h.1 j (omega arith)

  double_first : (n : ℕ) (f : ℕ → ℕ) → 0 < n → is_double im (listed n f) ≡ is_pair (piece_at im (f 0))
  double_first zero f lt = absurd (omega arith)
  double_first (suc n) f lt = refl

  module _ (m : ℕ) (some : 0 < m) where
    lines_even : (n : ℕ) (a : ℕ → ℕ → ℕ) → ((i j : ℕ) → i < n → j < m → is_pair (piece_at im (a i j)) ≡ is_pair (piece_at im (a i 0))) → IsEven im (listed n (λ i. listed m (a i)))
    lines_even zero a h = tt
    lines_even (suc n) a h = (
      even_line (is_double im (listed m (a 0))) m (a 0) (λ j lt. h 0 j (omega arith) lt ∙ sym (double_first m (a 0) some)),
      lines_even n (λ i. a (suc i)) (λ i j li lj. h (suc i) j (omega arith) lj),
    )

    even_lines : (n : ℕ) (a : ℕ → ℕ → ℕ) → IsEven im (listed n (λ i. listed m (a i))) → (i j : ℕ) → i < n → j < m → is_pair (piece_at im (a i j)) ≡ is_pair (piece_at im (a i 0))
    even_lines zero a h i j li lj = absurd (omega arith)
    even_lines (suc n) a h zero j li lj = line_even (is_double im (listed m (a 0))) m (a 0) h.0 j lj ∙ double_first m (a 0) some
    even_lines (suc n) a h (suc i) j li lj = even_lines n (λ i. a (suc i)) h.1 i j (omega arith) lj

-- No cell is uneven exactly where the lines are even.

abbrev morphism : Axis → List Image → Morphism
morphism axis table = record { axis = axis; table = table }

two_of : (table : List Image) (t : ℕ) → is_pair (piece_at (map piece table) t) ≡ is_pair (piece (piece_at table t))
two_of table t = ap is_pair (piece_of table t)

cells_none : (m : Morphism) (p : Grid) → uneven m p ≡ None → (x y : ℕ) → x < p.width → y < p.height → is_two m (cell p x y) ≡ is_two m (line_start m.axis p x y)
unfolding uneven
cells_none m p e x y lx ly =
    let row = none_from (uneven_in m p) 0 p.height y e (omega arith) (omega arith) in
    let here = none_from (uneven_at m p y) 0 p.width x row (omega arith) (omega arith) in
    agreed (is_two m (cell p x y)) (is_two m (line_start m.axis p x y)) (none_agree (agree (is_two m (cell p x y)) (is_two m (line_start m.axis p x y))) (x, y) here)

none_cells : (m : Morphism) (p : Grid) → ((x y : ℕ) → x < p.width → y < p.height → is_two m (cell p x y) ≡ is_two m (line_start m.axis p x y)) → uneven m p ≡ None
unfolding uneven
none_cells m p h = all_none (uneven_in m p) 0 p.height (λ y low high. all_none (uneven_at m p y) 0 p.width (λ x l r.
    let e = agrees (is_two m (cell p x y)) (is_two m (line_start m.axis p x y)) (h x y (omega arith) (omega arith)) in rw e refl))

even_of : (axis : Axis) (table : List Image) (p : Grid) → IsGrid p → uneven (morphism axis table) p ≡ None → IsEven (map piece table) (lines axis p)
even_of One table p g e = lines_even (map piece table) p.height g.high p.width (λ i j. cell p i j) (λ i j li lj.
    two_of table (cell p i j) ∙ (cells_none (morphism One table) p e i j li lj ∙ sym (two_of table (cell p i 0))))
even_of Two table p g e = lines_even (map piece table) p.width g.wide p.height (λ i j. cell p j i) (λ i j li lj.
    two_of table (cell p j i) ∙ (cells_none (morphism Two table) p e j i lj li ∙ sym (two_of table (cell p 0 i))))

of_even : (axis : Axis) (table : List Image) (p : Grid) → IsGrid p → IsEven (map piece table) (lines axis p) → uneven (morphism axis table) p ≡ None
of_even One table p g h = none_cells (morphism One table) p (λ x y lx ly.
    sym (two_of table (cell p x y)) ∙ (even_lines (map piece table) p.height g.high p.width (λ i j. cell p i j) h x y lx ly ∙ two_of table (cell p x 0)))
of_even Two table p g h = none_cells (morphism Two table) p (λ x y lx ly.
    sym (two_of table (cell p x y)) ∙ (even_lines (map piece table) p.width g.wide p.height (λ i j. cell p j i) h y x ly lx ∙ two_of table (cell p 0 y)))

pub uneven_even : (m : Morphism) (p : Grid) → IsGrid p → (uneven m p ≡ None) ↔ IsEven (pieces m) (lines m.axis p)
uneven_even m p g = (λ e. even_of m.axis m.table p g e, λ h. of_even m.axis m.table p g h)

-- The image has the lines that the lines stand for.

pub image_lines_of : (axis : Axis) (im : List Image) (q : Grid) → lines axis (image_grid axis im q) ≡ image_lines im (lines axis q)
image_lines_of axis im q = lines_of axis (across axis q) (image_lines im (lines axis q)) (long_images im (across axis q) (lines axis q) (long_lines axis q))

pub image_is_grid : (axis : Axis) (im : List Image) (q : Grid) → IsGrid q → IsGrid (image_grid axis im q)
image_is_grid axis im q g =
    let n = (image_count im (lines axis q)).0 in
    let l = length_lines axis q in
    let s = wide_along axis q g in
    grid_of_lines axis (across axis q) (image_lines im (lines axis q)) (wide_across axis q g) (omega arith)

pub only_image : (m : Morphism) (q g : Grid) → IsGrid q → IsGrid g → AllBelow (length m.table) q
    → IsImage (pieces m) (lines m.axis q) (lines m.axis g) ↔ (uneven m q ≡ None) × (g ≡ image m q)
only_image m q g iq ig b =
    let axis = m.axis in
    let im = pieces m in
    let both = uneven_even m q iq in (
      λ i.
          let f = image_found im (across axis q) (lines axis q) (lines axis g) (wide_across axis q iq) (long_lines axis q) i in
          (both.1 f.1, same_lines axis g (image m q) ig (image_is_grid axis im q iq) (f.0 ∙ sym (image_lines_of axis im q))),
      λ h.
          let n : length (pieces m) ≡ length m.table = length-map m.table piece in
          let low = lines_below axis (length (pieces m)) q (λ x y lx ly. rw n (b x y lx ly)) in
          let i = even_image im (lines axis q) low (both.0 h.0) in
          subst (λ (ls : List (List ℕ)). IsImage im (lines axis q) ls) (sym (image_lines_of axis im q) ∙ ap (λ (r : Grid). lines axis r) (sym h.1)) i,
    )
