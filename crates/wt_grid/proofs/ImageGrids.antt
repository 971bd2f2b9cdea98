-- The image of a valid coarse rectangle is a valid rectangle.
use Rattle.std.proofs.Common.{arith, ◌≡◌, ◌<◌, ◌≤◌, ◌+◌, ◌++◌, ℕ, zero, suc, List, [], ◌∷◌, length, length-append, Bool, true, false, refl, sym, ◌∙◌, subst}
use Rattle.wt_grid.specs.Axes.{other}
use Rattle.wt_grid.specs.declared.image.Image.TheVariants.{One as Single, Two as Double}
use Rattle.wt_grid.specs.declared.image.Image.{Image}
use Rattle.wt_grid.specs.declared.axis.Axis.TheVariants.{One, Two}
use Rattle.wt_grid.specs.declared.axis.Axis.{Axis}
use Rattle.std.proofs.lemmas.List.{length-map}
use Rattle.wt_grid.specs.Lines.{IsField, IsImage, AllLong}
use Rattle.wt_grid.specs.Grid.{Grid, IsGrid, across, at, listed, lines, of_lines}
use Rattle.wt_grid.specs.Parts.{AllBelow, IsValid}
use Rattle.wt_grid.specs.Images.{piece_at, first_tile, last_tile, is_pair, firsts, lasts, is_double, line_image, image_lines, image_grid, LineBelow, LinesBelow, PieceBelow}
use Rattle.wt_grid.proofs.Coarse.{MatchAcross}
use Rattle.wt_grid.proofs.Grids.{field_lines, lines_field, long_lines, length_lines, lines_of, grid_of_lines}
use Rattle.wt_grid.proofs.Rectangles.{below_lines, wide_along}
use Rattle.wt_grid.proofs.Images.{even_image, image_even, image_field}

-- The lines of a rectangle of numbers below n.

line_below : (n m : ℕ) (a : ℕ → ℕ) → ((j : ℕ) → j < m → a j < n) → LineBelow n (listed m a)
line_below n zero a h = tt
line_below n (suc m) a h = (h 0 (omega arith), line_below n m (λ k. a (suc k)) (λ j lt. h (suc j) (omega arith)))

lines_listed : (n k m : ℕ) (a : ℕ → ℕ → ℕ) → ((i j : ℕ) → i < k → j < m → a i j < n) → LinesBelow n (listed k (λ i. listed m (a i)))
lines_listed n zero m a h = tt
lines_listed n (suc k) m a h = (line_below n m (a 0) (λ j lt. h 0 j (omega arith) lt), lines_listed n k m (λ i. a (suc i)) (λ i j li lj. h (suc i) j (omega arith) lj))

pub lines_below : (axis : Axis) (n : ℕ) (g : Grid) → AllBelow n g → LinesBelow n (lines axis g)
lines_below One n g b = lines_listed n g.width g.height (λ i j. at One g i j) (λ i j li lj. b i j li lj)
lines_below Two n g b = lines_listed n g.height g.width (λ i j. at Two g i j) (λ i j li lj. b j i lj li)

-- Each line of an image is as long as the coarse lines.

long_append : (m : ℕ) (xs ys : List (List ℕ)) → AllLong m xs → AllLong m ys → AllLong m (xs ++ ys)
long_append m [] ys h k = k
long_append m (x ∷ xs) ys h k = (h.0, long_append m xs ys h.1 k)

long_image : (im : List Image) (m : ℕ) (q : List ℕ) (b : Bool) → is_double im q ≡ b → length q ≡ m → AllLong m (line_image im q)
long_image im m q true e h = rw e (length-map q (λ i. first_tile (piece_at im i)) ∙ h, (length-map q (λ i. last_tile (piece_at im i)) ∙ h, tt))
long_image im m q false e h = rw e (length-map q (λ i. first_tile (piece_at im i)) ∙ h, tt)

pub long_images : (im : List Image) (m : ℕ) (qs : List (List ℕ)) → AllLong m qs → AllLong m (image_lines im qs)
long_images im m [] h = tt
long_images im m (q ∷ qs) h = long_append m (line_image im q) (image_lines im qs) (long_image im m q (is_double im q) refl h.0) (long_images im m qs h.1)

-- A coarse line stands for one or two lines.

line_count : (im : List Image) (q : List ℕ) (b : Bool) → is_double im q ≡ b → (1 ≤ length (line_image im q)) × (length (line_image im q) ≤ 2)
line_count im q true e = rw e (omega arith, omega arith)
line_count im q false e = rw e (omega arith, omega arith)

pub image_count : (im : List Image) (qs : List (List ℕ)) → (length qs ≤ length (image_lines im qs)) × (length (image_lines im qs) ≤ length qs + length qs)
image_count im [] = (omega arith, omega arith)
image_count im (q ∷ qs) =
    let c = line_count im q (is_double im q) refl in
    let r = image_count im qs in
    let e = length-append (line_image im q) (image_lines im qs) in
    (omega arith, omega arith)

-- The tiles of an image.

append_below : (n : ℕ) (xs ys : List (List ℕ)) → LinesBelow n xs → LinesBelow n ys → LinesBelow n (xs ++ ys)
append_below n [] ys h k = k
append_below n (x ∷ xs) ys h k = (h.0, append_below n xs ys h.1 k)

first_below : (n : ℕ) (p : Image) → PieceBelow n p → first_tile p < n
first_below n (Single a) h = h
first_below n (Double a b) h = h.0

last_below : (n : ℕ) (p : Image) → PieceBelow n p → last_tile p < n
last_below n (Single a) h = h
last_below n (Double a b) h = h.1

module _ (im : List Image) (n : ℕ) (tiles : (i : ℕ) → i < length im → PieceBelow n (piece_at im i)) where
  firsts_below : (q : List ℕ) → LineBelow (length im) q → LineBelow n (firsts im q)
  firsts_below [] h = tt
  firsts_below (i ∷ is) h = (first_below n (piece_at im i) (tiles i h.0), firsts_below is h.1)

  lasts_below : (q : List ℕ) → LineBelow (length im) q → LineBelow n (lasts im q)
  lasts_below [] h = tt
  lasts_below (i ∷ is) h = (last_below n (piece_at im i) (tiles i h.0), lasts_below is h.1)

  line_image_below : (q : List ℕ) (b : Bool) → is_double im q ≡ b → LineBelow (length im) q → LinesBelow n (line_image im q)
  line_image_below q true e h = rw e (firsts_below q h, (lasts_below q h, tt))
  line_image_below q false e h = rw e (firsts_below q h, tt)

  pub image_below : (qs : List (List ℕ)) → LinesBelow (length im) qs → LinesBelow n (image_lines im qs)
  image_below [] h = tt
  image_below (q ∷ qs) h = append_below n (line_image im q) (image_lines im qs) (line_image_below q (is_double im q) refl h.0) (image_below qs h.1)

module _ (axis : Axis) (fine coarse : Axis → ℕ → ℕ → Bool) (im : List Image) (n : ℕ)
    (joined : (i j : ℕ) → i < length im → j < length im → coarse axis i j ≡ true → fine axis (last_tile (piece_at im i)) (first_tile (piece_at im j)) ≡ true)
    (stacked : (i j : ℕ) → i < length im → j < length im → coarse (other axis) i j ≡ true → MatchAcross (fine (other axis)) (piece_at im i) (piece_at im j))
    (blocks : (i : ℕ) → i < length im → is_pair (piece_at im i) ≡ true → fine axis (first_tile (piece_at im i)) (last_tile (piece_at im i)) ≡ true)
    (tiles : (i : ℕ) → i < length im → PieceBelow n (piece_at im i)) where
  wide_across : (axis : Axis) (g : Grid) → IsGrid g → 1 ≤ across axis g
  wide_across One g i = i.high
  wide_across Two g i = i.wide

  -- Each valid coarse rectangle has an image, which is a valid rectangle.
  pub valid_image : (q : Grid) → IsGrid q → AllBelow (length im) q → IsValid coarse q
      → IsGrid (image_grid axis im q) × AllBelow n (image_grid axis im q) × IsValid fine (image_grid axis im q) × IsImage im (lines axis q) (lines axis (image_grid axis im q))
  valid_image q g b v =
      let qs = lines axis q in
      let m = across axis q in
      let lb = lines_below axis (length im) q b in
      let f = field_lines coarse axis q v in
      let ls = image_lines im qs in
      let long = long_images im m qs (long_lines axis q) in
      let same = lines_of axis m ls long in
      let e = image_even im (fine axis) (fine (other axis)) (coarse axis) (coarse (other axis)) joined stacked blocks qs lb f in
      let field = image_field im (fine axis) (fine (other axis)) (coarse axis) (coarse (other axis)) joined stacked blocks qs lb f in
      let count = image_count im qs in
      let wide = length_lines axis q in
      let some = wide_along axis q g in (
        grid_of_lines axis m ls (wide_across axis q g) (omega arith),
        below_lines axis n (of_lines axis m ls) (subst (λ (ks : List (List ℕ)). LinesBelow n ks) (sym same) (image_below im n tiles qs lb)),
        lines_field fine axis (of_lines axis m ls) (subst (λ (ks : List (List ℕ)). IsField (fine axis) (fine (other axis)) ks) (sym same) field),
        subst (λ (ks : List (List ℕ)). IsImage im qs ks) (sym same) (even_image im qs lb e),
      )
