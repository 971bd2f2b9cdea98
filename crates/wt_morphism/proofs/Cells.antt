-- The cells of an image are those that its lines are laid with.
use Rattle.std.proofs.Common.{arith, ◌≡◌, ℕ, zero, suc, ◌+◌, ◌-◌, ◌*◌, ◌/◌, ◌%◌, ◌<◌, ◌≤◌, Bool, true, false, cond, List, [], ◌∷◌, ◌++◌, length, take, drop, map, get_or, refl, ap, sym, ◌∙◌, subst}
use Rattle.wt_grid.proofs.Grids.{listed_same}
use Rattle.wt_grid.specs.declared.image.Image.TheVariants.{One as Single, Two as Double}
use Rattle.wt_grid.specs.declared.image.Image.{Image}
use Rattle.wt_grid.specs.declared.axis.Axis.TheVariants.{One, Two}
use Rattle.wt_grid.specs.declared.axis.Axis.{Axis}
use Rattle.std.proofs.lemmas.Nat.{mul-add-lt, div-mul-add, mod-mul-add, div-add-mod'}
use Rattle.std.proofs.lemmas.List.{length-map}
use Rattle.std.proofs.Math.Seq.{take-add}
use Rattle.std.specs.Prelude.{slice_range}
use Rattle.std.proofs.Math.Nat.{div-lt_iff_lt-mul}
use Rattle.wt_grid.specs.Grid.{Grid, IsGrid, cell, along, across, at, listed, lines, grid_of, of_lines}
use Rattle.wt_grid.specs.Parts.{part}
use Rattle.wt_grid.specs.Images.{piece_at, first_tile, last_tile, is_pair, firsts, lasts, is_double, line_image, image_lines, image_grid}
use Rattle.wt_grid.proofs.Bridge.{length-listed, get_or-listed, cell_of}
use Rattle.wt_morphism.specs.declared.image.Morphism.{Morphism}
use Rattle.wt_morphism.specs.declared.laid.Strand.{Strand}
use Rattle.wt_morphism.specs.Images.{piece, pieces, image, is_two}
use Rattle.wt_morphism.specs.Strands.{strands, line_is_two, all_strands, tile_of, strand_cell, strand_at, line_and_place, laid, laid_row, laid_index}

-- the pieces of a table, tile by tile
pub piece_of : (table : List Image) (tile : ℕ) → piece_at (map piece table) tile ≡ piece (piece_at table tile)
piece_of [] tile = refl
piece_of (i ∷ is) zero = refl
piece_of (i ∷ is) (suc tile) = piece_of is tile

first_of : (i : Image) → first_tile (piece i) ≡ tile_of false i
first_of (Single a) = refl
first_of (Double a b) = refl

last_of : (i : Image) → last_tile (piece i) ≡ tile_of true i
last_of (Single a) = refl
last_of (Double a b) = refl

listed_map : {A B : Type 0} (f : A → B) (g : ℕ → A) (h : ℕ → B) (n : ℕ) → ((k : ℕ) → f (g k) ≡ h k) → map f (listed n g) ≡ listed n h
listed_map f g h zero e = refl
listed_map f g h (suc n) e =
    let a = e 0 in
    let r = listed_map f (λ k. g (suc k)) (λ k. h (suc k)) n (λ k. e (suc k)) in
    cc

module _ (table : List Image) (a : ℕ → ℕ → ℕ) (m : ℕ) (some : 0 < m) where
  -- the line of an image, where it comes from line s.line
  abbrev line_of : Strand → List ℕ
  line_of s = listed m (λ j. tile_of s.second (piece_at table (a s.line j)))

  abbrev doubles : ℕ → Bool
  doubles i = is_pair (piece (piece_at table (a i 0)))

  firsts_listed : (i : ℕ) (b : ℕ → ℕ) → ((j : ℕ) → b j ≡ a i j) → firsts (map piece table) (listed m b) ≡ line_of (record { line = i; second = false })
  firsts_listed i b e = listed_map (λ t. first_tile (piece_at (map piece table) t)) b (λ j. tile_of false (piece_at table (a i j))) m
      (λ j. ap first_tile (piece_of table (b j)) ∙ (first_of (piece_at table (b j)) ∙ ap (λ (t : ℕ). tile_of false (piece_at table t)) (e j)))

  lasts_listed : (i : ℕ) (b : ℕ → ℕ) → ((j : ℕ) → b j ≡ a i j) → lasts (map piece table) (listed m b) ≡ line_of (record { line = i; second = true })
  lasts_listed i b e = listed_map (λ t. last_tile (piece_at (map piece table) t)) b (λ j. tile_of true (piece_at table (a i j))) m
      (λ j. ap last_tile (piece_of table (b j)) ∙ (last_of (piece_at table (b j)) ∙ ap (λ (t : ℕ). tile_of true (piece_at table t)) (e j)))

  double_first : (n : ℕ) (b : ℕ → ℕ) → 0 < n → is_double (map piece table) (listed n b) ≡ is_pair (piece_at (map piece table) (b 0))
  double_first zero b lt = absurd (omega arith)
  double_first (suc n) b lt = refl

  double_listed : (i : ℕ) (b : ℕ → ℕ) → ((j : ℕ) → b j ≡ a i j) → is_double (map piece table) (listed m b) ≡ doubles i
  double_listed i b e = double_first m b some ∙ (ap is_pair (piece_of table (b 0)) ∙ ap (λ (t : ℕ). is_pair (piece (piece_at table t))) (e 0))

  line_laid : (d : Bool) (i : ℕ) (b : ℕ → ℕ) (rest : List (List ℕ)) (ss : List Strand) → ((j : ℕ) → b j ≡ a i j) → doubles i ≡ d → rest ≡ map line_of ss
      → line_image (map piece table) (listed m b) ++ rest
      ≡ map line_of ((record { line = i; second = false }) ∷ cond d ((record { line = i; second = true }) ∷ ss) ss)
  line_laid true i b rest ss e d r =
      let f = firsts_listed i b e in
      let l = lasts_listed i b e in
      rw (double_listed i b e ∙ d) (cc)
  line_laid false i b rest ss e d r =
      let f = firsts_listed i b e in
      rw (double_listed i b e ∙ d) (cc)

  -- the lines of an image are the computed ones
  pub lines_laid : (n i : ℕ) (b : ℕ → ℕ → ℕ) → ((k j : ℕ) → b k j ≡ a (i + k) j) → image_lines (map piece table) (listed n (λ k. listed m (b k))) ≡ map line_of (strands doubles i n)
  lines_laid zero i b e = refl
  lines_laid (suc n) i b e =
      line_laid (doubles i) i (b 0) (image_lines (map piece table) (listed n (λ k. listed m (b (suc k))))) (strands doubles (i + 1) n)
      (λ j. let h : i + 0 ≡ i = omega arith in e 0 j ∙ ap (λ (x : ℕ). a x j) h) refl
      (lines_laid n (i + 1) (λ k. b (suc k)) (λ k j. let h : i + suc k ≡ i + 1 + k = omega arith in e (suc k) j ∙ ap (λ (x : ℕ). a x j) h))

map_at : {A B : Type 0} (f : A → B) (xs : List A) (i : ℕ) (d : A) (z : B) → i < length xs → get_or (map f xs) i z ≡ f (get_or xs i d)
map_at f [] i d z lt = absurd (omega arith)
map_at f (x ∷ xs) zero d z lt = refl
map_at f (x ∷ xs) (suc i) d z lt = map_at f xs i d z (omega arith)

second_within : (f : ℕ → Bool) (i n : ℕ) (b : Bool) (k : ℕ) → k < length (cond b ((record { line = i; second = true }) ∷ strands f (i + 1) n) (strands f (i + 1) n))
    → ((d : ℕ) → d < length (strands f (i + 1) n) → (strand_at (strands f (i + 1) n) d).line < i + suc n)
    → (strand_at (cond b ((record { line = i; second = true }) ∷ strands f (i + 1) n) (strands f (i + 1) n)) k).line < i + suc n
second_within f i n true zero lt r = omega arith
second_within f i n true (suc k) lt r = r k (omega arith)
second_within f i n false k lt r = r k lt

-- each line of the image comes from a line of the pattern
pub strands_within : (f : ℕ → Bool) (i n k : ℕ) → k < length (strands f i n) → (strand_at (strands f i n) k).line < i + n
strands_within f i zero k lt = absurd (omega arith)
strands_within f i (suc n) zero lt = omega arith
strands_within f i (suc n) (suc k) lt = second_within f i n (f i) k (omega arith) (λ d low. let r = strands_within f (i + 1) n d low in omega arith)

module _ (m : Morphism) (p : Grid) (g : IsGrid p) where
  abbrev axis : Axis
  axis = m.axis

  abbrev all : List (List ℕ)
  all = image_lines (pieces m) (lines axis p)

  across_some : (x : Axis) → 0 < across x p
  across_some One = omega (arith, g.high)
  across_some Two = omega (arith, g.wide)

  abbrev line : Strand → List ℕ
  line s = listed (across axis p) (λ j. strand_cell m p s j)

  pub all_laid : all ≡ map line (all_strands m p)
  all_laid = lines_laid m.table (at axis p) (across axis p) (across_some axis) (along axis p) 0 (at axis p) (λ k j. let h : 0 + k ≡ k = omega arith in ap (λ (x : ℕ). at axis p x j) (sym h))

  pub count_all : length all ≡ length (all_strands m p)
  count_all = ap length all_laid ∙ length-map (all_strands m p) line

  laid_at : (i j : ℕ) → i < length (all_strands m p) → j < across axis p → get_or (get_or all i []) j 0 ≡ strand_cell m p (strand_at (all_strands m p) i) j
  laid_at i j li lj =
      ap (λ (ls : List (List ℕ)). get_or (get_or ls i []) j 0) all_laid
      ∙ (ap (λ (l : List ℕ). get_or l j 0) (map_at line (all_strands m p) i (record { line = 0; second = false }) [] li)
      ∙ get_or-listed (across axis p) j (λ k. strand_cell m p (strand_at (all_strands m p) i) k) 0 lj)

pub listed_more : {A : Type 0} (n : ℕ) (f : ℕ → A) → listed (n + 1) f ≡ listed n f ++ f n ∷ []
listed_more zero f = refl
listed_more (suc n) f =
    let e : suc n + 1 ≡ suc (n + 1) = omega arith in
    ap (λ (k : ℕ). listed k f) e ∙ ap (λ (xs : List _). f 0 ∷ xs) (listed_more n (λ k. f (suc k)))

listed_add : {A : Type 0} (n m : ℕ) (f : ℕ → A) → listed (n + m) f ≡ listed n f ++ listed m (λ k. f (n + k))
listed_add zero m f = let z : 0 + m ≡ m = omega arith in ap (λ (k : ℕ). listed k f) z ∙ listed_same m f (λ k. f (0 + k)) (λ i lt. let e : i ≡ 0 + i = omega arith in ap f e)
listed_add (suc n) m f =
    let r = listed_add n m (λ k. f (suc k)) in
    let t : listed m (λ k. f (suc (n + k))) ≡ listed m (λ k. f (suc n + k)) = listed_same m (λ k. f (suc (n + k))) (λ k. f (suc n + k)) (λ i lt. let e : suc (n + i) ≡ suc n + i = omega arith in ap f e) in
    let e : suc n + m ≡ suc (n + m) = omega arith in
    ap (λ (k : ℕ). listed k f) e ∙ (ap (λ (xs : List _). f 0 ∷ xs) r ∙ ap (λ (xs : List _). f 0 ∷ (listed n (λ k. f (suc k)) ++ xs)) t)

-- one row more
pub rows_more : (m : Morphism) (p : Grid) (ss : List Strand) (w y : ℕ) → listed (y * w) (laid_index m p ss w) ++ listed w (laid_row m p ss y) ≡ listed ((y + 1) * w) (laid_index m p ss w)
rows_more m p ss w y =
    let e : (y + 1) * w ≡ y * w + w = grind arith in
    let row : listed w (laid_row m p ss y) ≡ listed w (λ k. laid_index m p ss w (y * w + k)) =
    listed_same w (laid_row m p ss y) (λ k. laid_index m p ss w (y * w + k)) (λ i lt. rw (mod-mul-add y w i lt, div-mul-add y w i lt) refl) in
    ap (λ (xs : List ℕ). listed (y * w) (laid_index m p ss w) ++ xs) row ∙ (sym (listed_add (y * w) w (laid_index m p ss w)) ∙ ap (λ (k : ℕ). listed k (laid_index m p ss w)) (sym e))

-- one row more of a rectangle's cells
pub copied_more : (cells : List ℕ) (w y : ℕ) → take (y * w) cells ++ slice_range cells (y * w) (y * w + w) ≡ take ((y + 1) * w) cells
copied_more cells w y =
    let e : (y + 1) * w ≡ y * w + w = grind arith in
    let n : y * w + w - y * w ≡ w = omega arith in
    ap (λ (k : ℕ). take (y * w) cells ++ take k (drop (y * w) cells)) n ∙ (sym (take-add (y * w) w cells) ∙ ap (λ (k : ℕ). take k cells) (sym e))

-- The image, for either axis.

abbrev morphism : Axis → List Image → Morphism
morphism axis table = record { axis = axis; table = table }

within : (axis : Axis) (table : List Image) (p : Grid) (g : IsGrid p) (x y : ℕ) → x < (image (morphism axis table) p).width → y < (image (morphism axis table) p).height
    → ((line_and_place axis x y).0 < length (all_strands (morphism axis table) p)) × ((line_and_place axis x y).1 < across axis p)
within One table p g x y lx ly = let n = count_all (morphism One table) p g in (omega arith, ly)
within Two table p g x y lx ly = let n = count_all (morphism Two table) p g in (omega arith, lx)

pub turned_within : (m : Morphism) (p : Grid) (g : IsGrid p) (x y : ℕ) → x < (image m p).width → y < (image m p).height
    → ((line_and_place m.axis x y).0 < length (all_strands m p)) × ((line_and_place m.axis x y).1 < across m.axis p)
turned_within m p g x y lx ly = within m.axis m.table p g x y lx ly

-- a cell of the image
cell_laid : (axis : Axis) (table : List Image) (p : Grid) (g : IsGrid p) (x y : ℕ) → x < (image (morphism axis table) p).width → y < (image (morphism axis table) p).height
    → cell (image (morphism axis table) p) x y ≡ laid (morphism axis table) p (all_strands (morphism axis table) p) x y
cell_laid One table p g x y lx ly =
    let m = morphism One table in
    let ls = image_lines (pieces m) (lines One p) in
    let n = count_all m p g in
    cell_of (length ls) p.height x y (λ i j. get_or (get_or ls i []) j 0) lx ly ∙ laid_at m p g x y (omega arith) ly
cell_laid Two table p g x y lx ly =
    let m = morphism Two table in
    let ls = image_lines (pieces m) (lines Two p) in
    let n = count_all m p g in
    cell_of p.width (length ls) x y (λ i j. get_or (get_or ls j []) i 0) lx ly ∙ laid_at m p g y x (omega arith) lx

-- the lower left part, row by row
pub laid_part : (m : Morphism) (p : Grid) (g : IsGrid p) (w h : ℕ) → 1 ≤ w → w ≤ (image m p).width → h ≤ (image m p).height
    → listed (h * w) (laid_index m p (all_strands m p) w) ≡ (part (image m p) 0 0 w h).cells
laid_part m p g w h some lw lh =
    let e : h * w ≡ w * h = grind arith in
    ap (λ (k : ℕ). listed k (laid_index m p (all_strands m p) w)) e
    ∙ listed_same (w * h) (laid_index m p (all_strands m p) w) (λ k. cell (image m p) (0 + k % w) (0 + k / w)) (λ k lt.
    let pos : 0 < w = omega arith in
    let column : k % w < w = omega (arith, pos) in
    let row : k / w < h = (div-lt_iff_lt-mul {k = w} {x = k} {y = h} pos).1 (omega (arith, e)) in
    let at = cell_laid m.axis m.table p g (k % w) (k / w) (omega arith) (omega arith) in
    let zx : 0 + k % w ≡ k % w = omega arith in
    let zy : 0 + k / w ≡ k / w = omega arith in
    sym (ap (λ (i : ℕ). cell (image m p) i (0 + k / w)) zx ∙ (ap (λ (j : ℕ). cell (image m p) (k % w) j) zy ∙ at)))

-- all of it
grid_whole : (w h : ℕ) (f : ℕ → ℕ → ℕ) → part (grid_of w h f) 0 0 w h ≡ grid_of w h f
grid_whole zero h f =
    let none : 0 * h ≡ 0 = grind arith in
    ap (λ (cells : List ℕ). record { width = 0; height = h; cells = cells }) (listed_same (0 * h) (λ k. cell (grid_of 0 h f) (0 + k % 0) (0 + k / 0)) (λ k. f (k % 0) (k / 0)) (λ k lt. absurd (omega (arith, none))))
grid_whole (suc w) h f =
    let pos : 0 < suc w = omega arith in
    let same : (k : ℕ) → k < suc w * h → cell (grid_of (suc w) h f) (0 + k % suc w) (0 + k / suc w) ≡ f (k % suc w) (k / suc w) = λ k lt.
    let e : suc w * h ≡ h * suc w = grind arith in
    let column : k % suc w < suc w = omega (arith, pos) in
    let row : k / suc w < h = (div-lt_iff_lt-mul {k = suc w} {x = k} {y = h} pos).1 (omega (arith, e)) in
    let zx : 0 + k % suc w ≡ k % suc w = omega arith in
    let zy : 0 + k / suc w ≡ k / suc w = omega arith in
    rw (zx, zy) (cell_of (suc w) h (k % suc w) (k / suc w) f column row) in
    ap (λ (cells : List ℕ). record { width = suc w; height = h; cells = cells }) (listed_same (suc w * h) (λ k. cell (grid_of (suc w) h f) (0 + k % suc w) (0 + k / suc w)) (λ k. f (k % suc w) (k / suc w)) same)

whole_of : (axis : Axis) (table : List Image) (p : Grid) → part (image (morphism axis table) p) 0 0 (image (morphism axis table) p).width (image (morphism axis table) p).height ≡ image (morphism axis table) p
whole_of One table p =
    let ls = image_lines (pieces (morphism One table)) (lines One p) in
    grid_whole (length ls) p.height (λ i j. get_or (get_or ls i []) j 0)
whole_of Two table p =
    let ls = image_lines (pieces (morphism Two table)) (lines Two p) in
    grid_whole p.width (length ls) (λ i j. get_or (get_or ls j []) i 0)

pub laid_whole : (m : Morphism) (p : Grid) → part (image m p) 0 0 (image m p).width (image m p).height ≡ image m p
laid_whole m p = whole_of m.axis m.table p

pub laid_as : (m : Morphism) (p : Grid) (w h : ℕ) → w ≡ (image m p).width → h ≡ (image m p).height → part (image m p) 0 0 w h ≡ image m p
laid_as m p w h ew eh = ap (λ (k : ℕ). part (image m p) 0 0 k h) ew ∙ (ap (λ (k : ℕ). part (image m p) 0 0 (image m p).width k) eh ∙ laid_whole m p)

-- its width and height
shape_of : (axis : Axis) (table : List Image) (p : Grid) (g : IsGrid p) → let m = morphism axis table in (axis ≡ One → length (all_strands m p) ≡ (image m p).width) × (axis ≡ Two → length (all_strands m p) ≡ (image m p).height)
shape_of One table p g = (λ e. sym (count_all (morphism One table) p g), λ e. absurd cc)
shape_of Two table p g = (λ e. absurd cc, λ e. sym (count_all (morphism Two table) p g))

pub long_image : (m : Morphism) (p : Grid) (g : IsGrid p) → (m.axis ≡ One → length (all_strands m p) ≡ (image m p).width) × (m.axis ≡ Two → length (all_strands m p) ≡ (image m p).height)
long_image m p g = shape_of m.axis m.table p g
