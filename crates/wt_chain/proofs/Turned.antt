-- The tables of a loop tell how large the images of its tiles are.
use Rattle.std.proofs.Common.{arith, ◌≡◌, ◌<◌, ◌≤◌, ◌+◌, ◌*◌, ℕ, zero, suc, List, [], ◌∷◌, ◌++◌, length, map, get_or, take, drop, Bool, true, false, if◌then◌else◌, refl, sym, ◌∙◌, ap}
use Rattle.wt_morphism.proofs.Evenness.{image_is_grid, image_lines_of}
use Rattle.wt_grid.specs.Axes.{same_axis}
use Rattle.wt_grid.specs.declared.image.Image.TheVariants.{One as Single, Two as Double}
use Rattle.wt_grid.specs.declared.image.Image.{Image}
use Rattle.wt_grid.specs.declared.axis.Axis.TheVariants.{One, Two}
use Rattle.wt_grid.specs.declared.axis.Axis.{Axis}
use Rattle.std.proofs.lemmas.List.{take_all}
use Rattle.std.specs.List.{flat_map}
use Rattle.wt_grid.specs.Lines.{AllLong}
use Rattle.wt_grid.specs.Grid.{Grid, IsGrid, cell, along, across, at, listed, lines, of_lines, grid_of}
use Rattle.wt_grid.specs.Images.{piece_at, first_tile, last_tile, is_pair, firsts, lasts, is_double, line_image, image_lines, image_grid}
use Rattle.wt_grid.specs.Traces.{segment, cells_at, piece_tiles}
use Rattle.wt_grid.specs.Widths.{Stage, next_row, last_row, width, total}
use Rattle.wt_grid.proofs.Bridge.{length-listed, get_or-listed, cell_of}
use Rattle.wt_grid.proofs.Grids.{long_lines, length_lines, lines_of, grid_of_lines, listed_same}
use Rattle.wt_grid.proofs.Rectangles.{wide_along}
use Rattle.wt_grid.proofs.ImageGrids.{long_images, image_count}
use Rattle.wt_grid.proofs.Traces.{segment_lines, listed_map}
use Rattle.wt_grid.proofs.Widths.{length_last}
use Rattle.wt_step.specs.declared.raw.RawLink.{RawLink}
use Rattle.wt_step.specs.declared.raw.RawLink.TheVariants.{Marker, Restrict}
use Rattle.wt_morphism.specs.Images.{piece}
use Rattle.wt_step.specs.Meaning.{pieces_of}
use Rattle.wt_chain.specs.Growth.{image_of, is_along, stage, stages, origin, renaming_stage, turn, turn_stages}
use Rattle.wt_chain.specs.Turns.{axis_of, image_under, image_through, renamed_back, turned, turned_times, single}

-- Pieces and images.

pub piece_of : {A : Type 0} (f : A → Image) (xs : List A) (d : A) (t : ℕ) → get_or (map f xs) t (f d) ≡ f (get_or xs t d)
piece_of f [] d t = refl
piece_of f (x ∷ xs) d zero = refl
piece_of f (x ∷ xs) d (suc t) = piece_of f xs d t

-- what a coarse tile stands for, found among all pieces or by itself
pub piece_is : (link : RawLink) (t : ℕ) → piece_at (pieces_of link) t ≡ piece (image_of link t)
piece_is (Marker s) t = piece_of piece s.images (Single 0) t
piece_is (Restrict s) t = piece_of Single s.kept 0 t

pub tiles_are : (image : Image) → piece_tiles (piece image) ≡ piece_tiles image
tiles_are (Single a) = refl
tiles_are (Double a b) = refl

first_is : (image : Image) → first_tile (piece image) ≡ first_tile image
first_is (Single a) = refl
first_is (Double a b) = refl

-- The first cells of the lines of an image.

cells_append : (j : ℕ) (xs ys : List (List ℕ)) → cells_at j (xs ++ ys) ≡ cells_at j xs ++ cells_at j ys
cells_append j [] ys = refl
cells_append j (x ∷ xs) ys = ap (λ zs. get_or x j 0 ∷ zs) (cells_append j xs ys)

line_cells : (im : List Image) (i : ℕ) (is : List ℕ) (p : Image) → piece_at im i ≡ p → cells_at 0 (line_image im (i ∷ is)) ≡ piece_tiles p
line_cells im i is (Single a) e = rw e refl
line_cells im i is (Double a b) e = rw e refl

first_cells : (im : List Image) (m : ℕ) (qs : List (List ℕ)) → 1 ≤ m → AllLong m qs
    → cells_at 0 (image_lines im qs) ≡ flat_map (λ t. piece_tiles (piece_at im t)) (cells_at 0 qs)
first_cells im m [] le h = refl
first_cells im m ([] ∷ qs) le h = absurd (let e : 0 ≡ m = h.0 in omega arith)
first_cells im m ((i ∷ is) ∷ qs) le h =
    cells_append 0 (line_image im (i ∷ is)) (image_lines im qs)
    ∙ (ap (λ zs. zs ++ cells_at 0 (image_lines im qs)) (line_cells im i is (piece_at im i) refl)
    ∙ ap (λ zs. piece_tiles (piece_at im i) ++ zs) (first_cells im m qs le h.1))

first_of_lines : (im : List Image) (q : List ℕ) (qs : List (List ℕ)) → get_or (image_lines im (q ∷ qs)) 0 [] ≡ firsts im q
first_of_lines im q qs = by (is_double im q) refl
  where
    by : (b : Bool) → is_double im q ≡ b → get_or (line_image im q ++ image_lines im qs) 0 [] ≡ firsts im q
    by true e = rw e refl
    by false e = rw e refl

-- The first row of a rectangle along an axis.

abbrev pub row : Axis → Grid → List ℕ
row axis g = listed (along axis g) (λ k. at axis g k 0)

pub row_long : (axis : Axis) (g : Grid) → length (row axis g) ≡ along axis g
row_long axis g = length-listed (along axis g) (λ k. at axis g k 0)

-- its cells stand first in the lines of its axis
row_cells : (axis : Axis) (g : Grid) → 1 ≤ across axis g → row axis g ≡ cells_at 0 (lines axis g)
row_cells axis g le = sym (listed_map (λ u. get_or u 0 0) (along axis g) (λ i. listed (across axis g) (λ j. at axis g i j))
    ∙ listed_same (along axis g) (λ i. get_or (listed (across axis g) (λ j. at axis g i j)) 0 0) (λ i. at axis g i 0) (λ i lt. get_or-listed (across axis g) 0 (λ j. at axis g i j) 0 le))

-- it is the first of the lines of the other axis
first_line : (n m : ℕ) (a : ℕ → ℕ → ℕ) → 1 ≤ n → get_or (listed n (λ i. listed m (a i))) 0 [] ≡ listed m (a 0)
first_line n m a le = get_or-listed n 0 (λ i. listed m (a i)) [] le

across_one : (g : Grid) → 1 ≤ g.height → row One g ≡ get_or (lines Two g) 0 []
across_one g le = sym (first_line g.height g.width (λ i j. at Two g i j) le)

across_two : (g : Grid) → 1 ≤ g.width → row Two g ≡ get_or (lines One g) 0 []
across_two g le = sym (first_line g.width g.height (λ i j. at One g i j) le)

-- The image of a rectangle, along the axis of its pieces and across.

pub across_same : (axis : Axis) (m : ℕ) (ls : List (List ℕ)) → across axis (of_lines axis m ls) ≡ m
across_same One m ls = refl
across_same Two m ls = refl

row_along : (axis : Axis) (im : List Image) (q : Grid) → 1 ≤ across axis q
    → row axis (image_grid axis im q) ≡ flat_map (λ t. piece_tiles (piece_at im t)) (row axis q)
row_along axis im q le =
    row_cells axis (image_grid axis im q) (rw (across_same axis (across axis q) (image_lines im (lines axis q))) le)
    ∙ (ap (cells_at 0) (image_lines_of axis im q)
    ∙ (first_cells im (across axis q) (lines axis q) le (long_lines axis q)
    ∙ ap (flat_map (λ t. piece_tiles (piece_at im t))) (sym (row_cells axis q le))))

front : (im : List Image) (qs : List (List ℕ)) → 1 ≤ length qs → get_or (image_lines im qs) 0 [] ≡ firsts im (get_or qs 0 [])
front im [] le = absurd (omega arith)
front im (q ∷ qs) le = first_of_lines im q qs

front_line : (axis : Axis) (im : List Image) (q : Grid) → IsGrid q
    → get_or (lines axis (image_grid axis im q)) 0 [] ≡ firsts im (get_or (lines axis q) 0 [])
front_line axis im q g =
    let n = length_lines axis q in
    let w = wide_along axis q g in
    ap (λ ls. get_or ls 0 []) (image_lines_of axis im q) ∙ front im (lines axis q) (omega arith)

across_first : (im : List Image) (q : Grid) → IsGrid q → row Two (image_grid One im q) ≡ firsts im (row Two q)
across_first im q g =
    across_two (image_grid One im q) (image_is_grid One im q g).wide
    ∙ (front_line One im q g ∙ ap (firsts im) (sym (across_two q g.wide)))

across_second : (im : List Image) (q : Grid) → IsGrid q → row One (image_grid Two im q) ≡ firsts im (row One q)
across_second im q g =
    across_one (image_grid Two im q) (image_is_grid Two im q g).high
    ∙ (front_line Two im q g ∙ ap (firsts im) (sym (across_one q g.high)))

-- One step.

flat_same : (f h : ℕ → List ℕ) (xs : List ℕ) → ((x : ℕ) → f x ≡ h x) → flat_map f xs ≡ flat_map h xs
flat_same f h [] e = refl
flat_same f h (x ∷ xs) e = rw (e x) (ap (λ zs. h x ++ zs) (flat_same f h xs e))

map_same : (f h : ℕ → ℕ) (xs : List ℕ) → ((x : ℕ) → f x ≡ h x) → map f xs ≡ map h xs
map_same f h [] e = refl
map_same f h (x ∷ xs) e = rw (e x) (ap (λ zs. h x ∷ zs) (map_same f h xs e))

pub tiles_at : (link : RawLink) (t : ℕ) → piece_tiles (piece_at (pieces_of link) t) ≡ piece_tiles (image_of link t)
tiles_at link t = ap piece_tiles (piece_is link t) ∙ tiles_are (image_of link t)

first_at : (link : RawLink) (t : ℕ) → first_tile (piece_at (pieces_of link) t) ≡ first_tile (image_of link t)
first_at link t = ap first_tile (piece_is link t) ∙ first_is (image_of link t)

all_tiles : (link : RawLink) (xs : List ℕ) → flat_map (λ t. piece_tiles (piece_at (pieces_of link) t)) xs ≡ flat_map (λ t. piece_tiles (image_of link t)) xs
all_tiles link xs = flat_same (λ t. piece_tiles (piece_at (pieces_of link) t)) (λ t. piece_tiles (image_of link t)) xs (tiles_at link)

all_firsts : (link : RawLink) (xs : List ℕ) → firsts (pieces_of link) xs ≡ map (λ t. first_tile (image_of link t)) xs
all_firsts link xs = map_same (λ t. first_tile (piece_at (pieces_of link) t)) (λ t. first_tile (image_of link t)) xs (first_at link)

single_tiles : (kept : List ℕ) (xs : List ℕ) → flat_map (λ t. get_or kept t 0 ∷ []) xs ≡ map (λ t. get_or kept t 0) xs
single_tiles kept [] = refl
single_tiles kept (x ∷ xs) = ap (λ zs. get_or kept x 0 ∷ zs) (single_tiles kept xs)

step_row : (axis : Axis) (link : RawLink) (q : Grid) → IsGrid q → row axis (image_under link q) ≡ next_row (stage axis link) (row axis q)
step_row One (Restrict s) q g = row_along One (pieces_of (Restrict s)) q g.high ∙ (all_tiles (Restrict s) (row One q) ∙ single_tiles s.kept (row One q))
step_row Two (Restrict s) q g = across_first (pieces_of (Restrict s)) q g ∙ all_firsts (Restrict s) (row Two q)
step_row axis (Marker s) q g = by axis s.axis refl
  where
    by : (a b : Axis) → s.axis ≡ b → row a (image_grid s.axis (pieces_of (Marker s)) q) ≡ next_row (stage a (Marker s)) (row a q)
    by One One e = rw e (row_along One (pieces_of (Marker s)) q g.high ∙ all_tiles (Marker s) (row One q))
    by Two Two e = rw e (row_along Two (pieces_of (Marker s)) q g.wide ∙ all_tiles (Marker s) (row Two q))
    by One Two e = rw e (across_second (pieces_of (Marker s)) q g ∙ all_firsts (Marker s) (row One q))
    by Two One e = rw e (across_first (pieces_of (Marker s)) q g ∙ all_firsts (Marker s) (row Two q))

-- All steps.

through_is_grid : (links : List RawLink) (q : Grid) → IsGrid q → IsGrid (image_through links q)
through_is_grid [] q g = g
through_is_grid (link ∷ links) q g = image_is_grid (axis_of link) (pieces_of link) (image_through links q) (through_is_grid links q g)

through_row : (axis : Axis) (links : List RawLink) (left : List Stage) (q : Grid) → IsGrid q
    → last_row left (row axis (image_through links q)) ≡ last_row (stages axis links left) (row axis q)
through_row axis [] left q g = refl
through_row axis (link ∷ links) left q g =
    ap (last_row left) (step_row axis link (image_through links q) (through_is_grid links q g))
    ∙ through_row axis links (stage axis link ∷ left) q g

-- Renaming.

renamed_is_grid : (renaming : List ℕ) (g : Grid) → IsGrid g → IsGrid (renamed_back renaming g)
renamed_is_grid renaming g h = record { wide = h.wide; high = h.high; whole = length-listed (g.width * g.height) _ }

renamed_row : (axis : Axis) (renaming : List ℕ) (g : Grid) → IsGrid g → row axis (renamed_back renaming g) ≡ map (λ t. origin renaming t) (row axis g)
renamed_row One renaming g h =
    listed_same g.width (λ k. cell (renamed_back renaming g) k 0) (λ k. origin renaming (cell g k 0)) (λ k lt. cell_of g.width g.height k 0 (λ x y. origin renaming (cell g x y)) lt h.high)
    ∙ sym (listed_map (λ t. origin renaming t) g.width (λ k. cell g k 0))
renamed_row Two renaming g h =
    listed_same g.height (λ k. cell (renamed_back renaming g) 0 k) (λ k. origin renaming (cell g 0 k)) (λ k lt. cell_of g.width g.height 0 k (λ x y. origin renaming (cell g x y)) h.wide lt)
    ∙ sym (listed_map (λ t. origin renaming t) g.height (λ k. cell g 0 k))

-- Turns.

turned_is_grid : (loop : List RawLink) (renaming : List ℕ) (g : Grid) → IsGrid g → IsGrid (turned loop renaming g)
turned_is_grid loop renaming g h = through_is_grid loop (renamed_back renaming g) (renamed_is_grid renaming g h)

turned_row : (axis : Axis) (loop : List RawLink) (renaming : List ℕ) (left : List Stage) (g : Grid) → IsGrid g
    → last_row left (row axis (turned loop renaming g)) ≡ last_row (turn axis loop renaming left) (row axis g)
turned_row axis loop renaming left g h =
    through_row axis loop left (renamed_back renaming g) (renamed_is_grid renaming g h)
    ∙ ap (last_row (stages axis loop left)) (renamed_row axis renaming g h)

pub times_row : (axis : Axis) (loop : List RawLink) (renaming : List ℕ) (n : ℕ) (g : Grid) → IsGrid g
    → row axis (turned_times loop renaming n g) ≡ last_row (turn_stages axis loop renaming n) (row axis g)
times_row axis loop renaming zero g h = refl
times_row axis loop renaming (suc n) g h =
    times_row axis loop renaming n (turned loop renaming g) (turned_is_grid loop renaming g h)
    ∙ turned_row axis loop renaming (turn_stages axis loop renaming n) g h

one_width : (ss : List Stage) (t : ℕ) → length (last_row ss (t ∷ [])) ≡ width ss t
one_width ss t = length_last ss (t ∷ []) ∙ (let e : total (width ss) (t ∷ []) ≡ width ss t = omega arith in e)

-- the image of a tile after n turns is as wide, and as high, as the stages of its axis say
pub wide : (loop : List RawLink) (renaming : List ℕ) (n t : ℕ) → (turned_times loop renaming n (single t)).width ≡ width (turn_stages One loop renaming n) t
wide loop renaming n t =
    sym (row_long One (turned_times loop renaming n (single t)))
    ∙ (ap length (times_row One loop renaming n (single t) (record { wide = omega arith; high = omega arith; whole = refl })) ∙ one_width (turn_stages One loop renaming n) t)

pub high : (loop : List RawLink) (renaming : List ℕ) (n t : ℕ) → (turned_times loop renaming n (single t)).height ≡ width (turn_stages Two loop renaming n) t
high loop renaming n t =
    sym (row_long Two (turned_times loop renaming n (single t)))
    ∙ (ap length (times_row Two loop renaming n (single t) (record { wide = omega arith; high = omega arith; whole = refl })) ∙ one_width (turn_stages Two loop renaming n) t)

-- one turn more, put behind the others
pub turned_last : (loop : List RawLink) (renaming : List ℕ) (n : ℕ) (g : Grid) → turned_times loop renaming (suc n) g ≡ turned loop renaming (turned_times loop renaming n g)
turned_last loop renaming zero g = refl
turned_last loop renaming (suc n) g = turned_last loop renaming n (turned loop renaming g)
