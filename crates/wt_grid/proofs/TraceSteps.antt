-- Runs of cells are followed from a coarse rectangle to the one that it was made of.
use Rattle.std.proofs.Common.{arith, ◌≡◌, ◌≤◌, ◌<◌, ◌+◌, ℕ, zero, suc, List, [], ◌∷◌, ◌++◌, length, length-append, map, take, drop, get_or, Bool, true, false, cond, refl, sym, ap, ◌∙◌}
use Rattle.wt_grid.specs.Axes.{other}
use Rattle.wt_grid.specs.declared.image.Image.{Image}
use Rattle.wt_grid.specs.declared.axis.Axis.TheVariants.{One, Two}
use Rattle.wt_grid.specs.declared.axis.Axis.{Axis}
use Rattle.std.specs.List.{flat_map}
use Rattle.std.proofs.lemmas.List.{drop-append-le, take-append-le, get_or-append-add, get_or_append_left, length-drop}
use Rattle.std.proofs.Math.Seq.{drop-append-add}
use Rattle.wt_grid.specs.Lines.{IsImage, AllLong}
use Rattle.wt_grid.specs.Grid.{Grid, IsGrid, along, across, at, lines}
use Rattle.wt_grid.specs.Parts.{core}
use Rattle.wt_grid.specs.Widths.{Stage, next_row, last_row}
use Rattle.wt_grid.specs.Images.{piece_at, first_tile, firsts, is_double, line_image, image_lines, IsEven}
use Rattle.wt_grid.specs.Traces.{segment, cells_at, piece_tiles, IsStageOf, IsTraced}
use Rattle.wt_grid.proofs.Parts.{at_core, along_core, across_core}
use Rattle.wt_grid.proofs.Grids.{long_lines, length_lines, long_coarse, listed_same}
use Rattle.wt_grid.proofs.Rectangles.{line_cell, wide_along}
use Rattle.wt_grid.proofs.ImageGrids.{image_count}
use Rattle.wt_grid.proofs.CarriedSides.{image_found, long_take}
use Rattle.wt_grid.proofs.Traces.{listed_map, segment_lines, image_cells, run_image, run_fits, StandsIn}

-- the other axis reads a rectangle the other way

pub at_other : (axis : Axis) (g : Grid) (i j : ℕ) → at (other axis) g i j ≡ at axis g j i
at_other One g i j = refl
at_other Two g i j = refl

pub along_other : (axis : Axis) (g : Grid) → along (other axis) g ≡ across axis g
along_other One g = refl
along_other Two g = refl

pub across_other : (axis : Axis) (g : Grid) → across (other axis) g ≡ along axis g
across_other One g = refl
across_other Two g = refl

pub segment_core : (axis : Axis) (r : ℕ) (g : Grid) (i j n : ℕ) → i + n ≤ along axis (core r g) → j < across axis (core r g) → segment axis (core r g) i j n ≡ segment axis g (r + i) (r + j) n
segment_core axis r g i j n le lt =
    listed_same n (λ k. at axis (core r g) (i + k) j) (λ k. at axis g ((r + i) + k) (r + j))
    (λ k lk. let e : r + (i + k) ≡ (r + i) + k = omega arith in at_core axis r g (i + k) j (omega arith) lt ∙ ap (λ (x : ℕ). at axis g x (r + j)) e)

-- a run of the lines that stand inside others
inside_run : (front xs back : List (List ℕ)) (o d : ℕ) → o + d ≤ length xs → take d (drop (length front + o) (front ++ (xs ++ back))) ≡ take d (drop o xs)
inside_run front xs back o d le =
    let n = length-drop o xs in
    ap (take d) (drop-append-add front (xs ++ back) o ∙ drop-append-le o xs back (omega arith)) ∙ take-append-le d (drop o xs) back (omega arith)

inside_line : (front xs back : List (List ℕ)) (o : ℕ) → o < length xs → get_or (front ++ (xs ++ back)) (length front + o) [] ≡ get_or xs o []
inside_line front xs back o lt = get_or-append-add front (xs ++ back) o [] ∙ get_or_append_left xs back [] o lt

long_drop : (m k : ℕ) (ls : List (List ℕ)) → AllLong m ls → AllLong m (drop k ls)
long_drop m zero ls h = h
long_drop m (suc k) [] h = tt
long_drop m (suc k) (u ∷ ls) h = long_drop m k ls h.1

even_drop : (im : List Image) (k : ℕ) (qs : List (List ℕ)) → IsEven im qs → IsEven im (drop k qs)
even_drop im zero qs h = h
even_drop im (suc k) [] h = tt
even_drop im (suc k) (q ∷ qs) h = even_drop im k qs h.1

even_take : (im : List Image) (k : ℕ) (qs : List (List ℕ)) → IsEven im qs → IsEven im (take k qs)
even_take im zero qs h = tt
even_take im (suc k) [] h = tt
even_take im (suc k) (q ∷ qs) h = (h.0, even_take im k qs h.1)

-- what a stage makes of a row
row_along : (im : List Image) (s : Stage) (row : List ℕ) → IsStageOf true im s → next_row s row ≡ flat_map (λ t. piece_tiles (piece_at im t)) row
row_along im s row h = ap (λ (b : Bool). cond b (flat_map s.pieces row) (map s.first row)) h.axis ∙ go row
  where
    go : (row : List ℕ) → flat_map s.pieces row ≡ flat_map (λ t. piece_tiles (piece_at im t)) row
    go [] = refl
    go (t ∷ ts) = ap (λ (xs : List ℕ). xs ++ flat_map s.pieces ts) (h.pieces t) ∙ ap (λ (ys : List ℕ). piece_tiles (piece_at im t) ++ ys) (go ts)

row_across : (im : List Image) (s : Stage) (row : List ℕ) → IsStageOf false im s → next_row s row ≡ map (λ t. first_tile (piece_at im t)) row
row_across im s row h = ap (λ (b : Bool). cond b (flat_map s.pieces row) (map s.first row)) h.axis ∙ go row
  where
    go : (row : List ℕ) → map s.first row ≡ map (λ t. first_tile (piece_at im t)) row
    go [] = refl
    go (t ∷ ts) = let a = h.first t in let r = go ts in cc

-- the first line of a block
first_of_line : (im : List Image) (q : List ℕ) (ls : List (List ℕ)) (b : Bool) → is_double im q ≡ b → get_or (line_image im q ++ ls) 0 [] ≡ firsts im q
first_of_line im q ls true e = rw e refl
first_of_line im q ls false e = rw e refl

first_of_block : (im : List Image) (qs : List (List ℕ)) (j : ℕ) → j < length qs → get_or (image_lines im qs) (length (image_lines im (take j qs))) [] ≡ firsts im (get_or qs j [])
first_of_block im [] j lt = absurd (omega arith)
first_of_block im (q ∷ qs) zero lt = first_of_line im q (image_lines im qs) (is_double im q) refl
first_of_block im (q ∷ qs) (suc j) lt =
    let e = length-append (line_image im q) (image_lines im (take j qs)) in
    ap (λ (k : ℕ). get_or (line_image im q ++ image_lines im qs) k []) e
    ∙ (get_or-append-add (line_image im q) (image_lines im qs) (length (image_lines im (take j qs))) [] ∙ first_of_block im qs j (omega arith))

line_some : (im : List Image) (q : List ℕ) (b : Bool) → is_double im q ≡ b → 1 ≤ length (line_image im q)
line_some im q true e = rw e (omega arith)
line_some im q false e = rw e (omega arith)

block_within : (im : List Image) (qs : List (List ℕ)) (j : ℕ) → j < length qs → length (image_lines im (take j qs)) < length (image_lines im qs)
block_within im [] j lt = absurd (omega arith)
block_within im (q ∷ qs) zero lt = let s = line_some im q (is_double im q) refl in let e = length-append (line_image im q) (image_lines im qs) in omega arith
block_within im (q ∷ qs) (suc j) lt =
    let r = block_within im qs j (omega arith) in
    let e = length-append (line_image im q) (image_lines im qs) in
    let f = length-append (line_image im q) (image_lines im (take j qs)) in
    omega arith

-- A rectangle g with a core of radius r, and a coarse rectangle whose image stands in the lines of that core.
module _ (axis : Axis) (im : List Image) (g q : Grid) (r : ℕ) (L : List (List ℕ)) (iq : IsGrid q)
    (wide : 1 ≤ across axis (core r g)) (stands : StandsIn L (lines axis (core r g))) (image : IsImage im (lines axis q) L) (long : AllLong (across axis (core r g)) L) where
  c : Grid
  c = core r g

  coarse_long : AllLong (across axis (core r g)) (lines axis q)
  coarse_long = long_coarse im (across axis (core r g)) (lines axis q) L image long

  found : (L ≡ image_lines im (lines axis q)) × IsEven im (lines axis q)
  found = image_found im (across axis (core r g)) (lines axis q) L wide coarse_long image

  first_long : (m : ℕ) (ls : List (List ℕ)) → 1 ≤ length ls → AllLong m ls → length (get_or ls 0 []) ≡ m
  first_long m [] le h = absurd (omega arith)
  first_long m (u ∷ ls) le h = h.0

  pub same_across : across axis q ≡ across axis (core r g)
  same_across =
      let n = length_lines axis q in
      let w = wide_along axis q iq in
      sym (first_long (across axis q) (lines axis q) (omega arith) (long_lines axis q)) ∙ first_long (across axis (core r g)) (lines axis q) (omega arith) coarse_long

  lines_count : length stands.0 + length L ≤ along axis (core r g)
  lines_count =
      let e = ap length stands.2 in
      let f = length-append stands.0 (L ++ stands.1) in
      let h = length-append L stands.1 in
      let n = length_lines axis (core r g) in
      omega arith

  some_line : 1 ≤ length L
  some_line =
      let e = ap length found.0 in
      let c = image_count im (lines axis q) in
      let n = length_lines axis q in
      let w = wide_along axis q iq in
      omega arith

  lines_image : length L ≡ length (image_lines im (lines axis q))
  lines_image = ap length found.0

  -- n coarse lines from line k on, which fill d lines
  run_down : (s : Stage) (k j n d : ℕ) → IsStageOf true im s → k + n ≤ along axis q → j < across axis q → length (image_lines im (take n (drop k (lines axis q)))) ≡ d
      → (i : ℕ) × (i + d ≤ along axis g) × ((r + j) < across axis g) × (next_row s (segment axis q k j n) ≡ segment axis g i (r + j) d)
  run_down s k j n d st le lt e =
      let qs = lines axis q in
      let o : ℕ = length (image_lines im (take k qs)) in
      let f : ℕ = length stands.0 in
      let fits = run_fits im qs k n in
      let some = some_line in
      let count = lines_count in
      let li = lines_image in
      let sa = same_across in
      let ac = along_core axis r g in
      let xc = across_core axis r g in
      let run : take d (drop o L) ≡ image_lines im (take n (drop k qs)) =
      ap (λ (ys : List (List ℕ)). take d (drop o ys)) found.0 ∙ (ap (λ (x : ℕ). take x (drop o (image_lines im qs))) (sym e) ∙ run_image im qs k n) in
      let within : take d (drop (f + o) (lines axis (core r g))) ≡ take d (drop o L) =
      ap (λ (ys : List (List ℕ)). take d (drop (f + o) ys)) stands.2 ∙ inside_run stands.0 L stands.1 o d (omega arith) in
      let row : next_row s (segment axis q k j n) ≡ cells_at j (image_lines im (take n (drop k qs))) =
      row_along im s (segment axis q k j n) st
      ∙ (ap (flat_map (λ t. piece_tiles (piece_at im t))) (sym (segment_lines axis q k j n le lt))
      ∙ sym (image_cells im (across axis (core r g)) j (take n (drop k qs)) (omega arith) (long_take (across axis (core r g)) n (drop k qs) (long_drop (across axis (core r g)) k qs coarse_long)) (even_take im n (drop k qs) (even_drop im k qs found.1)))) in (
        r + (f + o),
        omega arith,
        omega arith,
        row ∙ (ap (cells_at j) (sym run) ∙ (ap (cells_at j) (sym within)
            ∙ (segment_lines axis (core r g) (f + o) j d (omega arith) (omega arith) ∙ segment_core axis r g (f + o) j d (omega arith) (omega arith)))),
      )

  pub traced_along : (s : Stage) (ss : List Stage) (d0 d n : ℕ) → IsStageOf true im s → ((k : ℕ) → k + n ≤ along axis q → length (image_lines im (take n (drop k (lines axis q)))) ≡ d)
      → IsTraced axis ss d0 g d → IsTraced axis (s ∷ ss) d0 q n
  traced_along s ss d0 d n st filled h k j le lt =
      let x = run_down s k j n d st le lt (filled k le) in
      ap (λ (row : List ℕ). length (last_row ss row)) x.3 ∙ h x.0 (r + j) x.1 x.2

  -- a run of cells in one coarse line
  run_across : (s : Stage) (k j e : ℕ) → IsStageOf false im s → k + e ≤ across axis q → j < along axis q
      → (i : ℕ) × (i < along axis g) × ((r + k) + e ≤ across axis g) × (next_row s (segment (other axis) q k j e) ≡ segment (other axis) g (r + k) i e)
  run_across s k j e st le lt =
      let qs = lines axis q in
      let o : ℕ = length (image_lines im (take j qs)) in
      let f : ℕ = length stands.0 in
      let nq = length_lines axis q in
      let bw = block_within im qs j (omega arith) in
      let count = lines_count in
      let li = lines_image in
      let sa = same_across in
      let ac = along_core axis r g in
      let xc = across_core axis r g in
      let oa = along_other axis (core r g) in
      let ob = across_other axis (core r g) in
      let line : get_or (lines axis (core r g)) (f + o) [] ≡ firsts im (get_or qs j []) =
      ap (λ (ys : List (List ℕ)). get_or ys (f + o) []) stands.2
      ∙ (inside_line stands.0 L stands.1 o (omega arith) ∙ (ap (λ (ys : List (List ℕ)). get_or ys o []) found.0 ∙ first_of_block im qs j (omega arith))) in
      let cell_is : (i : ℕ) → i < e → first_tile (piece_at im (at (other axis) q (k + i) j)) ≡ at (other axis) (core r g) (k + i) (f + o) = λ i l.
      (ap (λ (x : ℕ). first_tile (piece_at im x)) (at_other axis q (k + i) j ∙ sym (line_cell axis q j (k + i) lt (omega arith)))
      ∙ (sym (firsts_at (get_or qs j []) (k + i) (line_is j lt (k + i) (omega arith)))
      ∙ (ap (λ (u : List ℕ). get_or u (k + i) 0) (sym line) ∙ (line_cell axis (core r g) (f + o) (k + i) (omega arith) (omega arith) ∙ sym (at_other axis (core r g) (k + i) (f + o)))))) in
      let row : next_row s (segment (other axis) q k j e) ≡ segment (other axis) (core r g) k (f + o) e =
      row_across im s (segment (other axis) q k j e) st
      ∙ (listed_map (λ t. first_tile (piece_at im t)) e (λ i. at (other axis) q (k + i) j)
      ∙ listed_same e (λ i. first_tile (piece_at im (at (other axis) q (k + i) j))) (λ i. at (other axis) (core r g) (k + i) (f + o)) cell_is) in
      (r + (f + o), omega arith, omega arith, row ∙ segment_core (other axis) r g k (f + o) e (omega arith) (omega arith))
    where
      firsts_at : (u : List ℕ) (i : ℕ) → i < length u → get_or (firsts im u) i 0 ≡ first_tile (piece_at im (get_or u i 0))
      firsts_at [] i l = absurd (omega arith)
      firsts_at (t ∷ ts) zero l = refl
      firsts_at (t ∷ ts) (suc i) l = firsts_at ts i (omega arith)

      line_is : (j : ℕ) → j < along axis q → (i : ℕ) → i < across axis q → i < length (get_or (lines axis q) j [])
      line_is j lt i l = let n = length_lines axis q in let h = line_length (lines axis q) j (omega arith) (long_lines axis q) in omega arith
        where
          line_length : (ls : List (List ℕ)) (j : ℕ) → j < length ls → AllLong (across axis q) ls → length (get_or ls j []) ≡ across axis q
          line_length [] j l h = absurd (omega arith)
          line_length (u ∷ ls) zero l h = h.0
          line_length (u ∷ ls) (suc j) l h = line_length ls j (omega arith) h.1

  pub traced_across : (s : Stage) (ss : List Stage) (e0 e : ℕ) → IsStageOf false im s → IsTraced (other axis) ss e0 g e → IsTraced (other axis) (s ∷ ss) e0 q e
  traced_across s ss e0 e st h k j le lt =
      let oa = along_other axis q in
      let ob = across_other axis q in
      let pa = along_other axis g in
      let pb = across_other axis g in
      let x = run_across s k j e st (omega arith) (omega arith) in
      ap (λ (row : List ℕ). length (last_row ss row)) x.3 ∙ h (r + k) x.0 (omega arith) (omega arith)
