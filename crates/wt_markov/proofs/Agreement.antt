-- Desubstitution of a code: its blocks are the returns to the window, and its coarse tiles the induced letters.
use Rattle.std.proofs.Common.{arith, ◌≡◌, ℕ, zero, suc, ◌+◌, ◌-◌, ◌<◌, ◌≤◌, List, [], ◌∷◌, ◌++◌, length, length-append, get_or, Bool, true, false, not, None, Some, refl, sym, ap, subst, ◌∙◌, inl, inr}
use Rattle.std.proofs.lemmas.Bool.{and_parts}
use Rattle.std.proofs.lemmas.List.{get_or_append_left, length-map}
use Rattle.wt_golden.specs.Whole.{Whole, plus, minus, is_positive}
use Rattle.wt_plane.specs.HalfPlanes.{Spot, IsSpot}
use Rattle.wt_grid.specs.Grid.{Grid, IsGrid, along, across, at, listed, lines}
use Rattle.wt_grid.specs.Images.{piece_at, first_tile, last_tile, is_pair, image_lines, IsEven}
use Rattle.wt_grid.specs.Parts.{core}
use Rattle.wt_grid.proofs.Bridge.{length-listed, get_or-listed}
use Rattle.wt_grid.proofs.Grids.{long_lines, length_lines}
use Rattle.wt_grid.proofs.Parts.{at_core, along_core, across_core}
use Rattle.wt_grid.proofs.Rectangles.{line_cell, in_image, below_lines}
use Rattle.wt_grid.proofs.CarriedSides.{image_found}
use Rattle.wt_grid.specs.declared.axis.Side.{Side}
use Rattle.wt_grid.specs.declared.axis.Side.TheVariants.{After}
use Rattle.wt_torus.specs.declared.letter.Letter.TheVariants as letter_of
use Rattle.wt_torus.specs.declared.partition.Partition.{Partition}
use Rattle.wt_torus.specs.Boxes.{length_of, move_of}
use Rattle.wt_torus.specs.Rotation.{IsInside, orbit, step, turns, returns, window}
use Rattle.wt_torus.specs.Letters.{letter, only_label}
use Rattle.wt_torus.specs.Codes.{IsCode}
use Rattle.wt_torus.proofs.Rotation.{flag, first_return}
use Rattle.wt_torus.specs.Codes.{spread}
use Rattle.wt_torus.proofs.Scale.{IsOver, IsSame, same_letter, same_returns, lowered_over, three_above, length_spread, move_spread, start_spread}
use Rattle.wt_golden.specs.Fractions.{over, lowest}
use Rattle.std.specs.Prelude.{pos, ◌<ℤ◌, ◌*ℤ◌}
use Rattle.wt_grid.specs.declared.axis.Axis.{Axis}
use Rattle.wt_grid.specs.declared.axis.Axis.TheVariants.{One, Two}
use Rattle.wt_step.specs.Carried.{lines_below}
use Rattle.wt_torus.proofs.Lowered.{lowest_is, less_is_half}
use Rattle.wt_grid.specs.declared.image.Image.{Image}
use Rattle.wt_grid.specs.declared.image.Image.TheVariants as image
use Rattle.wt_morphism.specs.Images.{piece}
use Rattle.wt_morphism.proofs.Cells.{piece_of}
use Rattle.wt_induce.specs.Induced.{induced}
use Rattle.wt_torus.specs.Sound.{IsSound}
use Rattle.wt_induce.specs.Law.{is_half, coordinate_of, block_lines}
use Rattle.wt_induce.proofs.Planes.{point_at}
use Rattle.wt_induce.proofs.Points.{new_labels, coarse_is}
use Rattle.wt_induce.proofs.Frames.{half_is}
use Rattle.wt_induce.proofs.Law.{letter_parts}
use Rattle.wt_induce.proofs.Coded.{all_directed}
use Rattle.wt_step.specs.declared.raw.RawStep.{RawStep}
use Rattle.wt_step.specs.declared.raw.RawLink.TheVariants.{Marker}
use Rattle.wt_step.specs.Words.{is_marker, allows, is_block, image_at, ends_block, joined}
use Rattle.wt_step.specs.Faults.{step_fault, is_good_image}
use Rattle.wt_step.specs.Blocks.{one_if}
use Rattle.wt_step.specs.Meaning.{pieces, cut_core, IsMarkerDesubstitution}
use Rattle.wt_step.specs.Cores.{core_lines}
use Rattle.wt_step.specs.Coarse.{has_margin, is_marked, cuts_low, cuts_high, core_line, cut_line, lines_with_cuts}
use Rattle.wt_step.proofs.Goodness.{good_step}
use Rattle.wt_markov.specs.Window.{MarkerWindow}
use Rattle.wt_markov.specs.Agree.{block_spot, Agrees}
use Rattle.wt_markov.proofs.Held.{region_of}
use Rattle.wt_markov.proofs.Shared.{Shared, shared, reached_same}
use Rattle.wt_markov.proofs.Turned.{orbit_step, inner}
use Rattle.wt_markov.proofs.Valid.{some, less, letter_at}
use Rattle.wt_markov.proofs.Marked.{W, frame, marked, false_true}
use Rattle.wt_markov.proofs.Blocks.{begins, IsBlock, block_is}

-- ---- images

not_false : (b : Bool) → not b ≡ true → b ≡ false
not_false true e = absurd cc
not_false false e = refl

not_true : (b : Bool) → not b ≡ false → b ≡ true
not_true true e = refl
not_true false e = absurd cc

-- for side after: an image begins with a non-marker, and the second of a pair is a marker
module _ (s : RawStep) (after : s.side ≡ After) where
  joined_after : (m n : Bool) → joined s.side m n ≡ true → (m ≡ false) × (n ≡ true)
  joined_after m n e =
      let t = and_parts (not m) n (subst (λ (x : Side). joined x m n ≡ true) after e) in
      (not_false m t.0, t.1)

  first_plain : (x : Image) → is_good_image s x ≡ true → is_marker s (first_tile (piece x)) ≡ false
  first_plain (image.One a) e = not_false (is_marker s a) e
  first_plain (image.Two a b) e = (joined_after (is_marker s a) (is_marker s b) (and_parts (allows s s.axis a b) (is_block s a b) e).1).0

  last_marker : (x : Image) → is_good_image s x ≡ true → is_pair (piece x) ≡ true → is_marker s (last_tile (piece x)) ≡ true
  last_marker (image.One a) e p = absurd cc
  last_marker (image.Two a b) e p = (joined_after (is_marker s a) (is_marker s b) (and_parts (allows s s.axis a b) (is_block s a b) e).1).1

single_image : (x : Image) (a : ℕ) → is_pair (piece x) ≡ false → first_tile (piece x) ≡ a → x ≡ image.One a
single_image (image.One b) a e f = ap image.One f
single_image (image.Two b c) a e f = absurd cc

pair_image : (x : Image) (a b : ℕ) → is_pair (piece x) ≡ true → first_tile (piece x) ≡ a → last_tile (piece x) ≡ b → x ≡ image.Two a b
pair_image (image.One c) a b e f g = absurd cc
pair_image (image.Two c d) a b e f g = ap (λ (x : ℕ). image.Two x d) f ∙ ap (image.Two a) g

same_letter_number : (a b : ℕ) → letter_of.One a ≡ letter_of.One b → a ≡ b
same_letter_number a b e = cc

-- ---- lists of lines

skip : (b : Bool) (u : List ℕ) (xs : List (List ℕ)) (i : ℕ) → get_or (cut_line b u ++ xs) (one_if b + i) [] ≡ get_or xs i []
skip true u xs i = let e : 1 + i ≡ suc i = omega arith in ap (λ (k : ℕ). get_or (u ∷ xs) k []) e
skip false u xs i = let e : 0 + i ≡ i = omega arith in ap (λ (k : ℕ). get_or xs k []) e

cut_long : (b : Bool) (u : List ℕ) → length (cut_line b u) ≡ one_if b
cut_long true u = refl
cut_long false u = refl

line_long : (axis : Axis) (g : Grid) (i : ℕ) → i < along axis g → length (get_or (lines axis g) i []) ≡ across axis g
line_long axis g i lt =
    ap length (get_or-listed (along axis g) i (λ i. listed (across axis g) (λ j. at axis g i j)) [] lt) ∙ length-listed (across axis g) (λ j. at axis g i j)

-- what wt_step says of the border lines of a core
abbrev pub HasBorders : Type 0
HasBorders = (s : RawStep) (p : Grid) → has_margin (Marker s) p ≡ true → core_lines s p ≡ lines_with_cuts s p

module _ (border_lines : HasBorders) (s : RawStep) (good : step_fault s ≡ None) (after : s.side ≡ After) (p : Partition) (sound : IsSound p) (whole_half : is_half s.axis p.torus ≡ false) (marks : MarkerWindow s p)
    (z : Spot) (h : Shared s.axis p.torus z) (g : Grid) (code : IsCode p z g) (q : Grid) (iq : IsGrid q) (coarse : IsMarkerDesubstitution s g q) (margin : has_margin (Marker s) g ≡ true) where
  abbrev ax : Axis
  ax = s.axis

  abbrev c : Grid
  c = core s.radius g

  abbrev n : ℕ
  n = along ax c

  abbrev m : ℕ
  m = across ax c

  abbrev im : List Image
  im = pieces s

  abbrev qs : List (List ℕ)
  qs = lines ax q

  abbrev lo : Bool
  lo = cuts_low (Marker s) g

  abbrev hi : Bool
  hi = cuts_high (Marker s) g

  abbrev ys : List (List ℕ)
  ys = image_lines im qs

  q_wide : (axis : Axis) → 1 ≤ across axis q
  q_wide One = iq.high
  q_wide Two = iq.wide

  found : (cut_core s g ≡ ys) × IsEven im qs
  found = image_found im (across ax q) qs (cut_core s g) (q_wide ax) (long_lines ax q) coarse

  border : lines ax c ≡ cut_line lo (core_line s g 0) ++ (ys ++ cut_line hi (core_line s g (n - 1)))
  border = subst (λ (ls : List (List ℕ)). lines ax c ≡ cut_line lo (core_line s g 0) ++ (ls ++ cut_line hi (core_line s g (n - 1)))) found.0 (border_lines s g margin)

  counted : n ≡ one_if lo + (length ys + one_if hi)
  counted =
      let l = length_lines ax c in
      let e = ap length border in
      let a = length-append (cut_line lo (core_line s g 0)) (ys ++ cut_line hi (core_line s g (n - 1))) in
      let b = length-append ys (cut_line hi (core_line s g (n - 1))) in
      let x = cut_long lo (core_line s g 0) in
      let y = cut_long hi (core_line s g (n - 1)) in
      omega arith

  -- line i of the cut core is a line of the core
  line_at : (i : ℕ) → i < length ys → get_or (lines ax c) (one_if lo + i) [] ≡ get_or ys i []
  line_at i lt =
      ap (λ (ls : List (List ℕ)). get_or ls (one_if lo + i) []) border
      ∙ (skip lo (core_line s g 0) (ys ++ cut_line hi (core_line s g (n - 1))) i ∙ get_or_append_left ys (cut_line hi (core_line s g (n - 1))) [] i lt)

  block : (k j : ℕ) → k < along ax q → j < across ax q → IsBlock im qs k j
  block k j lk lj =
      let l = length_lines ax q in
      let w = line_long ax q k lk in
      block_is im qs found.1 k j (omega arith) (omega arith)

  -- the lines of q are as wide as those of the core
  as_wide : (k j : ℕ) → k < along ax q → j < across ax q → across ax q ≡ m
  as_wide k j lk lj =
      let b = block k j lk lj in
      let w = line_long ax q k lk in
      let f : one_if lo + begins im qs k < n = (let e = counted in let l = b.within in omega arith) in
      let v = line_long ax c (one_if lo + begins im qs k) f in
      let e = ap length (line_at (begins im qs k) b.within) in
      let l = b.long in
      omega arith

  -- the image of a coarse tile
  abbrev the_image : ℕ → ℕ → Image
  the_image k j = image_at s (at ax q k j)

  piece_is : (k j : ℕ) → k < along ax q → j < across ax q → piece_at im (get_or (get_or qs k []) j 0) ≡ piece (the_image k j)
  piece_is k j lk lj = ap (piece_at im) (line_cell ax q k j lk lj) ∙ piece_of s.images (at ax q k j)

  good_image : (k j : ℕ) → k < along ax q → j < across ax q → is_good_image s (the_image k j) ≡ true
  good_image k j lk lj =
      let low = below ax (below_lines ax (length im) q (in_image im qs (cut_core s g) coarse)) k j lk lj in
      let e = length-map s.images piece in
      (good_step s good).images (at ax q k j) (omega arith)
    where
      below : (axis : Axis) → Rattle.wt_grid.specs.Parts.AllBelow (length im) q → (k j : ℕ) → k < along axis q → j < across axis q → at axis q k j < length im
      below One b k j lk lj = b k j lk lj
      below Two b k j lk lj = b j k lj lk

  -- ---- letters of the core
  abbrev T : ℕ → Whole
  T i = orbit h.L h.M h.T (s.radius + i)

  abbrev S : ℕ → Whole
  S j = orbit h.O h.N h.S (s.radius + j)

  abbrev spot : ℕ → ℕ → Spot
  spot i j = point_at s.axis (T i) (S j) h.d

  letter_core : (i j : ℕ) → i < n → j < m → letter p (spot i j) ≡ letter_of.One (at ax c i j)
  letter_core i j li lj =
      let a = along_core ax s.radius g in
      let b = across_core ax s.radius g in
      letter_at s.axis p sound z h g code (s.radius + i) (s.radius + j) (omega arith) (omega arith)
      ∙ ap letter_of.One (sym (at_core ax s.radius g i j li lj))

  mark : (i j : ℕ) → i < n → j < m → is_marker s (at ax c i j) ≡ not (is_positive (minus (W s p sound marks z h).size (T i)))
  mark i j li lj = marked s p sound marks z h (T i) (S j) (at ax c i j) (letter_core i j li lj)

  next : (i : ℕ) → T (suc i) ≡ step h.L h.M (T i)
  next i =
      let e : s.radius + suc i ≡ suc (s.radius + i) = omega arith in
      ap (orbit h.L h.M h.T) e ∙ orbit_step h.L h.M h.T (some s.axis p sound z h) (less s.axis p sound z h) (s.radius + i)

  abbrev size : Whole
  size = (W s p sound marks z h).size

  -- the line of the core at which block k begins
  abbrev line : ℕ → ℕ
  line k = one_if lo + begins im qs k

  -- What stands in cell j of the first line of block k, and behind it.
  record IsTurn (k j : ℕ) : Type 0 where
    inside : IsInside size (T (line k))
    here : letter p (spot (line k) j) ≡ letter_of.One (first_tile (piece (the_image k j)))
    single : is_pair (piece (the_image k j)) ≡ false → turns size h.L h.M (T (line k)) ≡ 1
    double : is_pair (piece (the_image k j)) ≡ true → (turns size h.L h.M (T (line k)) ≡ 2)
        × (letter p (point_at s.axis (step h.L h.M (T (line k))) (S j) h.d) ≡ letter_of.One (last_tile (piece (the_image k j))))

  turns_one : (t : Whole) → is_positive (minus size (step h.L h.M t)) ≡ true → turns size h.L h.M t ≡ 1
  turns_one t e = rw e refl

  turns_two : (t : Whole) → is_positive (minus size (step h.L h.M t)) ≡ false → turns size h.L h.M t ≡ 2
  turns_two t e = rw e refl

  first_cell : (k j : ℕ) → k < along ax q → j < across ax q → (line k < n) × (at ax c (line k) j ≡ first_tile (piece (the_image k j)))
  first_cell k j lk lj =
      let b = block k j lk lj in
      let lt : line k < n = (let e = counted in let l = b.within in omega arith) in
      let w = as_wide k j lk lj in (
        lt,
        sym (line_cell ax c (line k) j lt (omega arith))
            ∙ (ap (λ (u : List ℕ). get_or u j 0) (line_at (begins im qs k) b.within) ∙ (b.first ∙ ap first_tile (piece_is k j lk lj))),
      )

  -- a block begins in the window
  begins_in : (k j : ℕ) → k < along ax q → j < across ax q → is_positive (minus size (T (line k))) ≡ true
  begins_in k j lk lj =
      let f = first_cell k j lk lj in
      let w = as_wide k j lk lj in
      not_true (is_positive (minus size (T (line k)))) (sym (mark (line k) j f.0 (omega arith)) ∙ (ap (is_marker s) f.1 ∙ first_plain s after (the_image k j) (good_image k j lk lj)))
    where
      not_true : (b : Bool) → not b ≡ false → b ≡ true
      not_true true e = refl
      not_true false e = absurd cc

  -- the line behind a single block is in the window too
  behind_single : (k j : ℕ) → k < along ax q → j < across ax q → is_pair (piece (the_image k j)) ≡ false → is_positive (minus size (T (suc (line k)))) ≡ true
  behind_single k j lk lj e =
      let b = block k j lk lj in
      let l = length_lines ax q in
      elim (b.single (ap is_pair (piece_is k j lk lj) ∙ e)) [
        | inl x ↦
            let i : line (suc k) ≡ suc (line k) = (let f = x.1 in omega arith) in
            ap (λ (i : ℕ). is_positive (minus size (T i))) (sym i) ∙ begins_in (suc k) j (let f = x.0 in omega arith) lj
        | inr x ↦ last_line hi refl x
      ]
    where
      last_flag : (a : Bool) → hi ≡ a → is_marker s (at ax c (n - 1) 0) ≡ not a
      last_flag a e =
          let f : not (ends_block s.side (is_marked s g (n - 1))) ≡ a = e in
          flip (is_marked s g (n - 1)) a (subst (λ (x : Side). not (ends_block x (is_marked s g (n - 1))) ≡ a) after f)
        where
          flip : (x a : Bool) → not x ≡ a → x ≡ not a
          flip true a e = ap not e
          flip false a e = ap not e

      last_line : (a : Bool) → hi ≡ a → suc (begins im qs k) ≡ length ys → is_positive (minus size (T (suc (line k)))) ≡ true
      last_line true e x =
          let f = counted in
          let o : one_if hi ≡ 1 = ap one_if e in
          let i : n - 1 ≡ suc (line k) = omega arith in
          let w = as_wide k j lk lj in
          let u = mark (n - 1) 0 (omega arith) (omega arith) in
          let v : not (is_positive (minus size (T (n - 1)))) ≡ false = sym u ∙ last_flag true e in
          ap (λ (i : ℕ). is_positive (minus size (T i))) (sym i) ∙ not_true (is_positive (minus size (T (n - 1)))) v
      last_line false e x =
          let f = counted in
          let o : one_if hi ≡ 0 = ap one_if e in
          let i : n - 1 ≡ line k = omega arith in
          let w = as_wide k j lk lj in
          let c0 = first_cell k j lk lj in
          let u = mark (n - 1) 0 (let y = c0.0 in omega arith) (omega arith) in
          let v : not (is_positive (minus size (T (n - 1)))) ≡ true = sym u ∙ last_flag false e in
          let b = ap (λ (i : ℕ). is_positive (minus size (T i))) i ∙ begins_in k j lk lj in
          false_true (is_positive (minus size (T (n - 1)))) b (not_false (is_positive (minus size (T (n - 1)))) v)

  turn : (k j : ℕ) → k < along ax q → j < across ax q → IsTurn k j
  turn k j lk lj =
      let b = block k j lk lj in
      let f = first_cell k j lk lj in
      let w = as_wide k j lk lj in
      let wide : j < m = omega arith in
      let here : letter p (spot (line k) j) ≡ letter_of.One (first_tile (piece (the_image k j))) = letter_core (line k) j f.0 wide ∙ ap letter_of.One f.1 in
      let r = region_of p (spot (line k) j) (first_tile (piece (the_image k j))) here in
      let above = (inner s.axis p.torus sound.width sound.height h.d h.above h.L h.M h.length_over h.length_is h.move_over h.move_is (T (line k)) (S j) r.inside).0 in record {
        inside = (inr above, begins_in k j lk lj);
        here = here;
        single = λ e. turns_one (T (line k)) (ap (λ (t : Whole). is_positive (minus size t)) (sym (next (line k))) ∙ behind_single k j lk lj e);
        double = λ e.
            let d = b.double (ap is_pair (piece_is k j lk lj) ∙ e) in
            let lt : suc (line k) < n = (let y = counted in let x = d.0 in omega arith) in
            let shift : one_if lo + suc (begins im qs k) ≡ suc (line k) = omega arith in
            let line_is : get_or (lines ax c) (suc (line k)) [] ≡ get_or ys (suc (begins im qs k)) [] = ap (λ (i : ℕ). get_or (lines ax c) i []) (sym shift) ∙ line_at (suc (begins im qs k)) d.0 in
            let cell : at ax c (suc (line k)) j ≡ last_tile (piece (the_image k j)) =
            sym (line_cell ax c (suc (line k)) j lt wide) ∙ (ap (λ (u : List ℕ). get_or u j 0) line_is ∙ (d.1 ∙ ap last_tile (piece_is k j lk lj))) in
            let flagged : not (is_positive (minus size (T (suc (line k))))) ≡ true =
            sym (mark (suc (line k)) j lt wide) ∙ (ap (is_marker s) cell ∙ last_marker s after (the_image k j) (good_image k j lk lj) e) in (
              turns_two (T (line k)) (ap (λ (t : Whole). is_positive (minus size t)) (sym (next (line k))) ∙ not_false (is_positive (minus size (T (suc (line k))))) flagged),
              subst (λ (t : Whole). letter p (point_at s.axis t (S j) h.d) ≡ letter_of.One (last_tile (piece (the_image k j)))) (next (line k))
                  (letter_core (suc (line k)) j lt wide ∙ ap letter_of.One cell),
            );
      }

  half : plus h.M h.M ≡ h.L → ⊥
  half = half_is lowest_is h.d h.above (length_of s.axis p.torus) (move_of s.axis p.torus) h.L h.M h.length_over h.move_over h.length_is h.move_is whole_half

  -- ---- the blocks are the returns to the window
  abbrev window_step : Whole → Whole
  window_step t = step size (window h.L h.M).move t

  next_block : (k : ℕ) → k < along ax q → (T (line (suc k)) ≡ window_step (T (line k))) × (begins im qs (suc k) ≡ turns size h.L h.M (T (line k)) + begins im qs k)
  next_block k lk =
      let lj : 0 < across ax q = q_wide ax in
      let b = turn k 0 lk lj in
      let e = block k 0 lk lj in
      let t = T (line k) in
      let r = first_return h.L h.M (some s.axis p sound z h) (less s.axis p sound z h) half t b.inside in
      let x = the_image k 0 in
      elim (flag (is_pair (piece x))) [
        | inl d ↦
            let two = (b.double d).0 in
            let i = e.next_double (ap is_pair (piece_is k 0 lk lj) ∙ d) in
            let l : line (suc k) ≡ suc (suc (line k)) = omega arith in
            let back : step h.L h.M (step h.L h.M t) ≡ window_step t = rw two at r.back in
            (ap T l ∙ (next (suc (line k)) ∙ (ap (step h.L h.M) (next (line k)) ∙ back)), omega arith)
        | inr d ↦
            let one = b.single d in
            let i = e.next_single (ap is_pair (piece_is k 0 lk lj) ∙ d) in
            let l : line (suc k) ≡ suc (line k) = omega arith in
            let back : step h.L h.M t ≡ window_step t = rw one at r.back in
            (ap T l ∙ (next (line k) ∙ back), omega arith)
      ]

  returns_from : (i k : ℕ) → k + i ≤ along ax q → returns (window h.L h.M) h.L h.M (T (line k)) i + begins im qs k ≡ begins im qs (k + i)
  returns_from zero k le = let e : k + 0 ≡ k = omega arith in let f = ap (begins im qs) e in omega arith
  returns_from (suc i) k le =
      let b = next_block k (omega arith) in
      let r = returns_from i (suc k) (omega arith) in
      let e : suc k + i ≡ k + suc i = omega arith in
      let f = ap (begins im qs) e in
      let g = ap (λ (t : Whole). returns (window h.L h.M) h.L h.M t i) b.0 in
      let c1 = b.1 in omega arith

  -- where the first block begins, over the denominator
  start_over : (a : Axis) (y : Spot) (t u : Whole) → IsSame y (point_at a t u h.d) → IsOver h.d (coordinate_of a y) t × (pos 0 <ℤ (coordinate_of a y).d)
  start_over One y t u e = let l = lowest_is (over y.x y.d) e.over in (lowered_over h.d (over y.x y.d) (lowest (over y.x y.d)) l.0 t l.1 e.x, l.1.over)
  start_over Two y t u e = let l = lowest_is (over y.y y.d) e.over in (lowered_over h.d (over y.y y.d) (lowest (over y.y y.d)) l.0 t l.1 e.y, l.1.over)

  pub blocks_return : (k : ℕ) → k ≤ along ax q → block_lines s.axis p.torus (block_spot s p z g q 0 0) k ≡ lines_below s q k
  blocks_return k le =
      let y = block_spot s p z g q 0 0 in
      let same = reached_same s.axis p.torus z h (s.radius + line 0) (s.radius + 0) in
      let o = start_over s.axis y (T (line 0)) (S 0) same in
      let l = length_of s.axis p.torus in
      let m' = move_of s.axis p.torus in
      let t = coordinate_of s.axis y in
      let r = returns_from k 0 (omega arith) in
      let first : begins im qs 0 ≡ 0 = refl in
      let e : 0 + k ≡ k = omega arith in
      let f = ap (begins im qs) e in
      same_returns (l.d *ℤ (m'.d *ℤ t.d)) h.d (three_above lowest_is l.d m'.d t.d h.length_over h.move_over o.1) h.above
      (spread l (m'.d *ℤ t.d)) (spread m' (l.d *ℤ t.d)) (spread t (l.d *ℤ m'.d)) h.L h.M (T (line 0))
      (length_spread lowest_is h.d h.above l m' t h.L h.M (T (line 0)) h.length_over h.move_over o.1 h.length_is h.move_is o.0)
      (move_spread lowest_is h.d h.above l m' t h.L h.M (T (line 0)) h.length_over h.move_over o.1 h.length_is h.move_is o.0)
      (start_spread lowest_is h.d h.above l m' t h.L h.M (T (line 0)) h.length_over h.move_over o.1 h.length_is h.move_is o.0) k
      ∙ omega arith

  -- the induced letter at a block
  pub agrees : Agrees s p z g q
  agrees k j l lk lj e =
      let t = T (line k) in
      let u = S j in
      let b = turn k j lk lj in
      let x = the_image k j in
      let a = first_return h.L h.M (some s.axis p sound z h) (less s.axis p sound z h) half t b.inside in
      let there : letter (induced s.axis p) (spot (line k) j) ≡ letter_of.One l =
      sym (same_letter (induced s.axis p) (block_spot s p z g q k j) (spot (line k) j) (reached_same s.axis p.torus z h (s.radius + line k) (s.radius + j))) ∙ e in
      let label = (letter_parts (induced s.axis p) (spot (line k) j) l there).1 in
      let directed = all_directed p.regions sound.directed in
      let f = frame s p sound marks z h in
      let here = (letter_parts p (spot (line k) j) (first_tile (piece x)) b.here).1 in
      elim (coarse_is less_is_half s.axis h.d h.above p directed (window h.L h.M) h.M h.move_over h.move_is f t u l
      (ap only_label (sym (new_labels less_is_half s.axis h.d h.above p directed (window h.L h.M) h.M h.move_over h.move_is f t u)) ∙ label)) [
        | inl r ↦
            let one = a.single r.0 in
            let same = same_letter_number (first_tile (piece x)) r.1.0 (sym here ∙ r.1.1) in
            elim (flag (is_pair (piece x))) [
              | inl d ↦ let two = (b.double d).0 in absurd (omega arith)
              | inr d ↦ r.1.2 ∙ ap Some (sym (single_image x r.1.0 d same))
            ]
        | inr r ↦
            let two = a.double r.0 in
            let same = same_letter_number (first_tile (piece x)) r.1.0 (sym here ∙ r.1.2) in
            elim (flag (is_pair (piece x))) [
              | inl d ↦
                  let next_letter : letter p (point_at s.axis (plus t h.M) u h.d) ≡ letter_of.One (last_tile (piece x)) =
                  subst (λ (v : Whole). letter p (point_at s.axis v u h.d) ≡ letter_of.One (last_tile (piece x))) two.1 (b.double d).1 in
                  let last = same_letter_number (last_tile (piece x)) r.1.1 (sym (letter_parts p (point_at s.axis (plus t h.M) u h.d) (last_tile (piece x)) next_letter).1 ∙ r.1.3) in
                  r.1.4 ∙ ap Some (sym (pair_image x r.1.0 r.1.1 d same last))
              | inr d ↦ let one = b.single d in let other = two.0 in absurd (omega arith)
            ]
      ]

pub codes_agree : HasBorders → (s : RawStep) → step_fault s ≡ None → s.side ≡ After → (p : Partition) → IsSound p → is_half s.axis p.torus ≡ false → MarkerWindow s p
    → (z : Spot) → IsSpot z → (g : Grid) → IsCode p z g → has_margin (Marker s) g ≡ true → (q : Grid) → IsGrid q → IsMarkerDesubstitution s g q → Agrees s p z g q
codes_agree borders s good after p sound whole_half marks z is g code margin q iq coarse =
    agrees borders s good after p sound whole_half marks z (shared s.axis p sound z is.divisor) g code q iq coarse margin

pub codes_return : HasBorders → (s : RawStep) → step_fault s ≡ None → s.side ≡ After → (p : Partition) → IsSound p → is_half s.axis p.torus ≡ false → MarkerWindow s p
    → (z : Spot) → IsSpot z → (g : Grid) → IsCode p z g → has_margin (Marker s) g ≡ true → (q : Grid) → IsGrid q → IsMarkerDesubstitution s g q
    → (k : ℕ) → k ≤ along s.axis q → block_lines s.axis p.torus (block_spot s p z g q 0 0) k ≡ lines_below s q k
codes_return borders s good after p sound whole_half marks z is g code margin q iq coarse =
    blocks_return borders s good after p sound whole_half marks z (shared s.axis p sound z is.divisor) g code q iq coarse margin
