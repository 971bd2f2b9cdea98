-- The coding law and its converse, for codes of points.
use Rattle.std.proofs.Common.{arith, ◌≡◌, ℕ, zero, suc, ◌<◌, ◌≤◌, List, [], ◌∷◌, map, true, false, refl, sym, ap, subst, ◌∙◌, inl, inr}
use Rattle.wt_grid.proofs.Grids.{listed_same}
use Rattle.wt_grid.specs.Axes.{other}
use Rattle.wt_grid.specs.declared.axis.Axis.TheVariants.{One, Two}
use Rattle.wt_grid.specs.declared.axis.Axis.{Axis}
use Rattle.std.specs.Prelude.{ℤ, pos, ◌*ℤ◌, ◌<ℤ◌}
use Rattle.std.proofs.lemmas.Bool.{and_parts}
use Rattle.wt_golden.specs.Whole.{Whole, whole, plus, minus, times, opposite, is_positive}
use Rattle.wt_golden.specs.Fractions.{Fraction, top, over, lowest}
use Rattle.wt_ring.proofs.Ring.{x_, ◌⊗◌, ⊖_, solve}
use Rattle.wt_golden.proofs.WholeRing.{golden}
use Rattle.wt_golden.proofs.Products.{mul_above}
use Rattle.wt_golden.proofs.Order.{positive_or_not}
use Rattle.wt_plane.specs.HalfPlanes.{Half, Spot, AllDirected, reduced_half, x_of, y_of}
use Rattle.wt_grid.specs.Grid.{Grid, IsGrid, cell, listed, lines, along, across}
use Rattle.wt_grid.specs.Grid.{at as cell_at}
use Rattle.wt_grid.specs.Lines.{IsImage}
use Rattle.wt_grid.proofs.Bridge.{cell_of}
use Rattle.wt_grid.proofs.Parts.{grid_grid}
use Rattle.wt_torus.specs.declared.letter.Letter.TheVariants.{One as Only}
use Rattle.wt_torus.specs.declared.partition.Labelled.{Labelled}
use Rattle.wt_torus.specs.declared.partition.Partition.{Partition}
use Rattle.wt_torus.specs.Boxes.{Rotation, length_of, move_of, is_below, is_between}
use Rattle.wt_torus.specs.Rotation.{IsInside, orbit, Window, window, turns, returns}
use Rattle.wt_torus.specs.Letters.{letter, number_in}
use Rattle.wt_torus.specs.Codes.{spread, coordinate, reached, IsCode}
use Rattle.wt_torus.proofs.Rotation.{flag, both}
use Rattle.wt_torus.proofs.Scale.{IsOver, IsLowered, below_is, below_same, two_signs, less_is, coordinate_is, length_spread, move_spread, start_spread, three_above, same_letter, spot_is, same_returns, own_over, more_over, more_behind, raised_over}
use Rattle.wt_morphism.specs.Images.{piece, pieces}
use Rattle.wt_induce.specs.Zones.{frame_on, framed}
use Rattle.wt_induce.specs.Induced.{images, induced, morphism}
use Rattle.wt_torus.specs.Sound.{RegionsDirected, IsSound}
use Rattle.wt_induce.specs.Law.{is_half, along_of, coordinate_of, IsInWindow, block_lines, reached_along, code_along}
use Rattle.wt_induce.proofs.Numbers.{Each}
use Rattle.wt_torus.proofs.Lowered.{IsLess}
use Rattle.wt_induce.proofs.Planes.{point_at}
use Rattle.wt_induce.proofs.Points.{IsDirected, IsFrame}
use Rattle.wt_induce.proofs.Frames.{frame_is, move_is, half_is}
use Rattle.wt_induce.proofs.Law.{IsDefined, framed_length, framed_other, defined_from, number_from, law, converse}

-- ---- by axis

framed_move : (axis : Axis) (r : Rotation) → move_of axis (framed axis r) ≡ (frame_on axis r).step
framed_move One r = refl
framed_move Two r = refl

framed_across : (axis : Axis) (r : Rotation) → move_of (other axis) (framed axis r) ≡ move_of (other axis) r
framed_across One r = refl
framed_across Two r = refl

pub length_over : (axis : Axis) (p : Partition) → IsSound p → pos 0 <ℤ (length_of axis p.torus).d
length_over One p s = s.width
length_over Two p s = s.height

pub move_over : (axis : Axis) (p : Partition) → IsSound p → pos 0 <ℤ (move_of axis p.torus).d
move_over One p s = s.move1
move_over Two p s = s.move2

pub moves_inside : (axis : Axis) (p : Partition) → IsSound p → is_between (top (move_of axis p.torus)) (move_of axis p.torus).d (length_of axis p.torus) ≡ true
moves_inside One p s = (and_parts (is_between (top p.torus.move1) p.torus.move1.d p.torus.width) (is_between (top p.torus.move2) p.torus.move2.d p.torus.height) s.rotation).0
moves_inside Two p s = (and_parts (is_between (top p.torus.move1) p.torus.move1.d p.torus.width) (is_between (top p.torus.move2) p.torus.move2.d p.torus.height) s.rotation).1

pub coordinate_low : (axis : Axis) (z : Spot) → coordinate_of axis z ≡ lowest (over (along_of axis z) z.d)
coordinate_low One z = refl
coordinate_low Two z = refl

pub planes_directed : (hs : List Half) → AllDirected hs → IsDirected hs
planes_directed [] d = tt
planes_directed (h ∷ hs) d = (d.0, planes_directed hs d.1)

pub all_directed : (rs : List Labelled) → RegionsDirected rs → Each (λ (r : Labelled). IsDirected r.region.planes) rs
all_directed [] d = tt
all_directed (r ∷ rs) d = (planes_directed r.region.planes d.0, all_directed rs d.1)

-- codes along an axis

code_in : (axis : Axis) (p : Partition) (z : Spot) (q : Grid) → IsCode p z q → (k j : ℕ) → k < along axis q → j < across axis q → letter p (reached_along axis p.torus z k j) ≡ Only (cell_at axis q k j)
code_in One p z q c k j lk lj = c.letters k j lk lj
code_in Two p z q c k j lk lj = c.letters j k lj lk

in_code : (axis : Axis) (p : Partition) (z : Spot) (n h : ℕ) → 1 ≤ n → 1 ≤ h → ((i j : ℕ) → i < n → j < h → IsDefined (letter p (reached_along axis p.torus z i j))) → IsCode p z (code_along axis p z n h)
in_code One p z n h sn sh d = record {
  grid = grid_grid n h (λ i j. number_in (letter p (reached p.torus z i j))) sn sh;
  letters = λ i j li lj. d i j li lj ∙ ap Only (sym (cell_of n h i j (λ i' j'. number_in (letter p (reached p.torus z i' j'))) li lj));
}
in_code Two p z n h sn sh d = record {
  grid = grid_grid h n (λ i j. number_in (letter p (reached p.torus z i j))) sh sn;
  letters = λ i j li lj. d j i lj li ∙ ap Only (sym (cell_of h n i j (λ i' j'. number_in (letter p (reached p.torus z i' j'))) li lj));
}

code_lines : (axis : Axis) (p : Partition) (z : Spot) (n h : ℕ) → lines axis (code_along axis p z n h) ≡ listed n (λ i. listed h (λ j. number_in (letter p (reached_along axis p.torus z i j))))
code_lines One p z n h = listed_same n (λ i. listed h (λ j. cell (code_along One p z n h) i j)) (λ i. listed h (λ j. number_in (letter p (reached p.torus z i j)))) (λ i li.
    listed_same h (λ j. cell (code_along One p z n h) i j) (λ j. number_in (letter p (reached p.torus z i j))) (λ j lj. cell_of n h i j (λ i' j'. number_in (letter p (reached p.torus z i' j'))) li lj))
code_lines Two p z n h = listed_same n (λ i. listed h (λ j. cell (code_along Two p z n h) j i)) (λ i. listed h (λ j. number_in (letter p (reached p.torus z j i)))) (λ i li.
    listed_same h (λ j. cell (code_along Two p z n h) j i) (λ j. number_in (letter p (reached p.torus z j i))) (λ j lj. cell_of h n j i (λ i' j'. number_in (letter p (reached p.torus z i' j'))) lj li))

pub along_some : (axis : Axis) (q : Grid) → IsGrid q → (1 ≤ along axis q) × (1 ≤ across axis q)
along_some One q g = (g.wide, g.high)
along_some Two q g = (g.high, g.wide)

turns_some : (S L M t : Whole) → 1 ≤ turns S L M t
turns_some S L M t = elim (flag (is_positive (minus S (Rattle.wt_torus.specs.Rotation.step L M t)))) [
  | inl e ↦ rw e (omega arith)
  | inr e ↦ rw e (omega arith)
]

returns_some : (w : Window) (L M t : Whole) (n : ℕ) → n ≤ returns w L M t n
returns_some w L M t zero = omega arith
returns_some w L M t (suc n) =
    let a = turns_some w.size L M t in
    let b = returns_some w L M (Rattle.wt_torus.specs.Rotation.step w.size w.move t) n in
    omega arith

module _ (lowest_is : (f : Fraction) → pos 0 <ℤ f.d → (k : ℤ) × IsLowered f (lowest f) k) where
  -- a letter of a code, over a common denominator
  letter_along : (axis : Axis) (p : Partition) (z : Spot) (D : ℤ) → pos 0 <ℤ D → (L M T O N S : Whole)
      → pos 0 <ℤ (length_of axis p.torus).d → pos 0 <ℤ (move_of axis p.torus).d → pos 0 <ℤ (coordinate_of axis z).d
      → pos 0 <ℤ (length_of (other axis) p.torus).d → pos 0 <ℤ (move_of (other axis) p.torus).d → pos 0 <ℤ (coordinate_of (other axis) z).d
      → IsOver D (length_of axis p.torus) L → IsOver D (move_of axis p.torus) M → IsOver D (coordinate_of axis z) T
      → IsOver D (length_of (other axis) p.torus) O → IsOver D (move_of (other axis) p.torus) N → IsOver D (coordinate_of (other axis) z) S
      → (i j : ℕ) → letter p (reached_along axis p.torus z i j) ≡ letter p (point_at axis (orbit L M T i) (orbit O N S j) D)
  letter_along One p z D h L M T O N S hl hm ht ho hn hs ol om ot oo on os i j =
      let a = coordinate_is lowest_is D h p.torus.width p.torus.move1 (x_of z) L M T hl hm ht ol om ot i in
      let b = coordinate_is lowest_is D h p.torus.height p.torus.move2 (y_of z) O N S ho hn hs oo on os j in
      same_letter p (reached p.torus z i j) (point_at One (orbit L M T i) (orbit O N S j) D)
      (spot_is D (coordinate p.torus.width p.torus.move1 (x_of z) i) (coordinate p.torus.height p.torus.move2 (y_of z) j) (orbit L M T i) (orbit O N S j) h a.1 b.1 a.0 b.0)
  letter_along Two p z D h L M T O N S hl hm ht ho hn hs ol om ot oo on os i j =
      let a = coordinate_is lowest_is D h p.torus.width p.torus.move1 (x_of z) O N S ho hn hs oo on os j in
      let b = coordinate_is lowest_is D h p.torus.height p.torus.move2 (y_of z) L M T hl hm ht ol om ot i in
      same_letter p (reached p.torus z j i) (point_at Two (orbit L M T i) (orbit O N S j) D)
      (spot_is D (coordinate p.torus.width p.torus.move1 (x_of z) j) (coordinate p.torus.height p.torus.move2 (y_of z) i) (orbit O N S j) (orbit L M T i) h a.1 b.1 a.0 b.0)

  module _ (least_is : (h : Half) → (k : ℤ) × IsLess h (reduced_half h) k)
      (axis : Axis) (p : Partition) (sound : IsSound p) (whole_half : is_half axis p.torus ≡ false) (z : Spot) (z_over : pos 0 <ℤ z.d) (inside : IsInWindow axis p.torus z) where
    abbrev r : Rotation
    r = p.torus

    abbrev p' : Partition
    p' = induced axis p

    abbrev t : Fraction
    t = coordinate_of axis z

    abbrev s : Fraction
    s = coordinate_of (other axis) z

    hl : pos 0 <ℤ (length_of axis r).d
    hl = length_over axis p sound

    hm : pos 0 <ℤ (move_of axis r).d
    hm = move_over axis p sound

    ho : pos 0 <ℤ (length_of (other axis) r).d
    ho = length_over (other axis) p sound

    hn : pos 0 <ℤ (move_of (other axis) r).d
    hn = move_over (other axis) p sound

    coordinate_over : (a : Axis) → pos 0 <ℤ (coordinate_of a z).d
    coordinate_over a = rw (coordinate_low a z) ((lowest_is (over (along_of a z) z.d) z_over).1.over)

    ht : pos 0 <ℤ t.d
    ht = coordinate_over axis

    hs : pos 0 <ℤ s.d
    hs = coordinate_over (other axis)

    torus_is : p'.torus ≡ framed axis r
    unfolding induced
    torus_is = refl

    -- over any common denominator
    module _ (D : ℤ) (h : pos 0 <ℤ D) (L M T O N S : Whole)
        (ol : IsOver D (length_of axis r) L) (om : IsOver D (move_of axis r) M) (ot : IsOver D t T)
        (oo : IsOver D (length_of (other axis) r) O) (on : IsOver D (move_of (other axis) r) N) (os : IsOver D s S) where
      abbrev W : Window
      W = window L M

      frame : IsFrame D (frame_on axis r) W
      frame = frame_is lowest_is D h (length_of axis r) (move_of axis r) L M hl hm ol om

      shift : IsOver D (frame_on axis r).step W.move × (pos 0 <ℤ (frame_on axis r).step.d)
      shift = move_is lowest_is D h (length_of axis r) (move_of axis r) L M hl hm ol om

      moves : (is_positive (top (move_of axis r)) ≡ true) × (is_below (top (move_of axis r)) (move_of axis r).d (length_of axis r) ≡ true)
      moves = and_parts (is_positive (top (move_of axis r))) (is_below (top (move_of axis r)) (move_of axis r).d (length_of axis r)) (moves_inside axis p sound)

      some : is_positive M ≡ true
      some = sym (two_signs (top (move_of axis r)) M D (move_of axis r).d h hm om) ∙ moves.0

      less : is_positive (minus L M) ≡ true
      less = sym (less_is D (move_of axis r) (length_of axis r) M L h hm hl om ol) ∙ moves.1

      half : plus M M ≡ L → ⊥
      half = half_is lowest_is D h (length_of axis r) (move_of axis r) L M hl hm ol om whole_half

      raw_over : times (along_of axis z) (whole D) ≡ times T (whole z.d)
      raw_over =
          let l = lowest_is (over (along_of axis z) z.d) z_over in
          raised_over D (over (along_of axis z) z.d) (lowest (over (along_of axis z) z.d)) l.0 T l.1 (subst (λ (f : Fraction). IsOver D f T) (coordinate_low axis z) ot)

      from : is_positive (opposite T) ≡ false
      from = sym (two_signs (opposite (along_of axis z)) (opposite T) D z.d h z_over (
          solve golden (along_of axis z ∷ whole D ∷ []) (⊖_ (x_ 0) ⊗ x_ 1) (⊖_ (x_ 0 ⊗ x_ 1)) refl
          ∙ (ap opposite raw_over ∙ solve golden (T ∷ whole z.d ∷ []) (⊖_ (x_ 0 ⊗ x_ 1)) (⊖_ (x_ 0) ⊗ x_ 1) refl))) ∙ inside.from

      starts : IsInside W.size T
      starts = (
        elim (positive_or_not T) [
          | inl e ↦ inl e
          | inr (inl e) ↦ inr e.above
          | inr (inr e) ↦ both (is_positive (opposite T)) e.above from
        ],
        sym (below_is T D (frame_on axis r).size W.size frame.size_over frame.size) ∙ (sym (below_same (along_of axis z) T z.d D (frame_on axis r).size z_over h raw_over) ∙ inside.below),
      )

      fine_is : (i j : ℕ) → letter p (reached_along axis r z i j) ≡ letter p (point_at axis (orbit L M T i) (orbit O N S j) D)
      fine_is i j = letter_along axis p z D h L M T O N S hl hm ht ho hn hs ol om ot oo on os i j

      size_is : length_of axis p'.torus ≡ (frame_on axis r).size
      size_is = ap (length_of axis) torus_is ∙ framed_length axis r

      shift_is : move_of axis p'.torus ≡ (frame_on axis r).step
      shift_is = ap (move_of axis) torus_is ∙ framed_move axis r

      other_is : length_of (other axis) p'.torus ≡ length_of (other axis) r
      other_is = ap (length_of (other axis)) torus_is ∙ framed_other axis r

      across_is : move_of (other axis) p'.torus ≡ move_of (other axis) r
      across_is = ap (move_of (other axis)) torus_is ∙ framed_across axis r

      abbrev HasDivisor : Fraction → Type 0
      HasDivisor f = pos 0 <ℤ f.d

      coarse_is : (k j : ℕ) → letter p' (reached_along axis p'.torus z k j) ≡ letter p' (point_at axis (orbit W.size W.move T k) (orbit O N S j) D)
      coarse_is k j = letter_along axis p' z D h W.size W.move T O N S
          (subst HasDivisor (sym size_is) frame.size_over) (subst HasDivisor (sym shift_is) shift.1) ht
          (subst HasDivisor (sym other_is) ho) (subst HasDivisor (sym across_is) hn) hs
          (subst (λ (f : Fraction). IsOver D f W.size) (sym size_is) frame.size) (subst (λ (f : Fraction). IsOver D f W.move) (sym shift_is) shift.0) ot
          (subst (λ (f : Fraction). IsOver D f O) (sym other_is) oo) (subst (λ (f : Fraction). IsOver D f N) (sym across_is) on) os k j

      blocks_is : (n : ℕ) → block_lines axis r z n ≡ returns W L M T n
      blocks_is n = same_returns ((length_of axis r).d *ℤ ((move_of axis r).d *ℤ t.d)) D (three_above lowest_is (length_of axis r).d (move_of axis r).d t.d hl hm ht) h
          (spread (length_of axis r) ((move_of axis r).d *ℤ t.d)) (spread (move_of axis r) ((length_of axis r).d *ℤ t.d)) (spread t ((length_of axis r).d *ℤ (move_of axis r).d)) L M T
          (length_spread lowest_is D h (length_of axis r) (move_of axis r) t L M T hl hm ht ol om ot)
          (move_spread lowest_is D h (length_of axis r) (move_of axis r) t L M T hl hm ht ol om ot)
          (start_spread lowest_is D h (length_of axis r) (move_of axis r) t L M T hl hm ht ol om ot) n

      abbrev ys : ℕ → Whole
      ys j = orbit O N S j

      law_at : (q : Grid) → IsCode p' z q
          → IsCode p z (code_along axis p z (block_lines axis r z (along axis q)) (across axis q))
          × IsImage (pieces (morphism axis p)) (lines axis q) (lines axis (code_along axis p z (block_lines axis r z (along axis q)) (across axis q)))
      unfolding morphism
      law_at q c =
          let n = along axis q in
          let m = across axis q in
          let size = along_some axis q c.grid in
          let count = blocks_is n in
          let known : (k j : ℕ) → k < n → j < m → letter p' (point_at axis (orbit W.size W.move T k) (ys j) D) ≡ Only (cell_at axis q k j) =
          λ k j lk lj. sym (coarse_is k j) ∙ code_in axis p' z q c k j lk lj in
          let all : (k j : ℕ) → k < n → j < m → IsDefined (letter p' (point_at axis (orbit W.size W.move T k) (ys j) D)) =
          λ k j lk lj. defined_from (letter p' (point_at axis (orbit W.size W.move T k) (ys j) D)) (cell_at axis q k j) (known k j lk lj) in
          let l = law least_is axis D h p (all_directed p.regions sound.directed) L M hl ol hm om some less half frame m size.1 ys n T starts all in
          let coarse_lines : listed n (λ k. listed m (λ j. number_in (letter p' (point_at axis (orbit W.size W.move T k) (ys j) D)))) ≡ lines axis q =
          listed_same n (λ k. listed m (λ j. number_in (letter p' (point_at axis (orbit W.size W.move T k) (ys j) D)))) (λ k. listed m (λ j. cell_at axis q k j)) (λ k lk.
          listed_same m (λ j. number_in (letter p' (point_at axis (orbit W.size W.move T k) (ys j) D))) (λ j. cell_at axis q k j) (λ j lj.
          sym (number_from (letter p' (point_at axis (orbit W.size W.move T k) (ys j) D)) (cell_at axis q k j) (known k j lk lj)))) in
          let fine_lines : listed (returns W L M T n) (λ i. listed m (λ j. number_in (letter p (point_at axis (orbit L M T i) (ys j) D)))) ≡ lines axis (code_along axis p z (block_lines axis r z n) m) =
          listed_same (returns W L M T n) (λ i. listed m (λ j. number_in (letter p (point_at axis (orbit L M T i) (ys j) D)))) (λ i. listed m (λ j. number_in (letter p (reached_along axis r z i j)))) (λ i li.
          listed_same m (λ j. number_in (letter p (point_at axis (orbit L M T i) (ys j) D))) (λ j. number_in (letter p (reached_along axis r z i j))) (λ j lj. ap number_in (sym (fine_is i j))))
          ∙ (ap (λ (k : ℕ). listed k (λ i. listed m (λ j. number_in (letter p (reached_along axis r z i j))))) (sym count) ∙ sym (code_lines axis p z (block_lines axis r z n) m)) in
          let image : IsImage (map piece (images axis p)) (lines axis q) (lines axis (code_along axis p z (block_lines axis r z n) m)) =
          subst (λ (ls : List (List ℕ)). IsImage (map piece (images axis p)) (lines axis q) ls) fine_lines
          (subst (λ (qs : List (List ℕ)). IsImage (map piece (images axis p)) qs (listed (returns W L M T n) (λ i. listed m (λ j. number_in (letter p (point_at axis (orbit L M T i) (ys j) D)))))) coarse_lines l.1) in
          let enough : 1 ≤ block_lines axis r z n = (let a = returns_some W L M T n in let b = size.0 in omega arith) in (
            in_code axis p z (block_lines axis r z n) m enough size.1 (λ i j li lj. subst IsDefined (sym (fine_is i j)) (l.0 i j (omega arith) lj)),
            image,
          )

      converse_at : (g : Grid) → IsCode p z g → (n : ℕ) → 1 ≤ n → block_lines axis r z n < along axis g → IsCode p' z (code_along axis p' z n (across axis g))
      converse_at g c n sn lt =
          let m = across axis g in
          let size = along_some axis g c.grid in
          let count = blocks_is n in
          let all : (i j : ℕ) → i < along axis g → j < m → IsDefined (letter p (point_at axis (orbit L M T i) (ys j) D)) =
          λ i j li lj. defined_from (letter p (point_at axis (orbit L M T i) (ys j) D)) (cell_at axis g i j) (sym (fine_is i j) ∙ code_in axis p z g c i j li lj) in
          let l = converse least_is axis D h p (all_directed p.regions sound.directed) L M hl ol hm om some less half frame m size.1 ys n (along axis g) T starts all (omega arith) in
          in_code axis p' z n m sn size.1 (λ k j lk lj. subst IsDefined (sym (coarse_is k j)) (l k j lk lj))

    -- ---- one common denominator

    abbrev a : ℤ
    a = (length_of axis r).d *ℤ (move_of axis r).d

    abbrev b : ℤ
    b = (length_of (other axis) r).d *ℤ (move_of (other axis) r).d

    abbrev c : ℤ
    c = t.d *ℤ s.d

    abbrev whole_d : ℤ
    whole_d = a *ℤ (b *ℤ c)

    d_above : pos 0 <ℤ whole_d
    d_above = three_above lowest_is a b c (mul_above (length_of axis r).d (move_of axis r).d hl hm) (mul_above (length_of (other axis) r).d (move_of (other axis) r).d ho hn) (mul_above t.d s.d ht hs)

    first_over : (f g : Fraction) → IsOver (f.d *ℤ g.d) f (times (top f) (whole g.d))
    first_over f g = more_over f.d g.d f (top f) (own_over f)

    second_over : (f g : Fraction) → IsOver (f.d *ℤ g.d) g (times (top g) (whole f.d))
    second_over f g = more_behind g.d f.d g (top g) (own_over g)

    in_first : (f : Fraction) (X : Whole) → IsOver a f X → IsOver whole_d f (times X (whole (b *ℤ c)))
    in_first f X o = more_over a (b *ℤ c) f X o

    in_second : (f : Fraction) (X : Whole) → IsOver b f X → IsOver whole_d f (times (times X (whole c)) (whole a))
    in_second f X o = more_behind (b *ℤ c) a f (times X (whole c)) (more_over b c f X o)

    in_third : (f : Fraction) (X : Whole) → IsOver c f X → IsOver whole_d f (times (times X (whole b)) (whole a))
    in_third f X o = more_behind (b *ℤ c) a f (times X (whole b)) (more_behind c b f X o)

    pub coded : (q : Grid) → IsCode p' z q
        → IsCode p z (code_along axis p z (block_lines axis r z (along axis q)) (across axis q))
        × IsImage (pieces (morphism axis p)) (lines axis q) (lines axis (code_along axis p z (block_lines axis r z (along axis q)) (across axis q)))
    coded q k = law_at whole_d d_above _ _ _ _ _ _
        (in_first (length_of axis r) _ (first_over (length_of axis r) (move_of axis r))) (in_first (move_of axis r) _ (second_over (length_of axis r) (move_of axis r))) (in_third t _ (first_over t s))
        (in_second (length_of (other axis) r) _ (first_over (length_of (other axis) r) (move_of (other axis) r))) (in_second (move_of (other axis) r) _ (second_over (length_of (other axis) r) (move_of (other axis) r))) (in_third s _ (second_over t s)) q k

    pub decoded : (g : Grid) → IsCode p z g → (n : ℕ) → 1 ≤ n → block_lines axis r z n < along axis g → IsCode p' z (code_along axis p' z n (across axis g))
    decoded g k n sn lt = converse_at whole_d d_above _ _ _ _ _ _
        (in_first (length_of axis r) _ (first_over (length_of axis r) (move_of axis r))) (in_first (move_of axis r) _ (second_over (length_of axis r) (move_of axis r))) (in_third t _ (first_over t s))
        (in_second (length_of (other axis) r) _ (first_over (length_of (other axis) r) (move_of (other axis) r))) (in_second (move_of (other axis) r) _ (second_over (length_of (other axis) r) (move_of (other axis) r))) (in_third s _ (second_over t s)) g k n sn lt
