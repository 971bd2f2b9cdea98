-- The law of desubstitution on rectangles: exactly one coarse rectangle, and it is valid.
use Rattle.std.proofs.Common.{arith, ◌≡◌, ◌≤◌, ◌<◌, ◌+◌, ◌*◌, ◌/◌, ◌%◌, ℕ, zero, suc, List, [], ◌∷◌, length, get_or, Some, slice_get, Bool, true, refl, sym, ◌∙◌, ap, inl, inr, subst}
use Rattle.wt_grid.specs.Axes.{other}
use Rattle.wt_grid.specs.declared.image.Image.TheVariants.{One as Single, Two as Double}
use Rattle.wt_grid.specs.declared.image.Image.{Image}
use Rattle.wt_grid.specs.declared.axis.Side.{Side}
use Rattle.wt_grid.specs.declared.axis.Axis.TheVariants.{One, Two}
use Rattle.wt_grid.specs.declared.axis.Axis.{Axis}
use Rattle.std.proofs.lemmas.List.{ext_get_or}
use Rattle.std.proofs.Math.Nat.{div-lt_iff_lt-mul}
use Rattle.wt_grid.specs.Lines.{IsGood, IsImage, Singles, Pairs}
use Rattle.wt_grid.specs.Grid.{Grid, cell, IsGrid, along, across, at, listed, lines}
use Rattle.wt_grid.proofs.Bridge.{length-listed, get_or-listed}
use Rattle.wt_grid.proofs.Coarse.{first, last, MatchAcross, coarse_field}
use Rattle.wt_grid.specs.Images.{LineBelow, LinesBelow}
use Rattle.wt_grid.specs.Cuts.{cut, step_table}
use Rattle.wt_grid.specs.Parts.{AllBelow, IsValid}
use Rattle.wt_grid.proofs.Law.{some_coarse, one_coarse, cut_field, cut_length, cut_long, coarse_grid}
use Rattle.wt_grid.proofs.Grids.{long_lines, length_lines, filled_long, field_lines, lines_field}

-- A rectangle is known by its cells.
place : (w h k : ℕ) → 1 ≤ w → k < w * h → (k % w < w) × (k / w < h) × (k / w * w + k % w ≡ k)
place w h k lw lt = (omega arith, (div-lt_iff_lt-mul {k = w} {x = k} {y = h} (omega arith)).1 (omega arith), omega arith)

same_record : (w w' h h' : ℕ) (c c' : List ℕ) → w ≡ w' → h ≡ h' → c ≡ c' → Path Grid (record { width = w; height = h; cells = c }) (record { width = w'; height = h'; cells = c' })
same_record w w' h h' c c' e f g = cc

pub same_cells : (g h : Grid) → IsGrid g → IsGrid h → g.width ≡ h.width → g.height ≡ h.height → ((x y : ℕ) → x < g.width → y < g.height → cell g x y ≡ cell h x y) → g ≡ h
same_cells g h ig ih w ht e =
    let size : length g.cells ≡ length h.cells = ig.whole ∙ (rw (w, ht) refl ∙ sym ih.whole) in
    let same : g.cells ≡ h.cells = ext_get_or 0 g.cells h.cells size (λ k lt.
    let p = place g.width g.height k ig.wide (let z : length g.cells ≡ g.width * g.height = ig.whole in omega arith) in
    let c = e (k % g.width) (k / g.width) p.0 p.1 in
    let P : ℕ → ℕ → Type 0 = λ a b. get_or g.cells a 0 ≡ get_or h.cells b 0 in
    subst (λ (b : ℕ). P k b) p.2 (subst (λ (a : ℕ). P a (k / g.width * g.width + k % g.width)) p.2
    (let Q : ℕ → Type 0 = λ v. get_or g.cells (k / g.width * g.width + k % g.width) 0 ≡ get_or h.cells (k / g.width * v + k % g.width) 0 in subst Q (sym w) c))) in
    same_record g.width h.width g.height h.height g.cells h.cells w ht same

-- and by its lines
pub first_line : (axis : Axis) (g : Grid) → 1 ≤ along axis g → length (get_or (lines axis g) 0 []) ≡ across axis g
first_line axis g lt = ap length (get_or-listed (along axis g) 0 (λ i. listed (across axis g) (λ j. at axis g i j)) [] lt) ∙ length-listed (across axis g) (λ j. at axis g 0 j)

pub line_cell : (axis : Axis) (g : Grid) (i j : ℕ) → i < along axis g → j < across axis g → get_or (get_or (lines axis g) i []) j 0 ≡ at axis g i j
line_cell axis g i j li lj =
    ap (λ (u : List ℕ). get_or u j 0) (get_or-listed (along axis g) i (λ i. listed (across axis g) (λ j. at axis g i j)) [] li)
    ∙ get_or-listed (across axis g) j (λ j. at axis g i j) 0 lj

pub wide_along : (axis : Axis) (g : Grid) → IsGrid g → 1 ≤ along axis g
wide_along One g i = i.wide
wide_along Two g i = i.high

pub wide_across : (axis : Axis) (g : Grid) → IsGrid g → 1 ≤ across axis g
wide_across One g i = i.high
wide_across Two g i = i.wide

pub same_lines : (axis : Axis) (g h : Grid) → IsGrid g → IsGrid h → lines axis g ≡ lines axis h → g ≡ h
same_lines axis g h ig ih e =
    let n : along axis g ≡ along axis h = sym (length_lines axis g) ∙ (ap length e ∙ length_lines axis h) in
    let m : across axis g ≡ across axis h = sym (first_line axis g (wide_along axis g ig)) ∙ (ap (λ (ls : List (List ℕ)). length (get_or ls 0 [])) e ∙ first_line axis h (wide_along axis h ih)) in
    by_axis axis g h ig ih n m (λ i j li lj. sym (line_cell axis g i j li lj) ∙ (ap (λ (ls : List (List ℕ)). get_or (get_or ls i []) j 0) e ∙ line_cell axis h i j (omega arith) (omega arith)))
  where
    by_axis : (axis : Axis) (g h : Grid) → IsGrid g → IsGrid h → along axis g ≡ along axis h → across axis g ≡ across axis h
        → ((i j : ℕ) → i < along axis g → j < across axis g → at axis g i j ≡ at axis h i j) → g ≡ h
    by_axis One g h ig ih n m e = same_cells g h ig ih n m e
    by_axis Two g h ig ih n m e = same_cells g h ig ih m n (λ x y lx ly. e y x ly lx)

-- Each coarse tile has an image.
some_place : {A : Type 0} (xs : List A) (i : ℕ) (x : A) → slice_get xs i ≡ Some x → i < length xs
some_place [] i x e = absurd (cc e)
some_place (y ∷ xs) zero x e = omega arith
some_place (y ∷ xs) (suc i) x e = let r = some_place xs i x e in omega arith

in_singles : (im : List Image) (q u : List ℕ) → Singles im q u → LineBelow (length im) q
in_singles im [] u s = tt
in_singles im (i ∷ is) [] s = absurd s
in_singles im (i ∷ is) (a ∷ as') s = (some_place im i (Single a) s.0, in_singles im is as' s.1)

in_pairs : (im : List Image) (q u v : List ℕ) → Pairs im q u v → LineBelow (length im) q
in_pairs im [] u v s = tt
in_pairs im (i ∷ is) [] v s = absurd s
in_pairs im (i ∷ is) (a ∷ as') [] s = absurd s
in_pairs im (i ∷ is) (a ∷ as') (b ∷ bs) s = (some_place im i (Double a b) s.0, in_pairs im is as' bs s.1)

pub in_image : (im : List Image) (qs ls : List (List ℕ)) → IsImage im qs ls → LinesBelow (length im) qs
in_image im [] ls i = tt
in_image im (q ∷ qs) [] i = absurd i
in_image im (q ∷ qs) (u ∷ []) i = (in_singles im q u i.0, in_image im qs [] i.1)
in_image im (q ∷ qs) (u ∷ v ∷ ls) i = elim i [
  | inl s ↦ (in_singles im q u s.0, in_image im qs (v ∷ ls) s.1)
  | inr p ↦ (in_pairs im q u v p.0, in_image im qs ls p.1)
]

cell_in : (n : ℕ) (u : List ℕ) (j : ℕ) → LineBelow n u → j < length u → get_or u j 0 < n
cell_in n [] j h lt = absurd (omega arith)
cell_in n (x ∷ u) zero h lt = h.0
cell_in n (x ∷ u) (suc j) h lt = cell_in n u j h.1 (omega arith)

line_in : (n : ℕ) (ls : List (List ℕ)) (i : ℕ) → LinesBelow n ls → i < length ls → LineBelow n (get_or ls i [])
line_in n [] i h lt = absurd (omega arith)
line_in n (u ∷ ls) zero h lt = h.0
line_in n (u ∷ ls) (suc i) h lt = line_in n ls i h.1 (omega arith)

at_below : (axis : Axis) (n : ℕ) (g : Grid) → LinesBelow n (lines axis g) → (i j : ℕ) → i < along axis g → j < across axis g → at axis g i j < n
at_below axis n g h i j li lj =
    let l = line_in n (lines axis g) i h (let e = length_lines axis g in omega arith) in
    let k : length (get_or (lines axis g) i []) ≡ across axis g = ap length (get_or-listed (along axis g) i (λ i. listed (across axis g) (λ j. at axis g i j)) [] li) ∙ length-listed (across axis g) (λ j. at axis g i j) in
    let c = cell_in n (get_or (lines axis g) i []) j l (omega arith) in
    let e = line_cell axis g i j li lj in
    omega arith

pub below_lines : (axis : Axis) (n : ℕ) (g : Grid) → LinesBelow n (lines axis g) → AllBelow n g
below_lines One n g h = λ x y lx ly. at_below One n g h x y lx ly
below_lines Two n g h = λ x y lx ly. at_below Two n g h y x ly lx

module _ (axis : Axis) (side : Side) (allows fine coarse : Axis → ℕ → ℕ → Bool) (marker : ℕ → Bool) (im : List Image)
    (good : IsGood (step_table side (allows axis) (allows (other axis)) marker im))
    (joins : (i j : ℕ) (p r : Image) → slice_get im i ≡ Some p → slice_get im j ≡ Some r → fine axis (last p) (first r) ≡ true → coarse axis i j ≡ true)
    (stacks : (i j : ℕ) (p r : Image) → slice_get im i ≡ Some p → slice_get im j ≡ Some r → MatchAcross (fine (other axis)) p r → coarse (other axis) i j ≡ true) where
  -- the coarse rectangle of a core
  pub some_grid : (c : Grid) → IsValid allows c → IsValid fine c → 3 ≤ along axis c → 1 ≤ across axis c
      → (q : Grid) × IsGrid q × AllBelow (length im) q × IsImage im (lines axis q) (cut side marker (lines axis c)) × IsValid coarse q
  some_grid c va vf la lc =
      let ls = lines axis c in
      let L = cut side marker ls in
      let long = long_lines axis c in
      let r = some_coarse side (allows axis) (allows (other axis)) marker im good ls (filled_long (across axis c) ls lc long) (field_lines allows axis c va) in
      let n : 1 ≤ length L = (let a = cut_length side marker ls in let b = length_lines axis c in omega arith) in
      let g = coarse_grid axis im (across axis c) r.0 L lc n (cut_long side (across axis c) marker ls long) r.1 in
      let i : IsImage im (lines axis g.0) L = (let P : List (List ℕ) → Type 0 = λ qs. IsImage im qs L in subst P (sym g.2) r.1) in
      let f = coarse_field im (fine axis) (fine (other axis)) (coarse axis) (coarse (other axis)) joins stacks L (lines axis g.0) i (cut_field side (fine axis) (fine (other axis)) marker ls (field_lines fine axis c vf)) in
      (g.0, g.1, below_lines axis (length im) g.0 (in_image im (lines axis g.0) L i), i, lines_field coarse axis g.0 f)

  -- and no other
  pub one_grid : (c q r : Grid) → 1 ≤ across axis c → IsGrid q → IsGrid r
      → IsImage im (lines axis q) (cut side marker (lines axis c)) → IsImage im (lines axis r) (cut side marker (lines axis c)) → q ≡ r
  one_grid c q r lc iq ir i j =
      same_lines axis q r iq ir (one_coarse side (allows axis) (allows (other axis)) marker im good (lines axis c) (lines axis q) (lines axis r) (filled_long (across axis c) (lines axis c) lc (long_lines axis c)) i j)
