-- Images in which each coarse tile stands for one tile, cell by cell.
use Rattle.std.proofs.Common.{arith, ◌≡◌, ◌<◌, ◌≤◌, ℕ, zero, suc, List, [], ◌∷◌, length, get_or, Some, slice_get, refl, sym, ◌∙◌, ap, subst, inl, inr}
use Rattle.wt_grid.proofs.CarriedGrids.{first_long}
use Rattle.wt_grid.specs.Axes.{other}
use Rattle.wt_grid.specs.declared.image.Image.TheVariants.{One as Single, Two as Double}
use Rattle.wt_grid.specs.declared.image.Image.{Image}
use Rattle.wt_grid.specs.declared.axis.Axis.{Axis}
use Rattle.wt_grid.specs.Lines.{Singles, Pairs, IsImage, AllLong}
use Rattle.wt_grid.specs.Grid.{Grid, IsGrid, along, across, at, listed, lines}
use Rattle.wt_grid.proofs.Grids.{long_lines, length_lines, long_coarse, long_get}
use Rattle.wt_grid.proofs.Rectangles.{line_cell, wide_along}
use Rattle.wt_grid.proofs.TraceSteps.{at_other, along_other, across_other}

-- each line stands for the line at its place
abbrev pub AllSingles : List Image → List (List ℕ) → List (List ℕ) → Type 0
AllSingles im [] [] = Unit {0}
AllSingles im [] (u ∷ ls) = ⊥
AllSingles im (q ∷ qs) [] = ⊥
AllSingles im (q ∷ qs) (u ∷ ls) = Singles im q u × AllSingles im qs ls

-- no piece has two tiles
abbrev pub NoPairs : List Image → Type 0
NoPairs im = (i a b : ℕ) → slice_get im i ≡ Some (Double a b) → ⊥

no_pair_line : (im : List Image) (q u v : List ℕ) → NoPairs im → 1 ≤ length u → Pairs im q u v → ⊥
no_pair_line im [] [] v n le p = omega arith
no_pair_line im [] (a ∷ as') v n le p = p
no_pair_line im (i ∷ is) [] v n le p = p
no_pair_line im (i ∷ is) (a ∷ as') [] n le p = p
no_pair_line im (i ∷ is) (a ∷ as') (b ∷ bs) n le p = n i a b p.0

pub all_singles : (im : List Image) (m : ℕ) (qs ls : List (List ℕ)) → NoPairs im → 1 ≤ m → AllLong m ls → IsImage im qs ls → AllSingles im qs ls
all_singles im m [] [] n le l i = tt
all_singles im m [] (u ∷ ls) n le l i = absurd i
all_singles im m (q ∷ qs) [] n le l i = absurd i
all_singles im m (q ∷ qs) (u ∷ []) n le l i = (i.0, all_singles im m qs [] n le l.1 i.1)
all_singles im m (q ∷ qs) (u ∷ v ∷ ls) n le l i = elim i [
  | inl s ↦ (s.0, all_singles im m qs (v ∷ ls) n le l.1 s.1)
  | inr p ↦ absurd (no_pair_line im q u v n (let h : length u ≡ m = l.0 in omega arith) p.0)
]

pub singles_image : (im : List Image) (qs ls : List (List ℕ)) → AllSingles im qs ls → IsImage im qs ls
singles_image im [] [] s = tt
singles_image im [] (u ∷ ls) s = absurd s
singles_image im (q ∷ qs) [] s = absurd s
singles_image im (q ∷ qs) (u ∷ []) s = (s.0, singles_image im qs [] s.1)
singles_image im (q ∷ qs) (u ∷ v ∷ ls) s = inl (s.0, singles_image im qs (v ∷ ls) s.1)

same_length : (im : List Image) (qs ls : List (List ℕ)) → AllSingles im qs ls → length qs ≡ length ls
same_length im [] [] s = refl
same_length im [] (u ∷ ls) s = absurd s
same_length im (q ∷ qs) [] s = absurd s
same_length im (q ∷ qs) (u ∷ ls) s = ap suc (same_length im qs ls s.1)

single_at : (im : List Image) (q u : List ℕ) (j : ℕ) → Singles im q u → j < length u → slice_get im (get_or q j 0) ≡ Some (Single (get_or u j 0))
single_at im [] [] j s lt = absurd (omega arith)
single_at im [] (a ∷ as') j s lt = absurd s
single_at im (i ∷ is) [] j s lt = absurd s
single_at im (i ∷ is) (a ∷ as') zero s lt = s.0
single_at im (i ∷ is) (a ∷ as') (suc j) s lt = single_at im is as' j s.1 (omega arith)

lines_at : (im : List Image) (qs ls : List (List ℕ)) (i : ℕ) → AllSingles im qs ls → i < length ls → Singles im (get_or qs i []) (get_or ls i [])
lines_at im [] [] i s lt = absurd (omega arith)
lines_at im [] (u ∷ ls) i s lt = absurd s
lines_at im (q ∷ qs) [] i s lt = absurd s
lines_at im (q ∷ qs) (u ∷ ls) zero s lt = s.0
lines_at im (q ∷ qs) (u ∷ ls) (suc i) s lt = lines_at im qs ls i s.1 (omega arith)

-- each coarse cell stands for the cell at its place
abbrev pub StandsFor : List Image → Axis → Grid → Grid → Type 0
StandsFor im axis q c = (along axis q ≡ along axis c) × (across axis q ≡ across axis c) × ((i j : ℕ) → i < along axis c → j < across axis c → slice_get im (at axis q i j) ≡ Some (Single (at axis c i j)))

pub cells_stand : (im : List Image) (axis : Axis) (q c : Grid) → NoPairs im → IsGrid q → 1 ≤ across axis c → IsImage im (lines axis q) (lines axis c) → StandsFor im axis q c
cells_stand im axis q c n iq le i =
    let long = long_lines axis c in
    let s = all_singles im (across axis c) (lines axis q) (lines axis c) n le long i in
    let lq = long_coarse im (across axis c) (lines axis q) (lines axis c) i long in
    let a : along axis q ≡ along axis c = sym (length_lines axis q) ∙ (same_length im (lines axis q) (lines axis c) s ∙ length_lines axis c) in
    let w = wide_along axis q iq in
    let nq = length_lines axis q in
    let nc = length_lines axis c in
    let b : across axis q ≡ across axis c = sym (first_long (across axis q) (lines axis q) (omega arith) (long_lines axis q)) ∙ first_long (across axis c) (lines axis q) (omega arith) lq in (
      a,
      b,
      λ x y lx ly.
          let r = lines_at im (lines axis q) (lines axis c) x s (omega arith) in
          let m = long_get (across axis c) (lines axis c) x long (omega arith) in
          let k = single_at im (get_or (lines axis q) x []) (get_or (lines axis c) x []) y r (omega arith) in
          ap (slice_get im) (sym (line_cell axis q x y (omega arith) (omega arith))) ∙ (k ∙ ap (λ (z : ℕ). Some (Single z)) (line_cell axis c x y lx ly)),
    )

pub stand_other : (im : List Image) (axis : Axis) (q c : Grid) → StandsFor im axis q c → StandsFor im (other axis) q c
stand_other im axis q c s =
    let a = along_other axis q in
    let b = across_other axis q in
    let x = along_other axis c in
    let y = across_other axis c in (
      a ∙ (s.1 ∙ sym x),
      b ∙ (s.0 ∙ sym y),
      λ i j li lj.
          ap (slice_get im) (at_other axis q i j) ∙ (s.2 j i (omega arith) (omega arith) ∙ ap (λ (z : ℕ). Some (Single z)) (sym (at_other axis c i j))),
    )

singles_listed : (im : List Image) (m : ℕ) (a b : ℕ → ℕ) → ((j : ℕ) → j < m → slice_get im (a j) ≡ Some (Single (b j))) → Singles im (listed m a) (listed m b)
singles_listed im zero a b h = tt
singles_listed im (suc m) a b h = (h 0 (omega arith), singles_listed im m (λ k. a (suc k)) (λ k. b (suc k)) (λ j lt. h (suc j) (omega arith)))

all_listed : (im : List Image) (n m : ℕ) (a b : ℕ → ℕ → ℕ) → ((i j : ℕ) → i < n → j < m → slice_get im (a i j) ≡ Some (Single (b i j))) → AllSingles im (listed n (λ i. listed m (a i))) (listed n (λ i. listed m (b i)))
all_listed im zero m a b h = tt
all_listed im (suc n) m a b h = (singles_listed im m (a 0) (b 0) (λ j lt. h 0 j (omega arith) lt), all_listed im n m (λ i. a (suc i)) (λ i. b (suc i)) (λ i j li lj. h (suc i) j (omega arith) lj))

pub stand_image : (im : List Image) (axis : Axis) (q c : Grid) → StandsFor im axis q c → IsImage im (lines axis q) (lines axis c)
stand_image im axis q c s =
    let r = all_listed im (along axis c) (across axis c) (λ i j. at axis q i j) (λ i j. at axis c i j) s.2 in
    singles_image im (lines axis q) (lines axis c)
    (subst (λ (n : ℕ). AllSingles im (listed n (λ i. listed (across axis q) (λ j. at axis q i j))) (lines axis c)) (sym s.0)
    (subst (λ (m : ℕ). AllSingles im (listed (along axis c) (λ i. listed m (λ j. at axis q i j))) (lines axis c)) (sym s.1) r))
