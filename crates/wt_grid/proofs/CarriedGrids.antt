-- A period of a core is a period of its coarse rectangle.
use Rattle.std.proofs.Common.{arith, ◌≡◌, ◌≤◌, ◌<◌, ◌+◌, ℕ, zero, suc, List, [], ◌∷◌, length, take, drop, get_or, Bool, refl, sym, ap, ◌∙◌, subst}
use Rattle.wt_grid.specs.Axes.{other}
use Rattle.wt_grid.specs.declared.image.Image.{Image}
use Rattle.wt_grid.specs.declared.axis.Side.{Side}
use Rattle.wt_grid.specs.declared.axis.Axis.{Axis}
use Rattle.std.proofs.lemmas.List.{get_or-drop, length-drop, length-take-le}
use Rattle.wt_grid.specs.Lines.{IsGood, IsImage, AllLong}
use Rattle.wt_grid.specs.Cuts.{cut, step_table}
use Rattle.wt_grid.specs.Grid.{Grid, IsGrid, along, across, at, lines}
use Rattle.wt_grid.specs.Parts.{core, IsValid}
use Rattle.wt_grid.specs.Shifts.{Same, Meets, Repeats, IsRepeated}
use Rattle.wt_grid.specs.Images.{image_lines}
use Rattle.wt_grid.proofs.Parts.{at_core, along_core, across_core}
use Rattle.wt_grid.proofs.Grids.{field_lines, long_lines, length_lines, long_get}
use Rattle.wt_grid.proofs.Rectangles.{line_cell}
use Rattle.wt_grid.proofs.ImageGrids.{image_count}
use Rattle.wt_grid.proofs.CarriedSides.{shift_to, shift_from, carry}

-- Lines that meet, cell by cell.

same_to : (xs ys : List ℕ) (j : ℕ) → Same xs ys → j < length xs → j < length ys → get_or xs j 0 ≡ get_or ys j 0
same_to [] ys j s lx ly = absurd (omega arith)
same_to (x ∷ xs) [] j s lx ly = absurd (omega arith)
same_to (x ∷ xs) (y ∷ ys) zero s lx ly = s.0
same_to (x ∷ xs) (y ∷ ys) (suc j) s lx ly = same_to xs ys j s.1 (omega arith) (omega arith)

same_from : (xs ys : List ℕ) → ((j : ℕ) → j < length xs → j < length ys → get_or xs j 0 ≡ get_or ys j 0) → Same xs ys
same_from [] ys h = tt
same_from (x ∷ xs) [] h = tt
same_from (x ∷ xs) (y ∷ ys) h = (h 0 (omega arith) (omega arith), same_from xs ys (λ j lx ly. h (suc j) (omega arith) (omega arith)))

meets_to : (a b : ℕ) (u v : List ℕ) (j : ℕ) → Meets a b u v → j + a < length u → j + b < length v → get_or u (j + a) 0 ≡ get_or v (j + b) 0
meets_to a b u v j m lu lv =
    let eu = length-drop a u in let ev = length-drop b v in
    let ca : a + j ≡ j + a = omega arith in
    let cb : b + j ≡ j + b = omega arith in
    let r = same_to (drop a u) (drop b v) j m (omega arith) (omega arith) in
    ap (λ (k : ℕ). get_or u k 0) (sym ca) ∙ (sym (get_or-drop a u j 0) ∙ (r ∙ (get_or-drop b v j 0 ∙ ap (λ (k : ℕ). get_or v k 0) cb)))

meets_from : (a b : ℕ) (u v : List ℕ) → ((j : ℕ) → j + a < length u → j + b < length v → get_or u (j + a) 0 ≡ get_or v (j + b) 0) → Meets a b u v
meets_from a b u v h = same_from (drop a u) (drop b v) (λ j lx ly.
    let eu = length-drop a u in let ev = length-drop b v in
    let ca : a + j ≡ j + a = omega arith in
    let cb : b + j ≡ j + b = omega arith in
    get_or-drop a u j 0 ∙ (ap (λ (k : ℕ). get_or u k 0) ca ∙ (h j (omega arith) (omega arith) ∙ (ap (λ (k : ℕ). get_or v k 0) (sym cb) ∙ sym (get_or-drop b v j 0)))))

-- A rectangle repeats itself where its lines do.

pub repeated_lines : (axis : Axis) (d a b : ℕ) (g : Grid) → IsRepeated axis d a b g → Repeats a b d (lines axis g)
repeated_lines axis d a b g h = shift_from (Meets a b) (lines axis g) (drop d (lines axis g)) (λ i lx ly.
    let n = length_lines axis g in
    let e = length-drop d (lines axis g) in
    let long = long_lines axis g in
    let di : d + i ≡ i + d = omega arith in
    let there : get_or (drop d (lines axis g)) i [] ≡ get_or (lines axis g) (i + d) [] = get_or-drop d (lines axis g) i [] ∙ ap (λ (k : ℕ). get_or (lines axis g) k []) di in
    subst (λ (v : List ℕ). Meets a b (get_or (lines axis g) i []) v) (sym there)
    (meets_from a b (get_or (lines axis g) i []) (get_or (lines axis g) (i + d) []) (λ j lu lv.
    let mu = long_get (across axis g) (lines axis g) i long lx in
    let mv = long_get (across axis g) (lines axis g) (i + d) long (omega arith) in
    line_cell axis g i (j + a) (omega arith) (omega arith) ∙ (h i j (omega arith) (omega arith) (omega arith) ∙ sym (line_cell axis g (i + d) (j + b) (omega arith) (omega arith))))))

pub lines_repeated : (axis : Axis) (d a b : ℕ) (g : Grid) → Repeats a b d (lines axis g) → IsRepeated axis d a b g
lines_repeated axis d a b g h i j li la lb =
    let n = length_lines axis g in
    let e = length-drop d (lines axis g) in
    let long = long_lines axis g in
    let di : d + i ≡ i + d = omega arith in
    let there : get_or (drop d (lines axis g)) i [] ≡ get_or (lines axis g) (i + d) [] = get_or-drop d (lines axis g) i [] ∙ ap (λ (k : ℕ). get_or (lines axis g) k []) di in
    let m : Meets a b (get_or (lines axis g) i []) (get_or (lines axis g) (i + d) []) = subst (λ (v : List ℕ). Meets a b (get_or (lines axis g) i []) v) there (shift_to (Meets a b) (lines axis g) (drop d (lines axis g)) i h (omega arith) (omega arith)) in
    let mu = long_get (across axis g) (lines axis g) i long (omega arith) in
    let mv = long_get (across axis g) (lines axis g) (i + d) long (omega arith) in
    sym (line_cell axis g i (j + a) (omega arith) la)
    ∙ (meets_to a b (get_or (lines axis g) i []) (get_or (lines axis g) (i + d) []) j m (omega arith) (omega arith) ∙ line_cell axis g (i + d) (j + b) li lb)

-- A core repeats itself as its rectangle does.
pub core_repeated : (axis : Axis) (r d a b : ℕ) (g : Grid) → IsRepeated axis d a b g → IsRepeated axis d a b (core r g)
core_repeated axis r d a b g h i j li la lb =
    let na = along_core axis r g in
    let nc = across_core axis r g in
    let ea : r + (j + a) ≡ (r + j) + a = omega arith in
    let eb : r + (j + b) ≡ (r + j) + b = omega arith in
    let ed : r + (i + d) ≡ (r + i) + d = omega arith in
    at_core axis r g i (j + a) (omega arith) la
    ∙ (ap (λ (k : ℕ). at axis g (r + i) k) ea
    ∙ (h (r + i) (r + j) (omega arith) (omega arith) (omega arith)
    ∙ (ap (λ (k : ℕ). at axis g k ((r + j) + b)) (sym ed)
    ∙ (ap (λ (k : ℕ). at axis g (r + (i + d)) k) (sym eb) ∙ sym (at_core axis r g (i + d) (j + b) li lb)))))

-- what a period of a core becomes on its coarse rectangle
pub record IsCarried (axis : Axis) (im : List Image) (d a b : ℕ) (q : Grid) (n : ℕ) : Type 0 where
  pub few : n ≤ along axis q
  pub repeated : IsRepeated axis n a b q
  -- n coarse lines fill d lines, wherever they begin
  pub filled : (k : ℕ) → k + n ≤ along axis q → length (image_lines im (take n (drop k (lines axis q)))) ≡ d
  pub shorter : n ≤ d
  pub doubled : d ≤ n + n

pub first_long : (m : ℕ) (ls : List (List ℕ)) → 1 ≤ length ls → AllLong m ls → length (get_or ls 0 []) ≡ m
first_long m [] le h = absurd (omega arith)
first_long m (u ∷ ls) le h = h.0

module _ (axis : Axis) (side : Side) (allows : Axis → ℕ → ℕ → Bool) (marker : ℕ → Bool) (im : List Image)
    (good : IsGood (step_table side (allows axis) (allows (other axis)) marker im)) where
  pub carried_grid : (c q : Grid) (d a b : ℕ) → IsValid allows c → IsGrid q → IsImage im (lines axis q) (cut side marker (lines axis c))
      → d + 3 ≤ along axis c → a < across axis c → b < across axis c → IsRepeated axis d a b c → (n : ℕ) × IsCarried axis im d a b q n
  carried_grid c q d a b v g i le la lb h =
      let ls = lines axis c in
      let m = across axis c in
      let long = long_lines axis c in
      let n = length_lines axis c in
      let nq = length_lines axis q in
      let r = carry side (allows axis) (allows (other axis)) marker im good a b m d ls (lines axis q) la lb long (field_lines allows axis c v) (omega arith) (repeated_lines axis d a b c h) i in
      let k = r.0 in
      let few : k ≤ along axis q = (let f = r.1.0 in omega arith) in
      let f0 = r.1.2 0 (omega arith) in
      let count = image_count im (take k (lines axis q)) in
      let lk = length-take-le k (lines axis q) (omega arith) in (
        k,
        record {
          few = few;
          repeated = lines_repeated axis k a b q r.1.1;
          filled = λ i li. r.1.2 i (omega arith);
          shorter = omega (arith, count.0, f0, lk);
          doubled = omega (arith, count.1, f0, lk);
        },
      )
