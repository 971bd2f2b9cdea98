-- Numbers added up over the cells of a rectangle, and over those of its image.
use Rattle.std.proofs.Common.{arith, ◌≡◌, ◌<◌, ◌≤◌, ◌+◌, ◌-◌, ◌*◌, ◌/◌, ◌%◌, ℕ, zero, suc, List, [], ◌∷◌, length, get_or, map, slice_get, Some, inl, inr, refl, sym, ◌∙◌, ap, subst}
use Rattle.wt_grid.specs.declared.image.Image.TheVariants.{One as Single, Two as Double}
use Rattle.wt_grid.specs.declared.image.Image.{Image}
use Rattle.wt_grid.specs.declared.axis.Axis.TheVariants.{One, Two}
use Rattle.wt_grid.specs.declared.axis.Axis.{Axis}
use Rattle.std.proofs.Math.Nat.{div-add-mod}
use Rattle.std.proofs.lemmas.Nat.{mul-add-lt, div-mul-add, mod-mul-add}
use Rattle.std.proofs.lemmas.Option.{get_or_from_slice_get}
use Rattle.std.proofs.lemmas.Bool.{cases_lt}
use Rattle.wt_grid.specs.Grid.{Grid, IsGrid, cell, listed, lines, along, across, at, grid_of}
use Rattle.wt_grid.specs.Lines.{Singles, Pairs, IsImage}
use Rattle.wt_grid.specs.Images.{piece_at}
use Rattle.wt_grid.specs.Traces.{piece_tiles}
use Rattle.wt_grid.specs.Shifts.{fill}
use Rattle.wt_grid.specs.Widths.{total}
use Rattle.wt_grid.proofs.Bridge.{cell_of}
use Rattle.wt_check.specs.Powers.{sum_below}

-- ---- sums

pub sum_same : (n : ℕ) (f g : ℕ → ℕ) → ((k : ℕ) → k < n → f k ≡ g k) → sum_below n f ≡ sum_below n g
sum_same zero f g h = refl
sum_same (suc n) f g h =
    let a = sum_same n f g (λ k lt. h k (omega arith)) in
    let b = h n (omega arith) in
    omega (arith, a, b)

sum_front : (n : ℕ) (f : ℕ → ℕ) → sum_below (suc n) f ≡ f 0 + sum_below n (λ k. f (suc k))
sum_front zero f = omega arith
sum_front (suc n) f = let r = sum_front n f in omega (arith, r)

pub sum_listed : (n : ℕ) (f g : ℕ → ℕ) → total f (listed n g) ≡ sum_below n (λ k. f (g k))
sum_listed zero f g = refl
sum_listed (suc n) f g =
    let r = sum_listed n f (λ k. g (suc k)) in
    let s = sum_front n (λ k. f (g k)) in
    omega (arith, r, s)

sum_split : (m n : ℕ) (f : ℕ → ℕ) → sum_below (m + n) f ≡ sum_below m f + sum_below n (λ k. f (m + k))
sum_split m zero f = let e : m + 0 ≡ m = omega arith in rw e (omega arith)
sum_split m (suc n) f =
    let e : m + suc n ≡ suc (m + n) = omega arith in
    let r = sum_split m n f in
    rw e (omega (arith, r))

pub sum_add : (n : ℕ) (f g : ℕ → ℕ) → sum_below n (λ k. f k + g k) ≡ sum_below n f + sum_below n g
sum_add zero f g = refl
sum_add (suc n) f g = let r = sum_add n f g in omega (arith, r)

pub sum_zero : (n : ℕ) → sum_below n (λ k. 0) ≡ 0
sum_zero zero = refl
sum_zero (suc n) = let r = sum_zero n in omega (arith, r)

-- a part is no more than the whole
pub sum_part : (n k : ℕ) (f : ℕ → ℕ) → k ≤ n → sum_below k f ≤ sum_below n f
sum_part zero k f le = let z : k ≡ 0 = omega arith in rw z (omega arith)
sum_part (suc n) k f le = elim (cases_lt k (suc n)) [
  | inl lt ↦ let r = sum_part n k f (omega arith) in omega (arith, r)
  | inr ge ↦ let s : k ≡ suc n = omega arith in rw s (omega arith)
]

-- a member is no more than the sum
pub sum_member : (n k : ℕ) (f : ℕ → ℕ) → k < n → f k ≤ sum_below n f
sum_member n k f lt = let p = sum_part n (suc k) f lt in omega (arith, p)

-- ---- rows

-- a rectangle row by row
sum_rows : (h w : ℕ) (f : ℕ → ℕ → ℕ) → 1 ≤ w → sum_below (w * h) (λ k. f (k % w) (k / w)) ≡ sum_below h (λ y. sum_below w (λ x. f x y))
sum_rows zero w f le = let z : w * 0 ≡ 0 = omega arith in rw z refl
sum_rows (suc h) w f le =
    let e : w * suc h ≡ w * h + w = omega arith in
    let m : w * h ≡ h * w = omega arith in
    let s = sum_split (w * h) w (λ k. f (k % w) (k / w)) in
    let r = sum_rows h w f le in
    let last = sum_same w (λ k. f ((w * h + k) % w) ((w * h + k) / w)) (λ x. f x h) (λ k lt. rw (m, mod-mul-add h w k lt, div-mul-add h w k lt) refl) in
    rw e (omega (arith, s, r, last))

-- and column by column
sum_turned : (m n : ℕ) (f : ℕ → ℕ → ℕ) → sum_below m (λ i. sum_below n (λ j. f i j)) ≡ sum_below n (λ j. sum_below m (λ i. f i j))
sum_turned zero n f = sym (sum_zero n)
sum_turned (suc m) n f =
    let r = sum_turned m n f in
    let s = sum_add n (λ j. sum_below m (λ i. f i j)) (λ j. f m j) in
    omega (arith, r, s)

total_cells : (f : ℕ → ℕ) (xs : List ℕ) → total f xs ≡ sum_below (length xs) (λ k. f (get_or xs k 0))
total_cells f [] = refl
total_cells f (x ∷ xs) =
    let r = total_cells f xs in
    let s = sum_front (length xs) (λ k. f (get_or (x ∷ xs) k 0)) in
    omega (arith, r, s)

-- the cells of a rectangle
pub total_grid : (f : ℕ → ℕ) (g : Grid) → IsGrid g → total f g.cells ≡ sum_below g.height (λ y. sum_below g.width (λ x. f (cell g x y)))
total_grid f g whole =
    let w = whole.wide in
    let n = whole.whole in
    total_cells f g.cells
    ∙ (rw n (sum_same (g.width * g.height) (λ k. f (get_or g.cells k 0)) (λ k. f (cell g (k % g.width) (k / g.width))) (λ k lt. ap (λ (i : ℕ). f (get_or g.cells i 0)) (place g.width k))
    ∙ sum_rows g.height g.width (λ x y. f (cell g x y)) w))
  where
    place : (w k : ℕ) → k ≡ k / w * w + k % w
    place w k = let e = div-add-mod k w in omega (arith, e)

-- the cells of a rectangle that is given cell by cell
pub total_of : (f : ℕ → ℕ) (w h : ℕ) (c : ℕ → ℕ → ℕ) → 1 ≤ w → total f (grid_of w h c).cells ≡ sum_below h (λ y. sum_below w (λ x. f (c x y)))
total_of f w h c le = sum_listed (w * h) f (λ k. c (k % w) (k / w)) ∙ sum_rows h w (λ x y. f (c x y)) le

fill_listed : (n m : ℕ) (f : ℕ → ℕ) (a : ℕ → ℕ → ℕ) → fill (total f) (listed n (λ i. listed m (a i))) ≡ sum_below n (λ i. sum_below m (λ j. f (a i j)))
fill_listed zero m f a = refl
fill_listed (suc n) m f a =
    let r = fill_listed n m f (λ i. a (suc i)) in
    let s = sum_front n (λ i. sum_below m (λ j. f (a i j))) in
    let t = sum_listed m f (a 0) in
    omega (arith, r, s, t)

-- the same by lines
pub total_lines : (axis : Axis) (f : ℕ → ℕ) (g : Grid) → IsGrid g → total f g.cells ≡ fill (total f) (lines axis g)
total_lines One f g whole =
    total_grid f g whole ∙ (sym (sum_turned g.width g.height (λ x y. f (cell g x y))) ∙ sym (fill_listed g.width g.height f (λ x y. cell g x y)))
total_lines Two f g whole = total_grid f g whole ∙ sym (fill_listed g.height g.width f (λ y x. cell g x y))

-- ---- images

module _ (f : ℕ → ℕ) (im : List Image) where
  -- what a tile's piece adds
  abbrev pub pulled : ℕ → ℕ
  pulled t = total f (piece_tiles (piece_at im t))

  single_adds : (q u : List ℕ) → Singles im q u → total f u ≡ total pulled q
  single_adds [] [] s = refl
  single_adds [] (a ∷ as') s = absurd s
  single_adds (i ∷ is) [] s = absurd s
  single_adds (i ∷ is) (a ∷ as') s =
      let p = get_or_from_slice_get im i (Single a) (Single 0) s.0 in
      let e : pulled i ≡ f a + 0 = ap (λ (x : Image). total f (piece_tiles x)) p in
      let r = single_adds is as' s.1 in
      omega (arith, e, r)

  pair_adds : (q u v : List ℕ) → Pairs im q u v → total f u + total f v ≡ total pulled q
  pair_adds [] [] [] s = refl
  pair_adds [] [] (b ∷ bs) s = absurd s
  pair_adds [] (a ∷ as') bs s = absurd s
  pair_adds (i ∷ is) [] bs s = absurd s
  pair_adds (i ∷ is) (a ∷ as') [] s = absurd s
  pair_adds (i ∷ is) (a ∷ as') (b ∷ bs) s =
      let p = get_or_from_slice_get im i (Double a b) (Single 0) s.0 in
      let e : pulled i ≡ f a + (f b + 0) = ap (λ (x : Image). total f (piece_tiles x)) p in
      let r = pair_adds is as' bs s.1 in
      omega (arith, e, r)

  pub image_adds : (qs ls : List (List ℕ)) → IsImage im qs ls → fill (total f) ls ≡ fill (total pulled) qs
  image_adds [] [] h = refl
  image_adds [] (u ∷ ls) h = absurd h
  image_adds (q ∷ qs) [] h = absurd h
  image_adds (q ∷ qs) (u ∷ []) h =
      let s = single_adds q u h.0 in
      let r = image_adds qs [] h.1 in
      omega (arith, s, r)
  image_adds (q ∷ qs) (u ∷ v ∷ ls) h = elim h [
    | inl s ↦
        let a = single_adds q u s.0 in
        let r = image_adds qs (v ∷ ls) s.1 in
        omega (arith, a, r)
    | inr s ↦
        let a = pair_adds q u v s.0 in
        let r = image_adds qs ls s.1 in
        omega (arith, a, r)
  ]
