-- A run of coarse cells stands for a run of cells of the rectangle below.
use Rattle.std.proofs.Common.{arith, ◌≡◌, ◌≤◌, ◌<◌, ◌+◌, ◌-◌, ℕ, zero, suc, List, [], ◌∷◌, ◌++◌, append_assoc, length, length-append, map, take, drop, get_or, Bool, true, false, refl, sym, ap, ◌∙◌}
use Rattle.wt_grid.proofs.Grids.{listed_same}
use Rattle.wt_grid.specs.declared.image.Image.TheVariants.{One as Single, Two as Double}
use Rattle.wt_grid.specs.declared.image.Image.{Image}
use Rattle.wt_grid.specs.declared.axis.Side.TheVariants.{After, Before}
use Rattle.wt_grid.specs.declared.axis.Side.{Side}
use Rattle.wt_grid.specs.declared.axis.Axis.{Axis}
use Rattle.std.specs.List.{flat_map}
use Rattle.std.proofs.lemmas.List.{take-append-drop, get_or-map}
use Rattle.std.proofs.Math.Seq.{drop-append_seam, take-append_seam}
use Rattle.wt_grid.specs.Lines.{AllLong, is_marker_line, cut_end}
use Rattle.wt_grid.specs.Cuts.{cut, cut_front, cut_lines, backwards}
use Rattle.wt_grid.specs.Grid.{Grid, along, across, at, listed, lines}
use Rattle.wt_grid.specs.Images.{piece_at, first_tile, last_tile, is_pair, firsts, lasts, is_double, line_image, image_lines, IsEvenLine, IsEven}
use Rattle.wt_grid.specs.Traces.{segment, cells_at, piece_tiles}
use Rattle.wt_grid.proofs.Bridge.{get_or-listed}
use Rattle.wt_grid.proofs.Backwards.{backwards_append, backwards_twice}

-- ---- parts of what is listed

pub listed_map : {A B : Type 0} (h : A → B) (n : ℕ) (f : ℕ → A) → map h (listed n f) ≡ listed n (λ k. h (f k))
listed_map h zero f = refl
listed_map h (suc n) f = ap (λ (ys : List _). h (f 0) ∷ ys) (listed_map h n (λ k. f (suc k)))

pub take_listed : {A : Type 0} (n m : ℕ) (f : ℕ → A) → n ≤ m → take n (listed m f) ≡ listed n f
take_listed zero m f le = refl
take_listed (suc n) zero f le = absurd (omega arith)
take_listed (suc n) (suc m) f le = ap (λ (ys : List _). f 0 ∷ ys) (take_listed n m (λ k. f (suc k)) (omega arith))

drop_listed : {A : Type 0} (k m : ℕ) (f : ℕ → A) → k ≤ m → drop k (listed m f) ≡ listed (m - k) (λ i. f (k + i))
drop_listed zero m f le = let e : m - 0 ≡ m = omega arith in rw e (listed_same m f (λ i. f (0 + i)) (λ i lt. let z : i ≡ 0 + i = omega arith in ap f z))
drop_listed (suc k) zero f le = absurd (omega arith)
drop_listed (suc k) (suc m) f le =
    let e : suc m - suc k ≡ m - k = omega arith in
    rw e (drop_listed k m (λ i. f (suc i)) (omega arith) ∙ listed_same (m - k) (λ i. f (suc (k + i))) (λ i. f (suc k + i)) (λ i lt. let z : suc (k + i) ≡ suc k + i = omega arith in ap f z))

part_listed : {A : Type 0} (n k m : ℕ) (f : ℕ → A) → k + n ≤ m → take n (drop k (listed m f)) ≡ listed n (λ i. f (k + i))
part_listed n k m f le = ap (take n) (drop_listed k m f (omega arith)) ∙ take_listed n (m - k) (λ i. f (k + i)) (omega arith)

-- a run of cells, by the lines that it goes through
pub segment_lines : (axis : Axis) (g : Grid) (k j n : ℕ) → k + n ≤ along axis g → j < across axis g → cells_at j (take n (drop k (lines axis g))) ≡ segment axis g k j n
segment_lines axis g k j n le lt =
    ap (cells_at j) (part_listed n k (along axis g) (λ i. listed (across axis g) (λ j'. at axis g i j')) le)
    ∙ (listed_map (λ u. get_or u j 0) n (λ i. listed (across axis g) (λ j'. at axis g (k + i) j'))
    ∙ listed_same n (λ i. get_or (listed (across axis g) (λ j'. at axis g (k + i) j')) j 0) (λ i. at axis g (k + i) j) (λ i li. get_or-listed (across axis g) j (λ j'. at axis g (k + i) j') 0 lt))

-- ---- images, place by place

map_append : (h : List ℕ → ℕ) (xs ys : List (List ℕ)) → map h (xs ++ ys) ≡ map h xs ++ map h ys
map_append h [] ys = refl
map_append h (x ∷ xs) ys = ap (λ (zs : List ℕ). h x ∷ zs) (map_append h xs ys)

first_at : (im : List Image) (q : List ℕ) (j : ℕ) → j < length q → get_or (firsts im q) j 0 ≡ first_tile (piece_at im (get_or q j 0))
first_at im q j lt = get_or-map (λ i. first_tile (piece_at im i)) q j 0 0 lt

last_at : (im : List Image) (q : List ℕ) (j : ℕ) → j < length q → get_or (lasts im q) j 0 ≡ last_tile (piece_at im (get_or q j 0))
last_at im q j lt = get_or-map (λ i. last_tile (piece_at im i)) q j 0 0 lt

even_get : (im : List Image) (b : Bool) (q : List ℕ) (j : ℕ) → IsEvenLine im b q → j < length q → is_pair (piece_at im (get_or q j 0)) ≡ b
even_get im b [] j e lt = absurd (omega arith)
even_get im b (i ∷ is) zero e lt = e.0
even_get im b (i ∷ is) (suc j) e lt = even_get im b is j e.1 (omega arith)

tiles_of_pair : (p : Image) → is_pair p ≡ true → first_tile p ∷ last_tile p ∷ [] ≡ piece_tiles p
tiles_of_pair (Single a) e = absurd cc
tiles_of_pair (Double a b) e = refl

tiles_of_one : (p : Image) → is_pair p ≡ false → first_tile p ∷ [] ≡ piece_tiles p
tiles_of_one (Single a) e = refl
tiles_of_one (Double a b) e = absurd cc

line_cells : (im : List Image) (q : List ℕ) (j : ℕ) (b : Bool) → is_double im q ≡ b → IsEvenLine im b q → j < length q → cells_at j (line_image im q) ≡ piece_tiles (piece_at im (get_or q j 0))
line_cells im q j true e h lt = rw e (rw (first_at im q j lt, last_at im q j lt) (tiles_of_pair (piece_at im (get_or q j 0)) (even_get im true q j h lt)))
line_cells im q j false e h lt = rw e (rw (first_at im q j lt) (tiles_of_one (piece_at im (get_or q j 0)) (even_get im false q j h lt)))

pub image_cells : (im : List Image) (m j : ℕ) (qs : List (List ℕ)) → j < m → AllLong m qs → IsEven im qs → cells_at j (image_lines im qs) ≡ flat_map (λ t. piece_tiles (piece_at im t)) (cells_at j qs)
image_cells im m j [] lt l e = refl
image_cells im m j (q ∷ qs) lt l e =
    let n : j < length q = (let h : length q ≡ m = l.0 in omega arith) in
    map_append (λ u. get_or u j 0) (line_image im q) (image_lines im qs)
    ∙ (ap (λ (xs : List ℕ). xs ++ cells_at j (image_lines im qs)) (line_cells im q j (is_double im q) refl e.0 n)
    ∙ ap (λ (ys : List ℕ). piece_tiles (piece_at im (get_or q j 0)) ++ ys) (image_cells im m j qs lt l.1 e.1))

pub image_lines_append : (im : List Image) (xs ys : List (List ℕ)) → image_lines im (xs ++ ys) ≡ image_lines im xs ++ image_lines im ys
image_lines_append im [] ys = refl
image_lines_append im (x ∷ xs) ys = ap (λ (zs : List (List ℕ)). line_image im x ++ zs) (image_lines_append im xs ys) ∙ sym (append_assoc (line_image im x) (image_lines im xs) (image_lines im ys))

middle : {A : Type 0} (xs ys zs : List A) → take (length ys) (drop (length xs) (xs ++ (ys ++ zs))) ≡ ys
middle xs ys zs = ap (take (length ys)) (drop-append_seam xs (ys ++ zs)) ∙ take-append_seam ys zs

-- the lines of a run of blocks, among those of all blocks
pub run_image : (im : List Image) (qs : List (List ℕ)) (k n : ℕ) → take (length (image_lines im (take n (drop k qs)))) (drop (length (image_lines im (take k qs))) (image_lines im qs)) ≡ image_lines im (take n (drop k qs))
run_image im qs k n =
    let a = take k qs in
    let b = take n (drop k qs) in
    let c = drop n (drop k qs) in
    let e : qs ≡ a ++ (b ++ c) = sym (take-append-drop k qs) ∙ ap (λ (ys : List (List ℕ)). a ++ ys) (sym (take-append-drop n (drop k qs))) in
    let f : image_lines im qs ≡ image_lines im a ++ (image_lines im b ++ image_lines im c) =
    ap (image_lines im) e ∙ (image_lines_append im a (b ++ c) ∙ ap (λ (ys : List (List ℕ)). image_lines im a ++ ys) (image_lines_append im b c)) in
    ap (λ (ys : List (List ℕ)). take (length (image_lines im b)) (drop (length (image_lines im a)) ys)) f ∙ middle (image_lines im a) (image_lines im b) (image_lines im c)

pub run_fits : (im : List Image) (qs : List (List ℕ)) (k n : ℕ) → length (image_lines im (take k qs)) + length (image_lines im (take n (drop k qs))) ≤ length (image_lines im qs)
run_fits im qs k n =
    let a = take k qs in
    let b = take n (drop k qs) in
    let c = drop n (drop k qs) in
    let e : qs ≡ a ++ (b ++ c) = sym (take-append-drop k qs) ∙ ap (λ (ys : List (List ℕ)). a ++ ys) (sym (take-append-drop n (drop k qs))) in
    let f : image_lines im qs ≡ image_lines im a ++ (image_lines im b ++ image_lines im c) =
    ap (image_lines im) e ∙ (image_lines_append im a (b ++ c) ∙ ap (λ (ys : List (List ℕ)). image_lines im a ++ ys) (image_lines_append im b c)) in
    let g = ap length f in
    let h = length-append (image_lines im a) (image_lines im b ++ image_lines im c) in
    let i = length-append (image_lines im b) (image_lines im c) in
    omega (arith, g, h, i)

-- ---- the lines that are left after a cut

abbrev pub StandsIn : List (List ℕ) → List (List ℕ) → Type 0
StandsIn xs ls = (front : List (List ℕ)) × (back : List (List ℕ)) × (ls ≡ front ++ (xs ++ back))

front_in : (marker : ℕ → Bool) (ls : List (List ℕ)) → (front : List (List ℕ)) × (ls ≡ front ++ cut_front marker ls)
front_in marker [] = ([], refl)
front_in marker (u ∷ ls) = go (is_marker_line marker u) refl
  where
    go : (b : Bool) → is_marker_line marker u ≡ b → (front : List (List ℕ)) × (u ∷ ls ≡ front ++ cut_front marker (u ∷ ls))
    go true e = (u ∷ [], rw e refl)
    go false e = ([], rw e refl)

end_in : (marker : ℕ → Bool) (ls : List (List ℕ)) → (back : List (List ℕ)) × (ls ≡ cut_end marker ls ++ back)
end_in marker [] = ([], refl)
end_in marker (u ∷ v ∷ ls) = let r = end_in marker (v ∷ ls) in (r.0, ap (λ (ys : List (List ℕ)). u ∷ ys) r.1)
end_in marker (u ∷ []) = go (is_marker_line marker u) refl
  where
    go : (b : Bool) → is_marker_line marker u ≡ b → (back : List (List ℕ)) × (u ∷ [] ≡ cut_end marker (u ∷ []) ++ back)
    go true e = ([], rw e refl)
    go false e = (u ∷ [], rw e refl)

lines_in : (marker : ℕ → Bool) (ls : List (List ℕ)) → StandsIn (cut_lines marker ls) ls
lines_in marker ls =
    let f = front_in marker ls in
    let e = end_in marker (cut_front marker ls) in
    (f.0, e.0, f.1 ∙ ap (λ (ys : List (List ℕ)). f.0 ++ ys) e.1)

pub cut_in : (side : Side) (marker : ℕ → Bool) (ls : List (List ℕ)) → StandsIn (cut side marker ls) ls
cut_in After marker ls = lines_in marker ls
cut_in Before marker ls =
    let r = lines_in marker (backwards ls) in
    let c = cut_lines marker (backwards ls) in (
      backwards r.1,
      backwards r.0,
      sym (backwards_twice ls) ∙ (ap backwards r.2 ∙ (backwards_append r.0 (c ++ r.1) ∙ (ap (λ (ys : List (List ℕ)). ys ++ backwards r.0) (backwards_append c r.1) ∙ append_assoc (backwards r.1) (backwards c) (backwards r.0)))),
    )
