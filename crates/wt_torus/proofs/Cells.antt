-- Letters of cells by coordinates that were computed.
use Rattle.std.proofs.Common.{arith, mod-lt, ◌≡◌, ℕ, zero, suc, ◌+◌, ◌*◌, ◌≤◌, ◌<◌, List, [], ◌∷◌, ◌++◌, map, length, append_assoc, get_or, slice_index_or, Bool, true, false, ◌&&◌, Option, None, Some, refl, sym, ap, subst, ◌∙◌, inl, inr}
use Rattle.std.specs.Prelude.{nat_lt, ℤ, pos, ◌<ℤ◌, ◌*ℤ◌, unsigned_abs, int_div, ◌/◌, ◌%◌}
use Rattle.std.proofs.lemmas.Bool.{and_parts, le-leb, leb-true, lt-ltb}
use Rattle.wt_golden.specs.Whole.{Whole, whole, times}
use Rattle.wt_golden.specs.Fractions.{Fraction, over, lowest, limit, IsGolden, common_of, common}
use Rattle.wt_golden.proofs.Divisors.{common_divides}
use Rattle.wt_golden.proofs.WholeRing.{golden, whole_times}
use Rattle.wt_ring.proofs.Ring.{x_, ◌⊗◌, solve}
use Rattle.wt_plane.specs.HalfPlanes.{Spot, spot, spot_numbers, divided, reduced_spot, spot_limit, IsSmallSpot, x_of, y_of}
use Rattle.wt_plane.proofs.Points.{x_again, y_again}
use Rattle.wt_grid.specs.First.{first_from}
use Rattle.wt_grid.proofs.First.{none_from}
use Rattle.wt_grid.proofs.Bridge.{length-listed, get_or-listed}
use Rattle.wt_grid.proofs.Grids.{listed_same}
use Rattle.std.proofs.lemmas.Nat.{div-mul-add, mod-mul-add}
use Rattle.std.proofs.Math.Nat.{div-lt_iff_lt-mul}
use Rattle.wt_golden.proofs.Lowest.{lowest_above, lowest_lowest, quotient_small}
use Rattle.wt_torus.proofs.Rotation.{flag, both}
use Rattle.wt_torus.proofs.Codes.{label_is}
use Rattle.wt_torus.specs.Cells.{letter_at, label_in, place_letter, place_fault, place_label, line_fault, index_label}
use Rattle.wt_torus.proofs.Orbits.{listed_more}
use Rattle.wt_torus.proofs.Lowered.{factor, factor_above, divided_back, quotient_back, quotient_above}
use Rattle.wt_grid.specs.Grid.{listed}
use Rattle.wt_grid.proofs.Traces.{listed_map}
use Rattle.wt_golden.proofs.Products.{mul_above}
use Rattle.wt_torus.specs.declared.partition.Partition.{Partition}
use Rattle.wt_torus.specs.Rotation.{orbit}
use Rattle.wt_torus.specs.Letters.{letter, number_in}
use Rattle.wt_torus.specs.Codes.{spread, coordinate, within, is_within, coordinate_within, fits, is_small, letter_within, reached, letter_fault, cell_fault, row_fault, code_of}
use Rattle.wt_torus.proofs.Scale.{IsSame, same_letter}

-- x / d in lowest terms, where it is within the limit
abbrev pub lowered_over : ℤ → Whole → Option Fraction
lowered_over d x = within (lowest (over x d))

same_coordinates : (n : ℕ) (length move t : Fraction) (d : ℤ) → d ≡ length.d *ℤ (move.d *ℤ t.d)
    → map (lowered_over d) (listed n (orbit (spread length (move.d *ℤ t.d)) (spread move (length.d *ℤ t.d)) (spread t (length.d *ℤ move.d)))) ≡ listed n (coordinate_within length move t)
unfolding coordinate
same_coordinates n length move t d e =
    let o = orbit (spread length (move.d *ℤ t.d)) (spread move (length.d *ℤ t.d)) (spread t (length.d *ℤ move.d)) in
    listed_map (lowered_over d) n o ∙ ap (λ (k : ℤ). listed n (λ i. within (lowest (over (o i) k)))) e

-- an orbit over the common denominator, each number of it lowered
pub coordinates_are : (n : ℕ) (length move t : Fraction) (L M T : Whole) (d : Whole) (os : List Whole)
    → L ≡ spread length (move.d *ℤ t.d) → M ≡ spread move (length.d *ℤ t.d) → T ≡ spread t (length.d *ℤ move.d) → d ≡ whole (length.d *ℤ (move.d *ℤ t.d)) → os ≡ listed n (orbit L M T)
    → map (lowered_over d.a) os ≡ listed n (coordinate_within length move t)
coordinates_are n length move t L M T d os el em et ed eo =
    ap (map (lowered_over d.a)) eo
    ∙ (ap (λ (x : Whole). map (lowered_over d.a) (listed n (orbit x M T))) el
    ∙ (ap (λ (x : Whole). map (lowered_over d.a) (listed n (orbit (spread length (move.d *ℤ t.d)) x T))) em
    ∙ (ap (λ (x : Whole). map (lowered_over d.a) (listed n (orbit (spread length (move.d *ℤ t.d)) (spread move (length.d *ℤ t.d)) x))) et
    ∙ same_coordinates n length move t d.a (ap (λ (w : Whole). w.a) ed))))

-- dividing by the common divisor keeps the point
reduced_same : (z : Spot) → pos 0 <ℤ z.d → IsSame (reduced_spot z) z
unfolding reduced_spot
reduced_same z h =
    let g = common_of (spot_numbers z) in
    let k = factor g in
    let d = common_divides (spot_numbers z) in
    let x = divided_back z.x (divided z.x g) k (quotient_back g z.x.a d.0) (quotient_back g z.x.b d.1.0) in
    let y = divided_back z.y (divided z.y g) k (quotient_back g z.y.a d.1.1.0) (quotient_back g z.y.b d.1.1.1.0) in
    let q = quotient_back g z.d d.1.1.1.1.0 in
    let e = ap whole (sym q) ∙ whole_times (int_div z.d (pos g)) k in record {
      over = quotient_above (int_div z.d (pos g)) k z.d (factor_above g) q h;
      over' = h;
      x = divided_over (divided z.x g) z.x (whole (int_div z.d (pos g))) (whole z.d) (whole k) x e;
      y = divided_over (divided z.y g) z.y (whole (int_div z.d (pos g))) (whole z.d) (whole k) y e;
    }
  where
    divided_over : (q x c d k : Whole) → x ≡ times q k → d ≡ times c k → times q d ≡ times x c
    divided_over q x c d k e f = ap (times q) f ∙ (solve golden (q ∷ c ∷ k ∷ []) (x_ 0 ⊗ (x_ 1 ⊗ x_ 2)) ((x_ 0 ⊗ x_ 2) ⊗ x_ 1) refl ∙ ap (λ (w : Whole). times w c) (sym e))

fits_small : (n : ℤ) → unsigned_abs n ≤ spot_limit → fits n ≡ true
fits_small n h = le-leb (unsigned_abs n) spot_limit h

small_tests : (z : Spot) → IsSmallSpot z → is_small z ≡ true
small_tests z s =
    rw (fits_small z.x.a s.x.a, fits_small z.x.b s.x.b, fits_small z.y.a s.y.a, fits_small z.y.b s.y.b, fits_small z.d s.d) refl

pub letter_found : (p : Partition) (x y : Fraction) (z : Spot) → IsGolden x → IsGolden y → z ≡ reduced_spot (spot x y) → IsSmallSpot z → letter_within p (spot x y) ≡ Some (letter p z)
letter_found p x y z gx gy e s =
    let small : is_small (reduced_spot (spot x y)) ≡ true = subst (λ (t : Spot). is_small t ≡ true) e (small_tests z s) in
    let same = ap (letter p) e ∙ same_letter p (reduced_spot (spot x y)) (spot x y) (reduced_same (spot x y) (mul_above x.d y.d gx.divisor gy.divisor)) in
    rw (small, same) refl

-- ---- rows

-- one more label behind those of a row so far
pub listed_on : {A : Type 0} (xs ys zs : List A) (f : ℕ → A) (i : ℕ) → ys ≡ xs ++ listed i f → zs ≡ ys ++ f i ∷ [] → zs ≡ xs ++ listed (i + 1) f
listed_on xs ys zs f i e g = g ∙ (ap (λ (l : List _). l ++ f i ∷ []) e ∙ (append_assoc xs (listed i f) (f i ∷ []) ∙ ap (λ (l : List _). xs ++ l) (sym (listed_more i f))))

-- ---- lists of places

listed_add : {A : Type 0} (n m : ℕ) (f : ℕ → A) → listed (n + m) f ≡ listed n f ++ listed m (λ k. f (n + k))
listed_add zero m f = let z : 0 + m ≡ m = omega arith in ap (λ (k : ℕ). listed k f) z ∙ listed_same m f (λ k. f (0 + k)) (λ i lt. let e : i ≡ 0 + i = omega arith in ap f e)
listed_add (suc n) m f =
    let r = listed_add n m (λ k. f (suc k)) in
    let t : listed m (λ k. f (suc (n + k))) ≡ listed m (λ k. f (suc n + k)) = listed_same m (λ k. f (suc (n + k))) (λ k. f (suc n + k)) (λ i lt. let e : suc (n + i) ≡ suc n + i = omega arith in ap f e) in
    let e : suc n + m ≡ suc (n + m) = omega arith in
    ap (λ (k : ℕ). listed k f) e ∙ (ap (λ (xs : List _). f 0 ∷ xs) r ∙ ap (λ (xs : List _). f 0 ∷ (listed n (λ k. f (suc k)) ++ xs)) t)

-- one row more
pub row_on : (p : Partition) (xs ys : List (Option Fraction)) (w j : ℕ) → listed (j * w) (index_label p xs ys w) ++ listed w (place_label p xs (slice_index_or ys j None)) ≡ listed ((j + 1) * w) (index_label p xs ys w)
row_on p xs ys w j =
    let e : (j + 1) * w ≡ j * w + w = grind arith in
    let f = index_label p xs ys w in
    let row : listed w (place_label p xs (slice_index_or ys j None)) ≡ listed w (λ k. f (j * w + k)) =
    listed_same w (place_label p xs (slice_index_or ys j None)) (λ k. f (j * w + k)) (λ i lt. rw (mod-mul-add j w i lt, div-mul-add j w i lt) refl) in
    ap (λ (zs : List ℕ). listed (j * w) f ++ zs) row ∙ (sym (listed_add (j * w) w f) ∙ ap (λ (k : ℕ). listed k f) (sym e))

first_alike : {A : Type 0} (f g : ℕ → Option A) (i n : ℕ) → ((k : ℕ) → i ≤ k → k < i + n → f k ≡ g k) → first_from f i n ≡ first_from g i n
first_alike f g i zero h = refl
first_alike f g i (suc n) h =
    let here = h i (omega arith) (omega arith) in
    let rest = first_alike f g (i + 1) n (λ k lo hi. h k (omega arith) (omega arith)) in
    rw (here, rest) refl

-- ---- coordinates within the limit

is_fit : (n : ℤ) → fits n ≡ true → unsigned_abs n ≤ spot_limit
is_fit n e = leb-true (unsigned_abs n) spot_limit e

below_limit : (n : ℤ) (g : ℕ) → fits n ≡ true → nat_lt (unsigned_abs (int_div n (pos g))) limit ≡ true
below_limit n g e = lt-ltb (unsigned_abs (int_div n (pos g))) limit (omega (arith, quotient_small n g spot_limit (is_fit n e)))

lowest_within : (f : Fraction) → fits f.a ≡ true → fits f.b ≡ true → fits f.d ≡ true → is_within (lowest f) ≡ true
unfolding lowest
lowest_within f a b d = rw (below_limit f.a (common f) a, below_limit f.b (common f) b, below_limit f.d (common f) d) refl

within_x : (z : Spot) → is_small z ≡ true → is_within (lowest (over z.x z.d)) ≡ true
within_x z s =
    let last = and_parts (fits z.x.a && fits z.x.b && fits z.y.a && fits z.y.b) (fits z.d) s in
    let four = and_parts (fits z.x.a && fits z.x.b && fits z.y.a) (fits z.y.b) last.0 in
    let three = and_parts (fits z.x.a && fits z.x.b) (fits z.y.a) four.0 in
    let two = and_parts (fits z.x.a) (fits z.x.b) three.0 in
    lowest_within (over z.x z.d) two.0 two.1 last.1

within_y : (z : Spot) → is_small z ≡ true → is_within (lowest (over z.y z.d)) ≡ true
within_y z s =
    let last = and_parts (fits z.x.a && fits z.x.b && fits z.y.a && fits z.y.b) (fits z.d) s in
    let four = and_parts (fits z.x.a && fits z.x.b && fits z.y.a) (fits z.y.b) last.0 in
    let three = and_parts (fits z.x.a && fits z.x.b) (fits z.y.a) four.0 in
    lowest_within (over z.y z.d) three.1 four.1 last.1

-- a number in lowest terms over a divisor above 0
pub record IsLowest (f : Fraction) : Type 0 where
  pub divisor : pos 0 <ℤ f.d
  pub lowest : lowest f ≡ f

-- where a coordinate is out of limit, the point is
out_of_limit : (f g : Fraction) → IsLowest f → IsLowest g → is_within f && is_within g ≡ false → is_small (reduced_spot (spot f g)) ≡ false
out_of_limit f g lf lg e = elim (flag (is_small (reduced_spot (spot f g)))) [
  | inr s ↦ s
  | inl s ↦
      let a = ap is_within (sym (x_again f g lf.divisor lg.divisor lf.lowest)) ∙ within_x (reduced_spot (spot f g)) s in
      let b = ap is_within (sym (y_again f g lf.divisor lg.divisor lg.lowest)) ∙ within_y (reduced_spot (spot f g)) s in
      both (is_within f && is_within g) (rw (a, b) refl) e
]

-- the letter at two coordinates is that of the point
within_spot : (p : Partition) (f g : Fraction) → IsLowest f → IsLowest g → letter_at p (within f) (within g) ≡ letter_within p (spot f g)
within_spot p f g lf lg = by_tests (is_within f) (is_within g) refl refl
  where
    by_tests : (a b : Bool) → is_within f ≡ a → is_within g ≡ b → letter_at p (within f) (within g) ≡ letter_within p (spot f g)
    by_tests true true e h = rw (e, h) refl
    by_tests true false e h = rw (e, h, out_of_limit f g lf lg (rw (e, h) refl)) refl
    by_tests false b e h = rw (e, out_of_limit f g lf lg (rw e refl)) refl

coordinate_lowest : (length move t : Fraction) (i : ℕ) → pos 0 <ℤ length.d → pos 0 <ℤ move.d → pos 0 <ℤ t.d → IsLowest (coordinate length move t i)
unfolding coordinate
coordinate_lowest length move t i hl hm ht =
    let f = over (orbit (spread length (move.d *ℤ t.d)) (spread move (length.d *ℤ t.d)) (spread t (length.d *ℤ move.d)) i) (length.d *ℤ (move.d *ℤ t.d)) in
    let h : pos 0 <ℤ f.d = mul_above length.d (move.d *ℤ t.d) hl (mul_above move.d t.d hm ht) in
    record { divisor = lowest_above f h; lowest = lowest_lowest f h }

module _ (p : Partition) (z : Spot) (w h : ℕ) (xs ys : List (Option Fraction))
    (ex : xs ≡ listed w (coordinate_within p.torus.width p.torus.move1 (x_of z))) (ey : ys ≡ listed h (coordinate_within p.torus.height p.torus.move2 (y_of z)))
    (hw : pos 0 <ℤ p.torus.width.d) (hh : pos 0 <ℤ p.torus.height.d) (h1 : pos 0 <ℤ p.torus.move1.d) (h2 : pos 0 <ℤ p.torus.move2.d) (hz : pos 0 <ℤ z.d) where
  place_is : (i j : ℕ) → i < w → j < h → place_letter p xs (slice_index_or ys j None) i ≡ letter_within p (reached p.torus z i j)
  place_is i j li lj =
      let a : get_or xs i None ≡ coordinate_within p.torus.width p.torus.move1 (x_of z) i = ap (λ (l : List (Option Fraction)). get_or l i None) ex ∙ get_or-listed w i (coordinate_within p.torus.width p.torus.move1 (x_of z)) None li in
      let b : get_or ys j None ≡ coordinate_within p.torus.height p.torus.move2 (y_of z) j = ap (λ (l : List (Option Fraction)). get_or l j None) ey ∙ get_or-listed h j (coordinate_within p.torus.height p.torus.move2 (y_of z)) None lj in
      rw (a, b) (within_spot p (coordinate p.torus.width p.torus.move1 (x_of z) i) (coordinate p.torus.height p.torus.move2 (y_of z) j)
      (coordinate_lowest p.torus.width p.torus.move1 (x_of z) i hw h1 (lowest_above (over z.x z.d) hz)) (coordinate_lowest p.torus.height p.torus.move2 (y_of z) j hh h2 (lowest_above (over z.y z.d) hz)))

  wide : length xs ≡ w
  wide = ap length ex ∙ length-listed w (coordinate_within p.torus.width p.torus.move1 (x_of z))

  row_is : (j : ℕ) → j < h → line_fault p xs ys j ≡ row_fault p z w j
  row_is j lj =
      ap (λ (n : ℕ). first_from (place_fault p xs (slice_index_or ys j None) j) 0 n) wide
      ∙ first_alike (place_fault p xs (slice_index_or ys j None) j) (cell_fault p z j) 0 w (λ i lo hi. ap (letter_fault i j) (place_is i j (omega arith) lj))

  pub rows_are : first_from (line_fault p xs ys) 0 h ≡ first_from (row_fault p z w) 0 h
  rows_are = first_alike (line_fault p xs ys) (row_fault p z w) 0 h (λ j lo hi. row_is j (omega arith))

  pub cells_are : 1 ≤ w → first_from (row_fault p z w) 0 h ≡ None → listed (h * w) (index_label p xs ys w) ≡ (code_of p z w h).cells
  cells_are some e =
      let m : h * w ≡ w * h = grind arith in
      ap (λ (n : ℕ). listed n (index_label p xs ys w)) m
      ∙ listed_same (w * h) (index_label p xs ys w) (λ k. number_in (letter p (reached p.torus z (k % w) (k / w)))) (λ k lt.
      let li : k % w < w = mod-lt k (omega arith) in
      let lj : k / w < h = (div-lt_iff_lt-mul {x = k} {y = h} some).1 (let n : k < h * w = omega (arith, lt, m) in n) in
      let row = none_from (row_fault p z w) 0 h (k / w) e (omega arith) (omega arith) in
      ap label_in (place_is (k % w) (k / w) li lj) ∙ label_is p z (k % w) (k / w) (none_from (cell_fault p z (k / w)) 0 w (k % w) row (omega arith) (omega arith)))
