-- What a good step allows is a good table of lines.
use Rattle.std.proofs.Common.{arith, ◌≡◌, ◌<◌, ℕ, zero, suc, List, [], ◌∷◌, length, take, map, slice_get, slice_index_or, Option, None, Some, option_map, Bool, true, false, ◌&&◌, ◌||◌, not, nat_eq, nat_lt, refl, sym, ◌∙◌, ap, subst, inl, inr}
use Rattle.wt_grid.proofs.Order.{agreed}
use Rattle.std.specs.List.{list_any}
use Rattle.wt_grid.specs.Axes.{same_axis, other}
use Rattle.wt_grid.specs.declared.image.Image.TheVariants.{One as Single, Two as Double}
use Rattle.wt_grid.specs.declared.image.Image.{Image}
use Rattle.wt_grid.specs.declared.axis.Side.TheVariants.{After, Before}
use Rattle.wt_grid.specs.declared.axis.Side.{Side}
use Rattle.wt_grid.specs.declared.axis.Axis.TheVariants.{One, Two}
use Rattle.wt_grid.specs.declared.axis.Axis.{Axis}
use Rattle.std.proofs.lemmas.Bool.Decides.{nat_tests}
use Rattle.std.proofs.lemmas.Bool.{cases_lt, and_parts, not-true}
use Rattle.std.proofs.lemmas.Option.{slice_get-map}
use Rattle.wt_grid.specs.Order.{in_order, agree}
use Rattle.wt_grid.specs.Lines.{IsGood}
use Rattle.wt_grid.specs.Cuts.{flip, step_table}
use Rattle.wt_grid.proofs.Law.{unflipped, flipped}
use Rattle.wt_step.specs.declared.raw.RawStep.{RawStep}
use Rattle.wt_step.specs.Words.{same_image, allowed, allows, is_marker, is_block, joined, demands}
use Rattle.wt_grid.specs.Pairs.{is_this_pair, pairs_follow, pair_fits}
use Rattle.wt_step.specs.Faults.{is_good_image, is_demanded}
use Rattle.wt_step.specs.Good.{IsGoodStep}
use Rattle.wt_morphism.specs.Images.{piece}
use Rattle.wt_step.specs.Meaning.{pieces}
use Rattle.wt_step.proofs.Faultless.{is_pair_same}

pub same_itself : (axis : Axis) → same_axis axis axis ≡ true
same_itself One = refl
same_itself Two = refl

pub not_other : (axis : Axis) → same_axis (other axis) axis ≡ false
not_other One = refl
not_other Two = refl

-- Lists.
pub some_of : {A : Type 0} (xs : List A) (i : ℕ) (x d : A) → slice_get xs i ≡ Some x → (i < length xs) × (slice_index_or xs i d ≡ x)
some_of [] i x d e = absurd (cc e)
some_of (y ∷ xs) zero x d e = (omega arith, (let f : Some y ≡ Some x = e in cc))
some_of (y ∷ xs) (suc i) x d e = let r = some_of xs i x d e in (omega arith, r.1)

pub has_some : {A : Type 0} (p : A → Bool) (xs : List A) → list_any p xs ≡ true → (i : ℕ) × (x : A) × (slice_get xs i ≡ Some x) × (p x ≡ true)
has_some p [] h = absurd (cc h)
has_some p (x ∷ xs) h = go (p x) refl (has_some p xs)
  where
    go : (t : Bool) → p x ≡ t → (list_any p xs ≡ true → (i : ℕ) × (y : _) × (slice_get xs i ≡ Some y) × (p y ≡ true)) → (i : ℕ) × (y : _) × (slice_get (x ∷ xs) i ≡ Some y) × (p y ≡ true)
    go true t r = (0, x, refl, t)
    go false t r = let q = r (rw t at h) in (suc q.0, q.1, q.2, q.3)

has_more : {A : Type 0} (p q : A → Bool) (xs : List A) → ((x : A) → p x ≡ true → q x ≡ true) → list_any p xs ≡ true → list_any q xs ≡ true
has_more p q [] m h = absurd (cc h)
has_more p q (x ∷ xs) m h = go (p x) refl (has_more p q xs m)
  where
    either : (a b : Bool) → b ≡ true → (a || b) ≡ true
    either true b e = refl
    either false b e = e

    go : (t : Bool) → p x ≡ t → (list_any p xs ≡ true → list_any q xs ≡ true) → list_any q (x ∷ xs) ≡ true
    go true t r = rw (m x t) refl
    go false t r = either (q x) (list_any q xs) (r (rw t at h))

has_before : {A : Type 0} (p : A → Bool) (xs : List A) (i j : ℕ) (x : A) → slice_get xs i ≡ Some x → i < j → p x ≡ true → list_any p (take j xs) ≡ true
has_before p [] i j x e lt h = absurd (cc e)
has_before p (y ∷ xs) i zero x e lt h = absurd (omega arith)
has_before p (y ∷ xs) zero (suc j) x e lt h = let f : Some y ≡ Some x = e in let k : y ≡ x = cc in rw (k, h) refl
has_before p (y ∷ xs) (suc i) (suc j) x e lt h = either (p y) (list_any p (take j xs)) (has_before p xs i j x e (omega arith) h)
  where
    either : (a b : Bool) → b ≡ true → (a || b) ≡ true
    either true b e = refl
    either false b e = e

fits_at : (n : ℕ) (ps : List (ℕ × ℕ)) (a b : ℕ) → in_order (pair_fits n) pairs_follow ps ≡ true → list_any (is_this_pair a b) ps ≡ true → (a < n) × (b < n)
fits_at n [] a b o h = absurd (cc h)
fits_at n (p ∷ ps) a b o h =
    let k = and_parts _ _ (and_parts _ _ o).0 in
    let f = and_parts (nat_lt p.0 n) (nat_lt p.1 n) k.0 in
    go (is_this_pair a b p) refl (fits_at n ps a b (and_parts _ _ o).1) f.0 f.1
  where
    go : (t : Bool) → is_this_pair a b p ≡ t → (list_any (is_this_pair a b) ps ≡ true → (a < n) × (b < n)) → nat_lt p.0 n ≡ true → nat_lt p.1 n ≡ true → (a < n) × (b < n)
    go true t r f g = let e = is_pair_same a b p t in let x = e.0 in let y = e.1 in (grind (arith, nat_tests, f, x), grind (arith, nat_tests, g, y))
    go false t r f g = r (rw t at h)

-- Images.
pub from_piece : (o : Option Image) (a : ℕ) → option_map piece o ≡ Some (Single a) → o ≡ Some (Single a)
from_piece None a e = absurd cc
from_piece (Some (Single x)) a e = let f : Some (Single x) ≡ Some (Single a) = e in cc
from_piece (Some (Double x y)) a e = absurd cc

pub from_pieces : (o : Option Image) (a b : ℕ) → option_map piece o ≡ Some (Double a b) → o ≡ Some (Double a b)
from_pieces None a b e = absurd cc
from_pieces (Some (Single x)) a b e = absurd cc
from_pieces (Some (Double x y)) a b e = let f : Some (Double x y) ≡ Some (Double a b) = e in cc

same_image_itself : (x : Image) → same_image x x ≡ true
same_image_itself (Single a) = grind (arith, nat_tests)
same_image_itself (Double a b) = let e : nat_eq a a ≡ true = grind (arith, nat_tests) in let f : nat_eq b b ≡ true = grind (arith, nat_tests) in rw (e, f) refl

is_single : (a : ℕ) (y : Image) → same_image (Single a) y ≡ true → y ≡ Single a
is_single a (Single b) e = let k : a ≡ b = grind (arith, nat_tests, e) in cc
is_single a (Double b c) e = absurd (cc e)

is_double : (a b : ℕ) (y : Image) → same_image (Double a b) y ≡ true → y ≡ Double a b
is_double a b (Single c) e = absurd (cc e)
is_double a b (Double c d) e = let g = and_parts (nat_eq a c) (nat_eq b d) e in let k : a ≡ c = grind (arith, nat_tests, g.0) in let l : b ≡ d = grind (arith, nat_tests, g.1) in cc

module _ (s : RawStep) (g : IsGoodStep s) where
  pub apart : (a b : ℕ) → allows s s.axis a b ≡ true → is_marker s a ≡ true → is_marker s b ≡ true → ⊥
  apart a b h m n =
      let k : not (is_marker s a && is_marker s b) ≡ true = rw (same_itself s.axis) at (g.marked s.axis a b h) in
      let k' = rw (m, n) at k in cc k'

  pub uniform : (a b : ℕ) → allows s (other s.axis) a b ≡ true → is_marker s a ≡ is_marker s b
  uniform a b h =
      let k : agree (is_marker s a) (is_marker s b) ≡ true = rw (not_other s.axis) at (g.marked (other s.axis) a b h) in
      agreed (is_marker s a) (is_marker s b) k

  image_some : (i : ℕ) (x : Image) → slice_get s.images i ≡ Some x → is_good_image s x ≡ true
  image_some i x e =
      let r = some_of s.images i x (Single 0) e in
      let P : Image → Type 0 = λ y. is_good_image s y ≡ true in
      subst P r.1 (g.images i r.0)

  pub singles : (i a : ℕ) → slice_get (pieces s) i ≡ Some (Single a) → is_marker s a ≡ false
  singles i a e = not-true (is_marker s a) (image_some i (Single a) (from_piece (slice_get s.images i) a (sym (slice_get-map piece s.images i) ∙ e)))

  pub doubles : (i a b : ℕ) → slice_get (pieces s) i ≡ Some (Double a b) → joined s.side (is_marker s a) (is_marker s b) ≡ true
  doubles i a b e = (and_parts (allows s s.axis a b) (is_block s a b) (image_some i (Double a b) (from_pieces (slice_get s.images i) a b (sym (slice_get-map piece s.images i) ∙ e)))).1

  once : (i j : ℕ) (x : Image) → slice_get s.images i ≡ Some x → slice_get s.images j ≡ Some x → i < j → ⊥
  once i j x e f lt =
      let r = some_of s.images j x (Single 0) f in
      let d = g.distinct j r.0 in
      let P : Image → Type 0 = λ y. list_any (same_image y) (take j s.images) ≡ false in
      let d' = subst P r.1 d in
      let h = has_before (same_image x) s.images i j x e lt (same_image_itself x) in cc

  pub one_image : (i j : ℕ) (x : Image) → slice_get s.images i ≡ Some x → slice_get s.images j ≡ Some x → i ≡ j
  one_image i j x e f = elim (cases_lt i j) [
    | inl lt ↦ absurd (once i j x e f lt)
    | inr le ↦ elim (cases_lt j i) [
      | inl lt ↦ absurd (once j i x f e lt)
      | inr le' ↦ omega arith
    ]
  ]

  pub distinct : (i j : ℕ) (p : Image) → slice_get (pieces s) i ≡ Some p → slice_get (pieces s) j ≡ Some p → i ≡ j
  distinct i j (Single a) e f = one_image i j (Single a) (from_piece (slice_get s.images i) a (sym (slice_get-map piece s.images i) ∙ e)) (from_piece (slice_get s.images j) a (sym (slice_get-map piece s.images j) ∙ f))
  distinct i j (Double a b) e f = one_image i j (Double a b) (from_pieces (slice_get s.images i) a b (sym (slice_get-map piece s.images i) ∙ e)) (from_pieces (slice_get s.images j) a b (sym (slice_get-map piece s.images j) ∙ f))

  pub in_range : (axis : Axis) (a b : ℕ) → allows s axis a b ≡ true → (a < length s.fine.tiles) × (b < length s.fine.tiles)
  in_range axis a b h = fits_at (length s.fine.tiles) (allowed s axis) a b (g.allowed_lists axis) h

  placed : (x : Image) (y : Image) (i : ℕ) (p : Image) → slice_get s.images i ≡ Some y → y ≡ x → piece x ≡ p → slice_get (pieces s) i ≡ Some p
  placed x y i p e f h = slice_get-map piece s.images i ∙ (rw (e, f, h) refl)

  tile_image : (u : ℕ) → u < length s.fine.tiles → is_marker s u ≡ false → list_any (demands s u) (allowed s s.axis) ≡ true → (i : ℕ) × (slice_get (pieces s) i ≡ Some (Single u))
  tile_image u lt m h =
      let d : is_demanded s u ≡ true = rw (m, h) refl in
      let r = has_some (same_image (Single u)) s.images (g.has_tiles u lt d) in
      (r.0, placed (Single u) r.1 r.0 (Single u) r.2 (is_single u r.1 r.3) refl)

  pub pair_image : (a b : ℕ) → allows s s.axis a b ≡ true → joined s.side (is_marker s a) (is_marker s b) ≡ true → (i : ℕ) × (slice_get (pieces s) i ≡ Some (Double a b))
  pair_image a b h j =
      let r = has_some (same_image (Double a b)) s.images (g.has_pairs a b h j) in
      (r.0, placed (Double a b) r.1 r.0 (Double a b) r.2 (is_double a b r.1 r.3) refl)

  -- the pair makes its first tile an image (after), or its second (before)
  demand_first : (a b : ℕ) → s.side ≡ After → allows s s.axis a b ≡ true → is_marker s b ≡ false → list_any (demands s a) (allowed s s.axis) ≡ true
  demand_first a b e h n = has_more (is_this_pair a b) (demands s a) (allowed s s.axis) (λ p k.
      let f = is_pair_same a b p k in let x = f.0 in
      let q : nat_eq p.0 a ≡ true = grind (arith, nat_tests, x) in
      let n' : is_marker s p.1 ≡ false = ap (is_marker s) f.1 ∙ n in
      rw e (rw (q, n') refl)) h

  demand_second : (a b : ℕ) → s.side ≡ Before → allows s s.axis a b ≡ true → is_marker s a ≡ false → list_any (demands s b) (allowed s s.axis) ≡ true
  demand_second a b e h n = has_more (is_this_pair a b) (demands s b) (allowed s s.axis) (λ p k.
      let f = is_pair_same a b p k in let x = f.1 in
      let q : nat_eq p.1 b ≡ true = grind (arith, nat_tests, x) in
      let n' : is_marker s p.0 ≡ false = ap (is_marker s) f.0 ∙ n in
      rw e (rw (q, n') refl)) h

  joined_after : (m n : Bool) → joined After m n ≡ true → (m ≡ false) × (n ≡ true)
  joined_after true n e = absurd (cc e)
  joined_after false n e = (refl, e)

  joined_before : (m n : Bool) → joined Before m n ≡ true → (n ≡ false) × (m ≡ true)
  joined_before true true e = absurd (cc e)
  joined_before true false e = (refl, refl)
  joined_before false n e = absurd (cc e)

  table_of : (side : Side) → s.side ≡ side → IsGood (step_table side (allows s s.axis) (allows s (other s.axis)) (is_marker s) (pieces s))
  table_of After e = record {
    apart = apart;
    uniform = uniform;
    ones = singles;
    twos = λ i a b h. joined_after (is_marker s a) (is_marker s b) (subst (λ (x : Side). joined x (is_marker s a) (is_marker s b) ≡ true) e (doubles i a b h));
    distinct = distinct;
    has_ones = λ a b h m n. tile_image a (in_range s.axis a b h).0 m (demand_first a b e h n);
    has_twos = λ a b h m n. pair_image a b h (subst (λ (x : Side). joined x (is_marker s a) (is_marker s b) ≡ true) (sym e) (rw (m, n) refl));
  }
  table_of Before e = record {
    apart = λ a b h m n. apart b a h n m;
    uniform = uniform;
    ones = λ i a h. singles i a ((unflipped (pieces s)).ones i a h);
    twos = λ i a b h. joined_before (is_marker s b) (is_marker s a) (subst (λ (x : Side). joined x (is_marker s b) (is_marker s a) ≡ true) e (doubles i b a ((unflipped (pieces s)).twos i a b h)));
    distinct = λ i j p h k. flip_distinct p i j h k;
    has_ones = λ a b h m n. let r = tile_image a (in_range s.axis b a h).1 m (demand_second b a e h n) in (r.0, (flipped (pieces s)).ones r.0 a r.1);
    has_twos = λ a b h m n. let r = pair_image b a h (subst (λ (x : Side). joined x (is_marker s b) (is_marker s a) ≡ true) (sym e) (rw (n, m) refl)) in (r.0, (flipped (pieces s)).twos r.0 b a r.1);
  }
    where
      flip_distinct : (p : Image) (i j : ℕ) → slice_get (map flip (pieces s)) i ≡ Some p → slice_get (map flip (pieces s)) j ≡ Some p → i ≡ j
      flip_distinct (Single a) i j h k = distinct i j (Single a) ((unflipped (pieces s)).ones i a h) ((unflipped (pieces s)).ones j a k)
      flip_distinct (Double a b) i j h k = distinct i j (Double b a) ((unflipped (pieces s)).twos i a b h) ((unflipped (pieces s)).twos j a b k)

  -- a good step allows a good table
  pub good_table : IsGood (step_table s.side (allows s s.axis) (allows s (other s.axis)) (is_marker s) (pieces s))
  good_table = table_of s.side refl
