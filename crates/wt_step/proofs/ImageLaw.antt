-- Each valid coarse pattern of a good step has an image, and that is valid.
use Rattle.std.proofs.Common.{arith, ◌≡◌, ◌<◌, ℕ, zero, suc, List, [], ◌∷◌, length, get_or, Bool, true, false, ◌&&◌, ◌||◌, not, nat_eq, nat_lt, if◌then◌else◌, refl, sym, ◌∙◌, ap, subst}
use Rattle.std.proofs.lemmas.Bool.{and_parts}
use Rattle.std.specs.List.{list_all}
use Rattle.wt_grid.specs.Axes.{other}
use Rattle.wt_grid.specs.declared.image.Image.TheVariants.{One as Single, Two as Double}
use Rattle.wt_grid.specs.declared.image.Image.{Image}
use Rattle.wt_grid.specs.declared.axis.Axis.{Axis}
use Rattle.std.proofs.lemmas.Bool.Decides.{nat_tests}
use Rattle.std.proofs.lemmas.List.{length-map}
use Rattle.std.proofs.Math.ListN.{get_or-map}
use Rattle.wt_tile.specs.Matching.{matches}
use Rattle.wt_pattern.specs.Patterns.{IsPattern}
use Rattle.wt_grid.specs.Lines.{IsImage}
use Rattle.wt_grid.specs.Grid.{Grid, lines}
use Rattle.wt_grid.specs.Parts.{AllBelow}
use Rattle.wt_grid.specs.Images.{piece_at, is_pair, PieceBelow, image_grid}
use Rattle.wt_grid.specs.Images.{first_tile as first_of, last_tile as last_of}
use Rattle.wt_grid.proofs.Coarse.{MatchAcross}
use Rattle.wt_grid.proofs.ImageGrids.{valid_image}
use Rattle.wt_step.specs.declared.raw.RawStep.{RawStep}
use Rattle.wt_step.specs.Words.{allows, is_block, image_at, image_fits, images_match, pieces_match, times}
use Rattle.wt_step.specs.Faults.{is_good_image}
use Rattle.wt_step.specs.Good.{IsGoodStep}
use Rattle.wt_morphism.specs.Images.{piece}
use Rattle.wt_step.specs.Meaning.{pieces}
use Rattle.wt_step.proofs.Tables.{same_itself, not_other, in_range}
use Rattle.wt_step.proofs.Desubstitution.{count_images}

fit_at : (n : ℕ) (xs : List Image) (i : ℕ) → list_all (image_fits n) xs ≡ true → i < length xs → image_fits n (get_or xs i (Single 0)) ≡ true
fit_at n [] i h lt = absurd (omega arith)
fit_at n (x ∷ xs) i h lt = elim i as (λ k. k < length (x ∷ xs) → image_fits n (get_or (x ∷ xs) k (Single 0)) ≡ true) [
  | zero ↦ λ l. (and_parts (image_fits n x) (list_all (image_fits n) xs) h).0
  | suc k ↦ λ l. fit_at n xs k (and_parts (image_fits n x) (list_all (image_fits n) xs) h).1 (omega arith)
] lt

fit_below : (n : ℕ) (x : Image) → image_fits n x ≡ true → PieceBelow n (piece x)
fit_below n (Single a) h = grind (arith, nat_tests, h)
fit_below n (Double a b) h = let f = and_parts (nat_lt a n) (nat_lt b n) h in (grind (arith, nat_tests, f.0), grind (arith, nat_tests, f.1))

first_is : (x : Image) → first_of (piece x) ≡ first_of x
first_is (Single a) = refl
first_is (Double a b) = refl

last_is : (x : Image) → last_of (piece x) ≡ last_of x
last_is (Single a) = refl
last_is (Double a b) = refl

piecewise : (ts : List _) (axis : Axis) (x y : Image) → pieces_match ts axis x y ≡ true → MatchAcross (matches ts axis) (piece x) (piece y)
piecewise ts axis (Single a) (Single b) m = m
piecewise ts axis (Single a) (Double c d) m = absurd cc
piecewise ts axis (Double a b) (Single c) m = absurd cc
piecewise ts axis (Double a b) (Double c d) m = and_parts (matches ts axis a c) (matches ts axis b d) m

not_barred : (m a : Bool) (n : Bool) (t0 t1 : Bool) → a ≡ true → (if m && not a then t1 else (m || not a) && t0) ≡ true → m ≡ true
not_barred true a n t0 t1 e h = refl
not_barred false a n t0 t1 e h = absurd (let k = rw e at h in cc k)

module _ (s : RawStep) (g : IsGoodStep s) where
  -- an allowed pair matches
  pub allowed_match : (axis : Axis) (a b : ℕ) → allows s axis a b ≡ true → matches s.fine.tiles axis a b ≡ true
  allowed_match axis a b h =
      let r = in_range s g axis a b h in
      not_barred (matches s.fine.tiles axis a b) (allows s axis a b) true (nat_eq (times s axis a b) 0) (nat_eq (times s axis a b) 1) h (g.named axis a b r.0 r.1)

  at_piece : (i : ℕ) → piece_at (pieces s) i ≡ piece (image_at s i)
  at_piece i = get_or-map piece s.images i (Single 0)

  images_long : length (pieces s) ≡ length s.images
  images_long = length-map s.images piece

  images_count : length (pieces s) ≡ length s.coarse.tiles
  images_count = images_long ∙ count_images s g

  joined_match : (axis : Axis) (i j : ℕ) → i < length (pieces s) → j < length (pieces s) → matches s.coarse.tiles axis i j ≡ true → images_match s axis (image_at s i) (image_at s j) ≡ true
  joined_match axis i j li lj m = let n = images_count in sym (g.joins axis i j (omega arith) (omega arith)) ∙ m

  joined : (i j : ℕ) → i < length (pieces s) → j < length (pieces s) → matches s.coarse.tiles s.axis i j ≡ true → matches s.fine.tiles s.axis (last_of (piece_at (pieces s) i)) (first_of (piece_at (pieces s) j)) ≡ true
  joined i j li lj m =
      let k : matches s.fine.tiles s.axis (last_of (image_at s i)) (first_of (image_at s j)) ≡ true = rw (same_itself s.axis) at (joined_match s.axis i j li lj m) in
      let e : last_of (piece_at (pieces s) i) ≡ last_of (image_at s i) = ap last_of (at_piece i) ∙ last_is (image_at s i) in
      let f : first_of (piece_at (pieces s) j) ≡ first_of (image_at s j) = ap first_of (at_piece j) ∙ first_is (image_at s j) in
      rw (e, f) k

  stacked : (i j : ℕ) → i < length (pieces s) → j < length (pieces s) → matches s.coarse.tiles (other s.axis) i j ≡ true → MatchAcross (matches s.fine.tiles (other s.axis)) (piece_at (pieces s) i) (piece_at (pieces s) j)
  stacked i j li lj m =
      let k : pieces_match s.fine.tiles (other s.axis) (image_at s i) (image_at s j) ≡ true = rw (not_other s.axis) at (joined_match (other s.axis) i j li lj m) in
      let p = piecewise s.fine.tiles (other s.axis) (image_at s i) (image_at s j) k in
      subst (λ (x : Image). MatchAcross (matches s.fine.tiles (other s.axis)) x (piece_at (pieces s) j)) (sym (at_piece i))
      (subst (λ (y : Image). MatchAcross (matches s.fine.tiles (other s.axis)) (piece (image_at s i)) y) (sym (at_piece j)) p)

  block_of : (x : Image) → is_good_image s x ≡ true → is_pair (piece x) ≡ true → matches s.fine.tiles s.axis (first_of (piece x)) (last_of (piece x)) ≡ true
  block_of (Single a) h p = absurd cc
  block_of (Double a b) h p = allowed_match s.axis a b (and_parts (allows s s.axis a b) (is_block s a b) h).0

  blocks : (i : ℕ) → i < length (pieces s) → is_pair (piece_at (pieces s) i) ≡ true → matches s.fine.tiles s.axis (first_of (piece_at (pieces s) i)) (last_of (piece_at (pieces s) i)) ≡ true
  blocks i li p =
      let n = images_long in
      subst (λ (x : Image). matches s.fine.tiles s.axis (first_of x) (last_of x) ≡ true) (sym (at_piece i))
      (block_of (image_at s i) (g.images i (omega arith)) (subst (λ (x : Image). is_pair x ≡ true) (at_piece i) p))

  tiles : (i : ℕ) → i < length (pieces s) → PieceBelow (length s.fine.tiles) (piece_at (pieces s) i)
  tiles i li =
      let n = images_long in
      let f = (and_parts (nat_eq (length s.images) (length s.coarse.tiles)) (list_all (image_fits (length s.fine.tiles)) s.images) g.image_list).1 in
      subst (λ (x : Image). PieceBelow (length s.fine.tiles) x) (sym (at_piece i)) (fit_below (length s.fine.tiles) (image_at s i) (fit_at (length s.fine.tiles) s.images i f (omega arith)))

  pub image_valid : (q : Grid) → IsPattern s.coarse.tiles q
      → IsPattern s.fine.tiles (image_grid s.axis (pieces s) q) × IsImage (pieces s) (lines s.axis q) (lines s.axis (image_grid s.axis (pieces s) q))
  image_valid q p =
      let f = matches s.fine.tiles in
      let c = matches s.coarse.tiles in
      let a = s.axis in
      let r = valid_image a f c (pieces s) (length s.fine.tiles)
      (λ i j li lj m. joined i j li lj m)
      (λ i j li lj m. stacked i j li lj m)
      (λ i li h. blocks i li h)
      tiles q p.0 (subst (λ (n : ℕ). AllBelow n q) (sym images_count) p.1) p.2 in
      ((r.0, r.1, r.2), r.3)
