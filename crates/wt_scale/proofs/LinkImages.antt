-- Each valid coarse pattern of a good step, of either kind, has an image, which is valid and no smaller.
use Rattle.std.proofs.Common.{arith, ◌≡◌, ◌<◌, ◌≤◌, ◌+◌, ℕ, suc, List, [], ◌∷◌, length, get_or, None, true, false, nat_eq, refl, sym, ◌∙◌, ap, subst}
use Rattle.wt_step.proofs.Tables.{same_itself}
use Rattle.wt_chain.proofs.Turned.{across_same}
use Rattle.std.proofs.lemmas.Bool.{and_parts}
use Rattle.wt_grid.specs.Axes.{same_axis}
use Rattle.wt_grid.specs.declared.image.Image.TheVariants.{One as Single}
use Rattle.wt_grid.specs.declared.axis.Axis.TheVariants.{One, Two}
use Rattle.wt_grid.specs.declared.axis.Axis.{Axis}
use Rattle.std.proofs.lemmas.Bool.Decides.{nat_tests}
use Rattle.std.proofs.lemmas.List.{length-map}
use Rattle.std.proofs.Math.ListN.{get_or-map}
use Rattle.wt_tile.specs.Matching.{matches}
use Rattle.wt_pattern.specs.Patterns.{IsPattern}
use Rattle.wt_grid.specs.Order.{in_order, is_below, comes_before}
use Rattle.wt_grid.specs.Lines.{IsImage}
use Rattle.wt_grid.specs.Grid.{Grid, along, across, lines, of_lines}
use Rattle.wt_grid.specs.Parts.{AllBelow}
use Rattle.wt_grid.specs.Images.{piece_at, is_pair, is_double, image_lines}
use Rattle.wt_grid.proofs.Grids.{length_lines}
use Rattle.wt_grid.proofs.ImageGrids.{valid_image, image_count}
use Rattle.wt_step.specs.declared.raw.RawRestrict.{RawRestrict}
use Rattle.wt_step.specs.declared.raw.RawLink.{RawLink}
use Rattle.wt_step.specs.declared.raw.RawLink.TheVariants.{Marker, Restrict}
use Rattle.wt_step.specs.Good.{IsGoodRestrict}
use Rattle.wt_step.specs.Links.{link_fault, coarse_of}
use Rattle.wt_step.specs.Meaning.{kept_pieces}
use Rattle.wt_step.proofs.Goodness.{good_step}
use Rattle.wt_step.proofs.Restricted.{good_restrict}
use Rattle.wt_step.proofs.ImageLaw.{image_valid}
use Rattle.wt_chain.specs.Turns.{axis_of, image_under}
use Rattle.wt_step.specs.Meaning.{pieces_of}
use Rattle.wt_chain.proofs.Grown.{first_fits}
use Rattle.wt_scale.specs.Existence.{HasValidImage}

-- ---- sizes

long_of : (axis : Axis) (m : ℕ) (ls : List (List ℕ)) → along axis (of_lines axis m ls) ≡ length ls
long_of One m ls = refl
long_of Two m ls = refl

module _ (l : RawLink) (q : Grid) where
  wide_image : across (axis_of l) (image_under l q) ≡ across (axis_of l) q
  wide_image = across_same (axis_of l) (across (axis_of l) q) (image_lines (pieces_of l) (lines (axis_of l) q))

  long_image : along (axis_of l) (image_under l q) ≡ length (image_lines (pieces_of l) (lines (axis_of l) q))
  long_image = long_of (axis_of l) (across (axis_of l) q) (image_lines (pieces_of l) (lines (axis_of l) q))

  longer_image : (along (axis_of l) q ≤ along (axis_of l) (image_under l q)) × (along (axis_of l) (image_under l q) ≤ along (axis_of l) q + along (axis_of l) q)
  longer_image =
      let c = image_count (pieces_of l) (lines (axis_of l) q) in
      let n = length_lines (axis_of l) q in
      let e = long_image in
      (omega (arith, c.0, n, e), omega (arith, c.1, n, e))

-- an image is no smaller, either way
no_smaller_along : (axis : Axis) (q g : Grid) → across axis g ≡ across axis q → along axis q ≤ along axis g → (q.width ≤ g.width) × (q.height ≤ g.height)
no_smaller_along One q g a l = (l, omega arith)
no_smaller_along Two q g a l = (omega arith, l)

pub no_smaller : (l : RawLink) (q : Grid) → (q.width ≤ (image_under l q).width) × (q.height ≤ (image_under l q).height)
no_smaller l q = no_smaller_along (axis_of l) q (image_under l q) (wide_image l q) (longer_image l q).0

-- ---- restrict steps

module _ (s : RawRestrict) (e : link_fault (Restrict s) ≡ None) (g : IsGoodRestrict s) where
  kept_piece : (i : ℕ) → piece_at (kept_pieces s) i ≡ Single (get_or s.kept i 0)
  kept_piece i = get_or-map Single s.kept i 0

  kept_count : length (kept_pieces s) ≡ length s.coarse.tiles
  kept_count =
      let b = (and_parts (in_order (is_below (length s.fine.tiles)) comes_before s.kept) (nat_eq (length s.kept) (length s.coarse.tiles)) g.kept_list).1 in
      let n : length s.kept ≡ length s.coarse.tiles = grind (arith, nat_tests, b) in
      length-map s.kept Single ∙ n

  kept_matches : (axis : Axis) (i j : ℕ) → i < length (kept_pieces s) → j < length (kept_pieces s) → matches s.coarse.tiles axis i j ≡ true → matches s.fine.tiles axis (get_or s.kept i 0) (get_or s.kept j 0) ≡ true
  kept_matches axis i j li lj m = let n = kept_count in sym (g.joins axis i j (omega arith) (omega arith)) ∙ m

  kept_valid : (q : Grid) → IsPattern s.coarse.tiles q → IsPattern s.fine.tiles (image_under (Restrict s) q) × IsImage (kept_pieces s) (lines One q) (lines One (image_under (Restrict s) q))
  kept_valid q p =
      let r = valid_image One (matches s.fine.tiles) (matches s.coarse.tiles) (kept_pieces s) (length s.fine.tiles)
      (λ i j li lj m. rw (kept_piece i, kept_piece j) (kept_matches One i j li lj m))
      (λ i j li lj m. rw (kept_piece i, kept_piece j) (kept_matches Two i j li lj m))
      (λ i li h. absurd (let k = rw (kept_piece i) at h in cc k))
      (λ i li. let n = kept_count in rw (kept_piece i) (first_fits (Restrict s) e i (omega arith)))
      q p.0 (subst (λ (n : ℕ). AllBelow n q) (sym kept_count) p.1) p.2 in
      ((r.0, r.1, r.2), r.3)

  kept_single : (q : List ℕ) → is_double (kept_pieces s) q ≡ false
  kept_single [] = refl
  kept_single (i ∷ is) = ap is_pair (kept_piece i)

  kept_lines : (qs : List (List ℕ)) → length (image_lines (kept_pieces s) qs) ≡ length qs
  kept_lines [] = refl
  kept_lines (q ∷ qs) = rw (kept_single q) (ap suc (kept_lines qs))

-- ---- steps of either kind

pub link_image : (l : RawLink) → link_fault l ≡ None → (q : Grid) → IsPattern (coarse_of l).tiles q → HasValidImage l q
unfolding link_fault
link_image (Marker s) e q p =
    let v = image_valid s (good_step s e) q p in
    record {
      pattern = v.0;
      image = v.1;
      as_wide = wide_image (Marker s) q;
      longer = (longer_image (Marker s) q).0;
      twice = (longer_image (Marker s) q).1;
      single = λ h. absurd (let t = same_itself s.axis in let f : true ≡ false = sym t ∙ h in cc f);
    }
link_image (Restrict s) e q p =
    let g = good_restrict s e in
    let v = kept_valid s e g q p in
    record {
      pattern = v.0;
      image = v.1;
      as_wide = wide_image (Restrict s) q;
      longer = (longer_image (Restrict s) q).0;
      twice = (longer_image (Restrict s) q).1;
      single = λ h. long_image (Restrict s) q ∙ (kept_lines s e g (lines One q) ∙ length_lines One q);
    }
