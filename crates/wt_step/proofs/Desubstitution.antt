-- The law of desubstitution of a good step.
use Rattle.std.proofs.Common.{arith, ◌≡◌, ◌≤◌, ◌++◌, ℕ, List, length, slice_get, Option, None, Some, option_map, true, nat_eq, refl, sym, ◌∙◌, ap, subst}
use Rattle.std.proofs.lemmas.Bool.{and_parts}
use Rattle.std.specs.List.{list_all}
use Rattle.wt_grid.specs.Axes.{other}
use Rattle.wt_grid.specs.Images.{first_tile, last_tile}
use Rattle.wt_grid.specs.declared.image.Image.TheVariants.{One as Single, Two as Double}
use Rattle.wt_grid.specs.declared.image.Image.{Image}
use Rattle.wt_grid.specs.declared.axis.Axis.TheVariants.{One, Two}
use Rattle.wt_grid.specs.declared.axis.Axis.{Axis}
use Rattle.std.proofs.lemmas.Bool.Decides.{nat_tests}
use Rattle.std.proofs.lemmas.Option.{slice_get-map}
use Rattle.std.proofs.lemmas.List.{length-map}
use Rattle.wt_tile.specs.Matching.{matches}
use Rattle.wt_grid.specs.Lines.{IsGood, IsImage}
use Rattle.wt_grid.proofs.Coarse.{first, last, MatchAcross}
use Rattle.wt_grid.specs.Grid.{Grid, IsGrid, along, across, lines}
use Rattle.wt_grid.specs.Cuts.{step_table, closed, Fills}
use Rattle.wt_grid.specs.Parts.{core, AllBelow}
use Rattle.wt_grid.proofs.Parts.{core_valid}
use Rattle.wt_grid.proofs.Rectangles.{some_grid, one_grid, wide_along}
use Rattle.wt_grid.proofs.Grids.{length_lines, long_lines, filled_long}
use Rattle.wt_grid.proofs.Runs.{same_blocks_of}
use Rattle.wt_step.specs.declared.raw.RawStep.{RawStep}
use Rattle.wt_step.specs.Words.{allows, is_marker, image_at, image_fits, images_match, pieces_match}
use Rattle.wt_step.specs.Good.{IsGoodStep}
use Rattle.wt_morphism.specs.Images.{piece}
use Rattle.wt_step.specs.Meaning.{allowing, pieces, IsMarkerDesubstitution}
use Rattle.wt_pattern.specs.Patterns.{IsPattern}
use Rattle.wt_step.proofs.Tables.{good_table, some_of, same_itself, not_other}
use Rattle.wt_step.proofs.Cores.{core_allowed}

first_piece : (x : Image) → first (piece x) ≡ first_tile x
first_piece (Single a) = refl
first_piece (Double a b) = refl

last_piece : (x : Image) → last (piece x) ≡ last_tile x
last_piece (Single a) = refl
last_piece (Double a b) = refl

-- the image that a piece comes from
of_piece : (o : Option Image) (p : Image) → option_map piece o ≡ Some p → (x : Image) × (o ≡ Some x) × (piece x ≡ p)
of_piece None p e = absurd cc
of_piece (Some x) p e = let f : Some (piece x) ≡ Some p = e in (x, refl, cc)

matched_pieces : (ts : List _) (axis : Axis) (x y : Image) → MatchAcross (matches ts axis) (piece x) (piece y) → pieces_match ts axis x y ≡ true
matched_pieces ts axis (Single a) (Single b) m = m
matched_pieces ts axis (Single a) (Double c d) m = absurd m
matched_pieces ts axis (Double a b) (Single c) m = absurd m
matched_pieces ts axis (Double a b) (Double c d) m = rw (m.0, m.1) refl

module _ (s : RawStep) (g : IsGoodStep s) where
  pub count_images : length s.images ≡ length s.coarse.tiles
  count_images = let e = (and_parts (nat_eq (length s.images) (length s.coarse.tiles)) (list_all (image_fits (length s.fine.tiles)) s.images) g.image_list).0 in grind (arith, nat_tests, e)

  -- coarse tiles match where their images do
  joined_images : (axis : Axis) (i j : ℕ) (x y : Image) → slice_get s.images i ≡ Some x → slice_get s.images j ≡ Some y → images_match s axis x y ≡ true → matches s.coarse.tiles axis i j ≡ true
  joined_images axis i j x y e f m =
      let a = some_of s.images i x (Single 0) e in
      let b = some_of s.images j y (Single 0) f in
      let li = a.0 in let lj = b.0 in let n = count_images in
      g.joins axis i j (omega arith) (omega arith)
      ∙ (subst (λ (u : Image). images_match s axis u (image_at s j) ≡ true) (sym a.1) (subst (λ (v : Image). images_match s axis x v ≡ true) (sym b.1) m))

  joins : (i j : ℕ) (p r : Image) → slice_get (pieces s) i ≡ Some p → slice_get (pieces s) j ≡ Some r → matches s.fine.tiles s.axis (last p) (first r) ≡ true → matches s.coarse.tiles s.axis i j ≡ true
  joins i j p r e f m =
      let x = of_piece (slice_get s.images i) p (sym (slice_get-map piece s.images i) ∙ e) in
      let y = of_piece (slice_get s.images j) r (sym (slice_get-map piece s.images j) ∙ f) in
      let l : last p ≡ last_tile x.0 = ap last (sym x.2) ∙ last_piece x.0 in
      let k : first r ≡ first_tile y.0 = ap first (sym y.2) ∙ first_piece y.0 in
      let m' : matches s.fine.tiles s.axis (last_tile x.0) (first_tile y.0) ≡ true = subst (λ (v : ℕ). matches s.fine.tiles s.axis (last_tile x.0) v ≡ true) k (subst (λ (u : ℕ). matches s.fine.tiles s.axis u (first r) ≡ true) l m) in
      joined_images s.axis i j x.0 y.0 x.1 y.1 (rw (same_itself s.axis) m')

  stacks : (i j : ℕ) (p r : Image) → slice_get (pieces s) i ≡ Some p → slice_get (pieces s) j ≡ Some r → MatchAcross (matches s.fine.tiles (other s.axis)) p r → matches s.coarse.tiles (other s.axis) i j ≡ true
  stacks i j p r e f m =
      let x = of_piece (slice_get s.images i) p (sym (slice_get-map piece s.images i) ∙ e) in
      let y = of_piece (slice_get s.images j) r (sym (slice_get-map piece s.images j) ∙ f) in
      let m' : MatchAcross (matches s.fine.tiles (other s.axis)) (piece x.0) (piece y.0) = subst (λ (v : Image). MatchAcross (matches s.fine.tiles (other s.axis)) (piece x.0) v) (sym y.2) (subst (λ (u : Image). MatchAcross (matches s.fine.tiles (other s.axis)) u r) (sym x.2) m) in
      joined_images (other s.axis) i j x.0 y.0 x.1 y.1 (rw (not_other s.axis) (matched_pieces s.fine.tiles (other s.axis) x.0 y.0 m'))

  -- the same, said with the axes of rectangles
  the_table : IsGood (step_table s.side (allowing s s.axis) (allowing s (other s.axis)) (is_marker s) (pieces s))
  the_table =
      (good_table s g)

  the_joins : (i j : ℕ) (p r : Image) → slice_get (pieces s) i ≡ Some p → slice_get (pieces s) j ≡ Some r → matches s.fine.tiles s.axis (last p) (first r) ≡ true → matches s.coarse.tiles s.axis i j ≡ true
  the_joins i j p r e f m =
      (joins i j p r e f m)

  the_stacks : (i j : ℕ) (p r : Image) → slice_get (pieces s) i ≡ Some p → slice_get (pieces s) j ≡ Some r → MatchAcross (matches s.fine.tiles (other s.axis)) p r → matches s.coarse.tiles (other s.axis) i j ≡ true
  the_stacks i j p r e f m =
      (stacks i j p r e f m)

  -- Each valid rectangle has a coarse one inside its core, and that is valid.
  pub some_coarse : (c : Grid) → IsPattern s.fine.tiles c → 3 ≤ along s.axis (core s.radius c) → 1 ≤ across s.axis (core s.radius c)
      → (q : Grid) × IsMarkerDesubstitution s c q × IsPattern s.coarse.tiles q
  some_coarse c p la lc =
      let r = some_grid s.axis s.side (allowing s) (matches s.fine.tiles) (matches s.coarse.tiles) (is_marker s) (pieces s) the_table the_joins the_stacks
      (core s.radius c) (core_allowed s g c p.1 p.2) (core_valid (matches s.fine.tiles) s.radius c p.2) la lc in
      let n : length (pieces s) ≡ length s.coarse.tiles = length-map s.images piece ∙ count_images in
      (r.0, r.3, (r.1, subst (λ (n : ℕ). AllBelow n r.0) n r.2, r.4))

  -- And no other.
  pub one_coarse : (c q r : Grid) → 1 ≤ across s.axis (core s.radius c) → IsGrid q → IsGrid r → IsMarkerDesubstitution s c q → IsMarkerDesubstitution s c r → q ≡ r
  one_coarse c q r lc iq ir i j =
      one_grid s.axis s.side (allowing s) (matches s.fine.tiles) (matches s.coarse.tiles) (is_marker s) (pieces s) the_table the_joins the_stacks (core s.radius c) q r lc iq ir i j

  -- Of any other coarse rectangle whose image is a run of lines of the core, each block but the one at the open end is a block of that one, at the same lines.
  pub same_blocks : (c q r : Grid) → 1 ≤ across s.axis (core s.radius c) → IsGrid r → IsMarkerDesubstitution s c q
      → (front run back : List (List ℕ)) → lines s.axis (core s.radius c) ≡ front ++ (run ++ back) → IsImage (pieces s) (lines s.axis r) run
      → (qa : List (List ℕ)) × (qb : List (List ℕ)) × (lines s.axis q ≡ qa ++ (closed s.side (lines s.axis r) ++ qb))
      × Fills s.side (is_marker s) (pieces s) qa qb front back
  same_blocks c q r lc ir i front run back e j =
      let some : 1 ≤ length (lines s.axis r) = (let n = length_lines s.axis r in let w = wide_along s.axis r ir in omega arith) in
      same_blocks_of s.side (allowing s s.axis) (allowing s (other s.axis)) (is_marker s) (pieces s) the_table
      (lines s.axis (core s.radius c)) front run back (lines s.axis q) (lines s.axis r)
      (filled_long (across s.axis (core s.radius c)) (lines s.axis (core s.radius c)) lc (long_lines s.axis (core s.radius c))) e some j i
