-- Good steps, each as a record of what holds. The first fault of a step says the same (`good_steps`, `good_restricts`).
use Rattle.std.specs.Prelude.{ℕ, ◌≡◌, ◌<◌, ◌≤◌, [], length, take, slice_get, Some, true, false, not}
use Rattle.std.specs.List.{list_any}
use Rattle.wt_grid.specs.declared.image.Image.TheVariants as image
use Rattle.wt_grid.specs.declared.axis.Axis.{Axis}
use Rattle.wt_tile.specs.Matching.{matches}
use Rattle.wt_step.specs.declared.raw.RawStep.{RawStep}
use Rattle.wt_step.specs.declared.raw.RawRestrict.{RawRestrict}
use Rattle.wt_step.specs.declared.raw.Lost.{Lost}
use Rattle.wt_step.specs.declared.raw.RawLink.{RawLink}
use Rattle.wt_step.specs.declared.raw.RawLink.TheVariants.{Marker, Restrict}
use Rattle.wt_tile.specs.Sets.{IsTileSet}
use Rattle.wt_refute.specs.declared.tree.Refuted.{Refuted}
use Rattle.wt_refute.specs.Refutes.{Refutes}
use Rattle.wt_refute.specs.Placed.{window_of, tile_window}
use Rattle.wt_refute.specs.View.{refutation}
use Rattle.wt_step.specs.Restrict.{kept_fit, lost_fit, is_kept, is_lost, kept_match}
use Rattle.wt_step.specs.Words.{same_image, allows, is_block, image_at, images_match}
use Rattle.wt_step.specs.Faults.{markers_fit, allowed_fit, refuted_fit, images_fit, is_named_well, is_marked_well, is_good_image, is_demanded}

-- a good marker step
pub record IsGoodStep (s : RawStep) : Type 0 where
  pub radius : s.radius ≤ 4
  -- both sets are tile sets
  pub fine : IsTileSet s.fine
  pub coarse : IsTileSet s.coarse
  -- the lists are in order and in range: some fine tiles are markers and others not, and each coarse tile has an image
  pub marker_list : markers_fit s ≡ true
  pub allowed_lists : (axis : Axis) → allowed_fit s axis ≡ true
  pub refuted_list : refuted_fit s ≡ true
  pub image_list : images_fit s ≡ true
  -- allowed pairs match, and the refutations name the other matching pairs once and no more
  pub named : (axis : Axis) (a b : ℕ) → a < length s.fine.tiles → b < length s.fine.tiles → is_named_well s axis a b ≡ true
  -- the tree of each refutation refutes its window, where the windows of the refutations of lower radius are known to be empty
  pub trees : (i : ℕ) (r : Refuted) → slice_get s.refuted i ≡ Some r
      → Refutes s.fine.tiles r.radius s.refuted (window_of r.axis r.a r.b r.radius) (refutation r.tree)
  -- no allowed pair of the axis joins two markers, and none of the other a marker and a non-marker
  pub marked : (axis : Axis) (a b : ℕ) → allows s axis a b ≡ true → is_marked_well s axis a b ≡ true
  -- each image is a non-marker, or an allowed pair in the order of the side
  pub images : (i : ℕ) → i < length s.images → is_good_image s (image_at s i) ≡ true
  -- and comes once
  pub distinct : (i : ℕ) → i < length s.images → list_any (same_image (image_at s i)) (take i s.images) ≡ false
  -- each non-marker that an allowed pair demands is an image, and so is each such pair
  pub has_tiles : (u : ℕ) → u < length s.fine.tiles → is_demanded s u ≡ true → list_any (same_image (image.One u)) s.images ≡ true
  pub has_pairs : (a b : ℕ) → allows s s.axis a b ≡ true → is_block s a b ≡ true → list_any (same_image (image.Two a b)) s.images ≡ true
  -- coarse tiles match as their images do
  pub joins : (axis : Axis) (i j : ℕ) → i < length s.coarse.tiles → j < length s.coarse.tiles
      → matches s.coarse.tiles axis i j ≡ images_match s axis (image_at s i) (image_at s j)

-- a good restrict step
pub record IsGoodRestrict (s : RawRestrict) : Type 0 where
  pub radius : s.radius ≤ 4
  -- both sets are tile sets
  pub fine : IsTileSet s.fine
  pub coarse : IsTileSet s.coarse
  -- the lists are in order and in range, and each coarse tile stands for a kept one
  pub kept_list : kept_fit s ≡ true
  pub lost_list : lost_fit s ≡ true
  -- each fine tile is either kept or lost
  pub sorted : (t : ℕ) → t < length s.fine.tiles → is_lost s t ≡ not (is_kept s t)
  -- the tree of each lost tile refutes its window
  pub trees : (i : ℕ) (l : Lost) → slice_get s.lost i ≡ Some l
      → Refutes s.fine.tiles s.radius [] (tile_window l.tile s.radius) (refutation l.tree)
  -- coarse tiles match as the fine tiles that they stand for
  pub joins : (axis : Axis) (i j : ℕ) → i < length s.coarse.tiles → j < length s.coarse.tiles
      → matches s.coarse.tiles axis i j ≡ kept_match s axis i j

-- a good step of either kind
abbrev pub IsGoodLink : RawLink → Type 0
IsGoodLink (Marker s) = IsGoodStep s
IsGoodLink (Restrict s) = IsGoodRestrict s
