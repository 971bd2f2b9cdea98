-- The first fault of a step.
use Rattle.std.specs.Prelude.{ℕ, ◌+◌, ◌≡◌, ◌≤◌, length, take, Option, None, Some, Bool, true, ◌&&◌, ◌||◌, not, nat_eq, nat_lt, nat_le, if◌then◌else◌, option_map}
use Rattle.wt_grid.specs.Unless.{unless}
use Rattle.std.specs.List.{list_any, list_all}
use Rattle.wt_grid.specs.Axes.{same_axis}
use Rattle.wt_grid.specs.declared.image.Image.TheVariants as image
use Rattle.wt_grid.specs.declared.image.Image.{Image}
use Rattle.wt_grid.specs.declared.axis.Axis.TheVariants.{One, Two}
use Rattle.wt_grid.specs.declared.axis.Axis.{Axis}
use Rattle.wt_tile.specs.Sets.{set_fault}
use Rattle.wt_tile.specs.Matching.{matches}
use Rattle.wt_refute.specs.declared.tree.Refuted.{Refuted}
use Rattle.wt_refute.specs.Refutes.{tree_fault}
use Rattle.wt_step.specs.declared.raw.RawStep.{RawStep}
use Rattle.wt_step.specs.declared.raw.StepFault.{StepFault}
use Rattle.wt_step.specs.declared.raw.StepFault.TheVariants.{Radius, Fine, Coarse, Markers, Allowed, RefutedList, Images, Pair, Node, Marker, MissingTile, MissingPair, Join}
use Rattle.wt_step.specs.declared.raw.StepFault.TheVariants as fault
use Rattle.wt_step.specs.Words.{entry_fits, image_fits, same_image, allowed, allows, is_marker, is_barred, entry_at, times, is_block, demands, image_at, images_match}
use Rattle.wt_refute.specs.Entries.{entries_follow}
use Rattle.wt_grid.specs.Pairs.{pairs_follow, pair_fits}
use Rattle.wt_grid.specs.First.{or_else, first_from}
use Rattle.wt_grid.specs.Order.{in_order, first_in, is_below, comes_before, agree}

-- Lists in order and in range.

-- the markers ascend, are fine tiles, and are neither none nor all of them
abbrev pub markers_fit : RawStep → Bool
markers_fit s = in_order (is_below (length s.fine.tiles)) comes_before s.markers && nat_lt 0 (length s.markers) && nat_lt (length s.markers) (length s.fine.tiles)

-- the allowed pairs of an axis ascend and are of fine tiles
abbrev pub allowed_fit : RawStep → Axis → Bool
allowed_fit s axis = in_order (pair_fits (length s.fine.tiles)) pairs_follow (allowed s axis)

-- the refutations ascend, are of fine tiles, and have a radius of at most that of the step
abbrev pub refuted_fit : RawStep → Bool
refuted_fit s = in_order (entry_fits s.radius (length s.fine.tiles)) entries_follow s.refuted

-- the images are as many as the coarse tiles, and of fine tiles
abbrev pub images_fit : RawStep → Bool
images_fit s = nat_eq (length s.images) (length s.coarse.tiles) && list_all (image_fits (length s.fine.tiles)) s.images

-- the first list, in the order of the variants, that is no tile set, out of order or out of range
unfoldable pub shape_fault : RawStep → Option StepFault
shape_fault s =
    or_else (unless (nat_le s.radius 4) Radius)
    (or_else (option_map Fine (set_fault s.fine))
    (or_else (option_map Coarse (set_fault s.coarse))
    (or_else (unless (markers_fit s) Markers)
    (or_else (unless (allowed_fit s One) (Allowed One))
    (or_else (unless (allowed_fit s Two) (Allowed Two))
    (or_else (unless (refuted_fit s) RefutedList)
    (unless (images_fit s) Images)))))))

-- Each pair is allowed, or refuted, or doesn't match.

-- the first wrong node of the tree of a refutation of this pair, where there is one
abbrev pub tree_answer : RawStep → Axis → ℕ → ℕ → ℕ → Option Refuted → Option StepFault
tree_answer s axis a b radius None = None
tree_answer s axis a b radius (Some r) = option_map (Node axis a b) (tree_fault s.fine.tiles axis a b radius s.refuted r.tree)

-- the first wrong node of the tree by which the pair is refuted at a radius, where it is
abbrev pub tree_fault_at : RawStep → Axis → ℕ → ℕ → ℕ → Option StepFault
tree_fault_at s axis a b radius = tree_answer s axis a b radius (entry_at s axis a b radius)

-- the first wrong node of a tree of the pair, by the radius
abbrev pub trees_fault : RawStep → Axis → ℕ → ℕ → Option StepFault
trees_fault s axis a b = first_from (tree_fault_at s axis a b) 0 (s.radius + 1)

-- an allowed pair matches, and the refutations name the barred pairs once and no others
abbrev pub is_named_well : RawStep → Axis → ℕ → ℕ → Bool
is_named_well s axis a b =
    if is_barred s axis a b then nat_eq (times s axis a b) 1
    else (matches s.fine.tiles axis a b || not (allows s axis a b)) && nat_eq (times s axis a b) 0

-- the pair is neither allowed nor refuted once nor without a match, or its tree is wrong
abbrev pub pair_fault : RawStep → Axis → ℕ → ℕ → Option StepFault
pair_fault s axis a b =
    or_else (unless (is_named_well s axis a b) (Pair axis a b))
    (if is_barred s axis a b then trees_fault s axis a b else None)

-- the first fault of a pair with this first tile
abbrev pub row_fault : RawStep → Axis → ℕ → Option StepFault
row_fault s axis a = first_from (pair_fault s axis a) 0 (length s.fine.tiles)

-- the first fault of a pair along an axis, by the first tile and then by the second
abbrev pub pairs_fault : RawStep → Axis → Option StepFault
pairs_fault s axis = first_from (row_fault s axis) 0 (length s.fine.tiles)

-- Markers stand in lines, and no two lines of them are neighbours.

-- along the step's axis the two are not both markers, and along the other axis both are or neither is
abbrev pub is_marked_well : RawStep → Axis → ℕ → ℕ → Bool
is_marked_well s axis a b =
    if same_axis axis s.axis then not (is_marker s a && is_marker s b)
    else agree (is_marker s a) (is_marker s b)

-- an allowed pair of two markers along the axis, or of a marker and a non-marker along the other
abbrev pub marker_fault_at : RawStep → Axis → ℕ × ℕ → Option StepFault
marker_fault_at s axis p = unless (is_marked_well s axis p.0 p.1) (Marker axis p.0 p.1)

-- the first such pair of an axis; the list ascends, so the first in it is the least
abbrev pub marker_fault : RawStep → Axis → Option StepFault
marker_fault s axis = first_in (marker_fault_at s axis) (allowed s axis)

-- Each image is a non-marker or a block, and comes once.

-- an image is a non-marker, or an allowed pair of the axis that is a block
abbrev pub is_good_image : RawStep → Image → Bool
is_good_image s (image.One a) = not (is_marker s a)
is_good_image s (image.Two a b) = allows s s.axis a b && is_block s a b

-- image i is neither of these, or it came before
abbrev pub image_fault_at : RawStep → ℕ → Option StepFault
image_fault_at s i = unless (is_good_image s (image_at s i) && not (list_any (same_image (image_at s i)) (take i s.images))) (fault.Image i)

-- the first such image
abbrev pub image_fault : RawStep → Option StepFault
image_fault s = first_from (image_fault_at s) 0 (length s.images)

-- Each demanded image is there.

-- a non-marker that has to be an image: an allowed pair of the axis has it, and no marker on the marker's side of it
abbrev pub is_demanded : RawStep → ℕ → Bool
is_demanded s u = not (is_marker s u) && list_any (demands s u) (allowed s s.axis)

-- tile u has to be an image and is none
abbrev pub missing_tile_at : RawStep → ℕ → Option StepFault
missing_tile_at s u = unless (not (is_demanded s u) || list_any (same_image (image.One u)) s.images) (MissingTile u)

-- the first such tile
abbrev pub missing_tile : RawStep → Option StepFault
missing_tile s = first_from (missing_tile_at s) 0 (length s.fine.tiles)

-- an allowed pair is a block and no image
abbrev pub missing_pair_at : RawStep → ℕ × ℕ → Option StepFault
missing_pair_at s p = unless (not (is_block s p.0 p.1) || list_any (same_image (image.Two p.0 p.1)) s.images) (MissingPair p.0 p.1)

-- the first such pair of the axis
abbrev pub missing_pair : RawStep → Option StepFault
missing_pair s = first_in (missing_pair_at s) (allowed s s.axis)

-- Coarse tiles match as their images do.

-- coarse tiles i and j match where their images don't, or the other way round
abbrev pub join_fault_at : RawStep → Axis → ℕ → ℕ → Option StepFault
join_fault_at s axis i j = unless (agree (matches s.coarse.tiles axis i j) (images_match s axis (image_at s i) (image_at s j))) (Join axis i j)

-- the first such pair with first tile i
abbrev pub join_row : RawStep → Axis → ℕ → Option StepFault
join_row s axis i = first_from (join_fault_at s axis i) 0 (length s.coarse.tiles)

-- the first such pair of an axis
abbrev pub join_fault : RawStep → Axis → Option StepFault
join_fault s axis = first_from (join_row s axis) 0 (length s.coarse.tiles)

-- the first condition that fails of those that ask lists in order and in range
unfoldable pub rules_fault : RawStep → Option StepFault
rules_fault s =
    or_else (pairs_fault s One)
    (or_else (pairs_fault s Two)
    (or_else (marker_fault s One)
    (or_else (marker_fault s Two)
    (or_else (image_fault s)
    (or_else (missing_tile s)
    (or_else (missing_pair s)
    (or_else (join_fault s One)
    (join_fault s Two))))))))

-- the first failing condition, in the order of the variants
unfoldable pub step_fault : RawStep → Option StepFault
step_fault s = or_else (shape_fault s) (rules_fault s)

-- what the tests of pairs stand on
pub record IsShaped (s : RawStep) : Type 0 where
  pub radius : s.radius ≤ 4
  pub fine : set_fault s.fine ≡ None
  pub coarse : set_fault s.coarse ≡ None
  pub markers : markers_fit s ≡ true
  pub allowed : (axis : Axis) → allowed_fit s axis ≡ true
  pub refuted : refuted_fit s ≡ true
  pub images : images_fit s ≡ true
