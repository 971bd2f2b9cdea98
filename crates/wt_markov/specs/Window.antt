-- Partitions whose markers are the labels beyond the window of an axis.
use Rattle.std.specs.Prelude.{◌≡◌, ℕ, true, false, Bool, [], ◌∷◌, ◌++◌}
use Rattle.wt_plane.specs.HalfPlanes.{reduced_half}
use Rattle.wt_grid.specs.declared.axis.Axis.{Axis}
use Rattle.wt_torus.specs.declared.partition.Labelled.{Labelled}
use Rattle.wt_torus.specs.declared.partition.Partition.{Partition}
use Rattle.wt_torus.specs.Boxes.{Rotation}
use Rattle.wt_induce.specs.Zones.{frame_on, beyond, beneath}
use Rattle.wt_step.specs.declared.raw.RawStep.{RawStep}
use Rattle.wt_step.specs.Words.{is_marker}
use Rattle.wt_markov.specs.Follow.{meets, box}
use Rattle.wt_markov.specs.Markov.{IsRegion}

-- the region is beyond the window of the axis: it has points of the box there
unfoldable pub is_beyond : Axis → Rotation → Labelled → Bool
is_beyond axis r q = meets (q.region.planes ++ (box r ++ (reduced_half (beyond axis (frame_on axis r).size) ∷ [])))

-- the region is inside the window of the axis; it may be beyond it too
unfoldable pub is_inside : Axis → Rotation → Labelled → Bool
is_inside axis r q = meets (q.region.planes ++ (box r ++ (reduced_half (beneath axis (frame_on axis r).size) ∷ [])))

-- for a step of side after
pub record MarkerWindow (s : RawStep) (p : Partition) : Type 0 where
  -- each region beyond the window has a marker as its label
  pub outside : (i : ℕ) (r : Labelled) → IsRegion p i r → is_beyond s.axis p.torus r ≡ true → is_marker s r.label ≡ true
  -- no region inside the window has one
  pub inside : (i : ℕ) (r : Labelled) → IsRegion p i r → is_inside s.axis p.torus r ≡ true → is_marker s r.label ≡ false
  -- each marker is the label of a region beyond the window
  pub somewhere : (a : ℕ) → is_marker s a ≡ true
      → (i : ℕ) × (r : Labelled) × IsRegion p i r × (r.label ≡ a) × (is_beyond s.axis p.torus r ≡ true)
