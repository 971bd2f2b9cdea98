-- Steps of either kind.
use Rattle.std.specs.Prelude.{ℕ, Option}
use Rattle.wt_tile.specs.declared.tile.TileList.{TileList}
use Rattle.wt_step.specs.declared.raw.RawLink.{RawLink}
use Rattle.wt_step.specs.declared.raw.RawLink.TheVariants.{Marker, Restrict}
use Rattle.wt_step.specs.declared.raw.StepFault.{StepFault}
use Rattle.wt_step.specs.Faults.{step_fault}
use Rattle.wt_step.specs.Restrict.{restrict_fault}

-- the first failing condition of a step; a good step has none
unfoldable pub link_fault : RawLink → Option StepFault
link_fault (Marker s) = step_fault s
link_fault (Restrict s) = restrict_fault s

-- the set that a step takes apart
abbrev pub fine_of : RawLink → TileList
fine_of (Marker s) = s.fine
fine_of (Restrict s) = s.fine

-- the set of the coarse patterns that it gives
abbrev pub coarse_of : RawLink → TileList
coarse_of (Marker s) = s.coarse
coarse_of (Restrict s) = s.coarse

-- how many lines a core loses on each side
abbrev pub radius_of : RawLink → ℕ
radius_of (Marker s) = s.radius
radius_of (Restrict s) = s.radius
