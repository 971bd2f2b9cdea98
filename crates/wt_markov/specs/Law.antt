-- What the laws on codes say: when a step takes the code of a point apart, and what it makes of it.
use Rattle.std.specs.Prelude.{◌≡◌, ◌≤◌, ℕ, None, true, false}
use Rattle.wt_plane.specs.HalfPlanes.{Spot, IsSpot}
use Rattle.wt_grid.specs.Grid.{Grid, IsGrid, along}
use Rattle.wt_grid.specs.declared.axis.Side.TheVariants.{After}
use Rattle.wt_pattern.specs.Patterns.{IsPattern}
use Rattle.wt_torus.specs.declared.partition.Partition.{Partition}
use Rattle.wt_torus.specs.Codes.{IsCode}
use Rattle.wt_torus.specs.Sound.{IsSound}
use Rattle.wt_induce.specs.Law.{is_half, block_lines}
use Rattle.wt_step.specs.declared.raw.RawStep.{RawStep}
use Rattle.wt_step.specs.declared.raw.RawLink.TheVariants.{Marker}
use Rattle.wt_step.specs.Faults.{step_fault}
use Rattle.wt_step.specs.Meaning.{IsMarkerDesubstitution}
use Rattle.wt_step.specs.Coarse.{has_margin}
use Rattle.wt_step.specs.Carried.{lines_below}
use Rattle.wt_markov.specs.Window.{MarkerWindow}
use Rattle.wt_markov.specs.Agree.{Agrees, block_spot}

-- the step's side is after, twice the move along its axis isn't the length, and its markers are the labels beyond the window
abbrev pub MarksWindow : RawStep → Partition → Type 0
MarksWindow s p = (s.side ≡ After) × (is_half s.axis p.torus ≡ false) × MarkerWindow s p

-- A good step whose markers are the labels beyond the window of a sound partition; and g is the code of a point, with a
-- margin that the step leaves.
pub record IsCodeFor (s : RawStep) (p : Partition) (z : Spot) (g : Grid) : Type 0 where
  pub good : step_fault s ≡ None
  pub sound : IsSound p
  pub marks : MarksWindow s p
  pub spot : IsSpot z
  pub code : IsCode p z g
  pub margin : has_margin (Marker s) g ≡ true

-- q is a rectangle that the step makes of g
pub record IsMadeOf (s : RawStep) (g q : Grid) : Type 0 where
  pub grid : IsGrid q
  pub image : IsMarkerDesubstitution s g q

-- the step makes of the code g a valid coarse pattern that agrees with the induced code
abbrev pub MakesAgreeing : RawStep → Partition → Spot → Grid → Type 0
MakesAgreeing s p z g = (q : Grid) × IsMarkerDesubstitution s g q × IsPattern s.coarse.tiles q × Agrees s p z g q

-- from the point at which the first block begins, the first k returns fill as many lines as the first k blocks
abbrev pub BlocksAreReturns : RawStep → Partition → Spot → Grid → Grid → Type 0
BlocksAreReturns s p z g q =
    (k : ℕ) → k ≤ along s.axis q → block_lines s.axis p.torus (block_spot s p z g q 0 0) k ≡ lines_below s q k
