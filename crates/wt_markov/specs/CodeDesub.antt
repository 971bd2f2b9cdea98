-- What taking a code apart answers.
use Rattle.std.specs.Prelude.{◌≡◌, ◌⊎◌, ℕ, Result, MatchResult, Option, None, Some, option_map, if◌then◌else◌}
use Rattle.wt_plane.specs.HalfPlanes.{Spot}
use Rattle.wt_grid.specs.Grid.{Grid}
use Rattle.wt_grid.specs.First.{or_else}
use Rattle.wt_pattern.specs.Patterns.{IsPattern}
use Rattle.wt_torus.specs.declared.partition.Partition.{Partition}
use Rattle.wt_torus.specs.declared.coded.CodeFault.{CodeFault}
use Rattle.wt_torus.specs.Codes.{code_fault, code_of}
use Rattle.wt_step.specs.declared.raw.RawStep.{RawStep}
use Rattle.wt_step.specs.declared.raw.RawLink.TheVariants.{Marker}
use Rattle.wt_step.specs.declared.coarse.Coarse.{Coarse}
use Rattle.wt_step.specs.declared.coarse.DesubFault.{DesubFault}
use Rattle.wt_step.specs.declared.coarse.DesubFault.TheVariants as desub
use Rattle.wt_step.specs.Meaning.{IsMarkerDesubstitution}
use Rattle.wt_step.specs.Coarse.{has_margin, cuts_low, cuts_high}
use Rattle.wt_markov.specs.declared.fault.CodeDesubFault.{CodeDesubFault}
use Rattle.wt_markov.specs.declared.fault.CodeDesubFault.TheVariants as fault

-- the core of the pattern is too small to be taken apart
abbrev pub margin_fault : RawStep → Grid → Option CodeDesubFault
margin_fault s g = if has_margin (Marker s) g then None else Some fault.TooSmall

-- what is told of a valid pattern that isn't taken apart: a fault of its neighbours never comes
abbrev pub refusal : DesubFault → CodeDesubFault
refusal (desub.NotValid f) = fault.TooSmall
refusal desub.TooSmall = fault.TooSmall
refusal desub.OutOfMemory = fault.OutOfMemory

-- why the code of w by h letters isn't taken apart: the point has none, then its core is too small
abbrev pub code_desub_fault : RawStep → Partition → Spot → ℕ → ℕ → Option CodeDesubFault
code_desub_fault s p z w h = or_else (option_map fault.Code (code_fault p z w h)) (margin_fault s (code_of p z w h))

-- c is what the step makes of the valid pattern g: the coarse pattern whose image is the cut core, and which border lines are cut
pub record IsTakenApart (s : RawStep) (g : Grid) (c : Coarse) : Type 0 where
  pub image : IsMarkerDesubstitution s g c.pattern
  pub valid : IsPattern s.coarse.tiles c.pattern
  pub low_cut : c.low_cut ≡ cuts_low (Marker s) g
  pub high_cut : c.high_cut ≡ cuts_high (Marker s) g

-- a call fails exactly where the code of a point has a fault, and by that one, or where memory runs out
abbrev pub FailsByCode : {T : Type 0} → Result T CodeDesubFault → Option CodeFault → Type 0
FailsByCode result why = MatchResult result (λ _. why ≡ None) (λ e. (option_map fault.Code why ≡ Some e) ⊎ (e ≡ fault.OutOfMemory))
