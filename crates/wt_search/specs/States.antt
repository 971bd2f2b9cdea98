-- Scaffolding: how far a search has come, and how far a step is lightened, as the code keeps it.
use Rattle.std.specs.Prelude.{ℕ, ◌≡◌, ◌≤◌, length, Ok}
use Rattle.wt_grid.specs.declared.axis.Axis.TheVariants.{One, Two}
use Rattle.wt_step.specs.declared.raw.RawStep.{RawStep}
use Rattle.wt_search.specs.declared.lower.Lowered.{Lowered}
use Rattle.wt_search.specs.Light.{light_entries, asked_after}
use Rattle.wt_search.specs.declared.finding.Progress.{Progress}
use Rattle.wt_search.specs.declared.finding.Progress.TheVariants as code
use Rattle.wt_search.specs.declared.limits.TheConstants.{MAX_NODES}
use Rattle.wt_search.specs.Found.{going, over}
use Rattle.wt_search.specs.Found as spec

-- as the definition of a search has it
abbrev pub state_of : Progress → spec.Progress
state_of (code.Going chain nodes) = going chain nodes
state_of (code.Found chain) = over (Ok chain)

-- where the search goes on, it has made n steps, whose trees keep the limit
abbrev pub HasComeTo : ℕ → Progress → Type 0
HasComeTo level (code.Going chain nodes) = (length chain ≡ level) × (nodes ≤ MAX_NODES)
HasComeTo level (code.Found chain) = Unit {0}

-- a step is lightened so far: its entries of radii from 1 to r are there, and of each axis the refuted pairs that have windows of all these radii
pub record IsLoweredTo (s : RawStep) (r : ℕ) (l : Lowered) : Type 0 where
  pub entries : l.entries.items ≡ light_entries s r
  pub one : l.one.items ≡ asked_after s One r
  pub two : l.two.items ≡ asked_after s Two r
  pub few : l.nodes ≤ MAX_NODES
