-- The sets of a good step.
use Rattle.std.proofs.Common.{◌≡◌, None}
use Rattle.wt_tile.specs.Sets.{set_fault}
use Rattle.wt_grid.proofs.First.{neither}
use Rattle.wt_step.specs.declared.raw.RawStep.{RawStep}
use Rattle.wt_step.specs.declared.raw.RawRestrict.{RawRestrict}
use Rattle.wt_step.specs.Faults.{step_fault, shape_fault, rules_fault, IsShaped}
use Rattle.wt_step.specs.Restrict.{restrict_fault, sorting_fault, use_fault, IsSorted}
use Rattle.wt_step.proofs.Shaped.{shaped}
use Rattle.wt_step.proofs.Sorted.{sorted}

marker_shape : (s : RawStep) → step_fault s ≡ None → IsShaped s
unfolding step_fault
marker_shape s e = shaped s (neither (shape_fault s) (rules_fault s) e).0

restrict_shape : (s : RawRestrict) → restrict_fault s ≡ None → IsSorted s
unfolding restrict_fault
restrict_shape s e = sorted s (neither (sorting_fault s) (use_fault s) e).0

pub marker_fine : (s : RawStep) → step_fault s ≡ None → set_fault s.fine ≡ None
marker_fine s e = (marker_shape s e).fine

pub marker_coarse : (s : RawStep) → step_fault s ≡ None → set_fault s.coarse ≡ None
marker_coarse s e = (marker_shape s e).coarse

pub restrict_fine : (s : RawRestrict) → restrict_fault s ≡ None → set_fault s.fine ≡ None
restrict_fine s e = (restrict_shape s e).fine

pub restrict_coarse : (s : RawRestrict) → restrict_fault s ≡ None → set_fault s.coarse ≡ None
restrict_coarse s e = (restrict_shape s e).coarse
