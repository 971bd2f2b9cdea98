-- Lists without a fault are in order and in range.
use Rattle.std.proofs.Common.{arith, ◌≡◌, Option, None, Some, option_map, Bool, true, false, length, nat_le, refl}
use Rattle.wt_grid.proofs.Unless.{holds}
use Rattle.wt_grid.specs.Unless.{unless}
use Rattle.wt_grid.specs.declared.axis.Axis.TheVariants.{One, Two}
use Rattle.wt_grid.specs.declared.axis.Axis.{Axis}
use Rattle.std.proofs.lemmas.Bool.Decides.{nat_tests}
use Rattle.wt_tile.specs.Sets.{set_fault}
use Rattle.wt_refute.specs.Entries.{ascends}
use Rattle.wt_refute.proofs.Entries.{ordered}
use Rattle.wt_step.specs.Words.{entry_fits}
use Rattle.wt_grid.proofs.First.{neither, none_under}
use Rattle.wt_step.specs.declared.raw.RawStep.{RawStep}
use Rattle.wt_step.specs.declared.raw.StepFault.{StepFault}
use Rattle.wt_step.specs.declared.raw.StepFault.TheVariants.{Radius, Fine, Coarse, Markers, Allowed, RefutedList, Images}
use Rattle.wt_step.specs.Faults.{shape_fault, markers_fit, allowed_fit, refuted_fit, images_fit, IsShaped}

pub shaped : (s : RawStep) → shape_fault s ≡ None → IsShaped s
unfolding shape_fault
shaped s e =
    let r = neither (unless (nat_le s.radius 4) Radius) _ e in
    let f = neither (option_map Fine (set_fault s.fine)) _ r.1 in
    let c = neither (option_map Coarse (set_fault s.coarse)) _ f.1 in
    let m = neither (unless (markers_fit s) Markers) _ c.1 in
    let o = neither (unless (allowed_fit s One) (Allowed One)) _ m.1 in
    let t = neither (unless (allowed_fit s Two) (Allowed Two)) _ o.1 in
    let g = neither (unless (refuted_fit s) RefutedList) _ t.1 in
    let small = holds (nat_le s.radius 4) Radius r.0 in
    record {
      radius = grind (arith, nat_tests, small);
      fine = none_under Fine (set_fault s.fine) f.0;
      coarse = none_under Coarse (set_fault s.coarse) c.0;
      markers = holds (markers_fit s) Markers m.0;
      allowed = each o.0 t.0;
      refuted = holds (refuted_fit s) RefutedList g.0;
      images = holds (images_fit s) Images g.1;
    }
  where
    each : unless (allowed_fit s One) (Allowed One) ≡ None → unless (allowed_fit s Two) (Allowed Two) ≡ None → (axis : Axis) → allowed_fit s axis ≡ true
    each o t One = holds (allowed_fit s One) (Allowed One) o
    each o t Two = holds (allowed_fit s Two) (Allowed Two) t

pub refuted_ascend : (s : RawStep) → IsShaped s → ascends s.refuted ≡ true
refuted_ascend s h = ordered (entry_fits s.radius (length s.fine.tiles)) s.refuted h.refuted
