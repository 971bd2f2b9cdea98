-- Restrict steps whose lists have no fault.
use Rattle.std.proofs.Common.{arith, ◌≡◌, length, None, option_map, not, nat_le}
use Rattle.wt_grid.proofs.Unless.{holds}
use Rattle.wt_grid.specs.Unless.{unless}
use Rattle.wt_grid.proofs.Order.{agreed}
use Rattle.std.proofs.lemmas.Bool.Decides.{nat_tests}
use Rattle.wt_tile.specs.Sets.{set_fault}
use Rattle.wt_grid.specs.Order.{agree}
use Rattle.wt_grid.proofs.First.{neither, none_from, none_under}
use Rattle.wt_step.specs.declared.raw.RawRestrict.{RawRestrict}
use Rattle.wt_step.specs.declared.raw.StepFault.TheVariants.{Radius, Fine, Coarse, Kept, LostList}
use Rattle.wt_step.specs.Restrict.{kept_fit, lost_fit, sorted_fault, sorted_fault_at, is_lost, is_kept, sorting_fault, IsSorted}

pub sorted : (s : RawRestrict) → sorting_fault s ≡ None → IsSorted s
unfolding sorting_fault
sorted s e =
    let r = neither (unless (nat_le s.radius 4) Radius) _ e in
    let f = neither (option_map Fine (set_fault s.fine)) _ r.1 in
    let c = neither (option_map Coarse (set_fault s.coarse)) _ f.1 in
    let k = neither (unless (kept_fit s) Kept) _ c.1 in
    let l = neither (unless (lost_fit s) LostList) (sorted_fault s) k.1 in
    let small = holds (nat_le s.radius 4) Radius r.0 in
    record {
      radius = grind (arith, nat_tests, small);
      fine = none_under Fine (set_fault s.fine) f.0;
      coarse = none_under Coarse (set_fault s.coarse) c.0;
      kept = holds (kept_fit s) Kept k.0;
      lost = holds (lost_fit s) LostList l.0;
      sorted = λ t lt. agreed (is_lost s t) (not (is_kept s t)) (holds (agree (is_lost s t) (not (is_kept s t))) LostList
          (none_from (sorted_fault_at s) 0 (length s.fine.tiles) t l.1 (omega arith) (omega arith)));
    }
