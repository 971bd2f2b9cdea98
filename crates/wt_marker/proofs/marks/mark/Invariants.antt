use Rattle.std.proofs.Common.{◌≡◌, ◌||◌, ℕ, length, drop, nat_eq}
use Rattle.std.specs.List.{list_any}
use Rattle.wt_marker.specs.Classes.{is_in}
use Rattle.wt_marker.specs.Demanded.{marked}
use Rattle.wt_marker.proofs.marks.mark.Given as goal

abbrev pub invariant-loop-t : goal.invariant-loop-t
invariant-loop-t l = (length l.marks ≡ 256) × ((a : ℕ) → (marked l.marks a || list_any (nat_eq a) (drop l.t-index l.class)) ≡ is_in l.class a)
