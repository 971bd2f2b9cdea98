use Rattle.std.proofs.Common.{◌≡◌, ◌<◌, ◌&&◌, ℕ, nat_lt, length}
use Rattle.wt_lane.specs.Masks.{mask_bit}
use Rattle.wt_mask.specs.Masks.{bit, mask_at}
use Rattle.wt_periodic.specs.Cylinders.{stands_beside}
use Rattle.wt_periodic.proofs.pairs.masks.Given as goal

abbrev pub invariant-loop-t : goal.invariant-loop-t
invariant-loop-t l = record {
  long : length l.rows.items ≡ l.t;
  masks : (t u : ℕ) → t < l.t → mask_bit (mask_at l.rows.items t) u ≡ bit (nat_lt u (length l.tiles) && stands_beside l.table l.tiles l.axis l.behind t u);
}
