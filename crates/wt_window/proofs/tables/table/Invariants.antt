use Rattle.std.proofs.Common.{◌≡◌, ◌<◌, ◌&&◌, ℕ, nat_lt, length}
use Rattle.wt_lane.specs.Masks.{mask_bit}
use Rattle.wt_mask.specs.Masks.{bit, mask_at, may_stand}
use Rattle.wt_window.proofs.tables.table.Given as goal

abbrev pub invariant-loop-t : goal.invariant-loop-t
invariant-loop-t l = record {
  long : length l.rows.items ≡ l.t;
  masks : (t u : ℕ) → t < l.t → mask_bit (mask_at l.rows.items t) u ≡ bit (nat_lt u (length l.tiles) && may_stand l.tiles l.way t u);
}
