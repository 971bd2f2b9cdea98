use Rattle.std.proofs.Common.{◌≡◌, ◌<◌, ℕ, drop, max}
use Rattle.std.specs.List.{list_any}
use Rattle.wt_grid.specs.Pairs.{is_this_pair}
use Rattle.wt_grid.specs.declared.limits.TheConstants.{MAX_TILES}
use Rattle.wt_lane.specs.Masks.{mask_bit}
use Rattle.wt_mask.specs.Masks.{bit, mask_at}
use Rattle.wt_mask.proofs.rows.rows_of.Given as goal

abbrev pub invariant-loop-pair : goal.invariant-loop-pair
invariant-loop-pair l = (a b : ℕ) → a < MAX_TILES → b < MAX_TILES
    → max (mask_bit (mask_at l.rows a) b) (bit (list_any (is_this_pair a b) (drop l.pair-index l.pairs))) ≡ bit (list_any (is_this_pair a b) l.pairs)
