use Rattle.std.proofs.Common.{◌≡◌, ◌<◌, ℕ, drop, max, nat_eq}
use Rattle.std.specs.List.{list_any}
use Rattle.wt_grid.specs.declared.limits.TheConstants.{MAX_TILES}
use Rattle.wt_lane.specs.Masks.{mask_bit}
use Rattle.wt_mask.specs.Masks.{bit}
use Rattle.wt_step.proofs.marked.mask_of.Given as goal

abbrev pub invariant-loop-tile : goal.invariant-loop-tile
invariant-loop-tile l = (a : ℕ) → a < MAX_TILES → max (mask_bit l.mask a) (bit (list_any (nat_eq a) (drop l.tile-index l.tiles))) ≡ bit (list_any (nat_eq a) l.tiles)
