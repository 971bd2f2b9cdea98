use Rattle.std.proofs.Common.{◌≡◌, ◌<◌, ℕ, drop, max}
use Rattle.std.specs.List.{list_any}
use Rattle.wt_grid.specs.declared.limits.TheConstants.{MAX_TILES}
use Rattle.wt_lane.specs.Masks.{mask_bit}
use Rattle.wt_mask.specs.Masks.{bit}
use Rattle.wt_step.specs.Words.{demands}
use Rattle.wt_step.proofs.marked.demands_in.Given as goal

abbrev pub invariant-loop-pair : goal.invariant-loop-pair
invariant-loop-pair l = (u : ℕ) → u < MAX_TILES → max (mask_bit l.mask u) (bit (list_any (demands l.raw u) (drop l.pair-index l.pairs))) ≡ bit (list_any (demands l.raw u) l.pairs)
