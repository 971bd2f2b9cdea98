use Rattle.std.proofs.Common.{◌≡◌, ◌<◌, ℕ, length}
use Rattle.wt_grid.specs.declared.limits.TheConstants.{MAX_COLOURS}
use Rattle.wt_mask.specs.Masks.{mask_at, IsMet}
use Rattle.wt_mask.proofs.sides.side.Given as goal

abbrev pub invariant-loop-u : goal.invariant-loop-u
invariant-loop-u l = record {
  long : length l.rows ≡ MAX_COLOURS;
  met : (colour : ℕ) → colour < MAX_COLOURS → IsMet l.tiles l.way l.u colour (mask_at l.rows colour);
}
