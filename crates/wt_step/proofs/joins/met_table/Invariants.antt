use Rattle.std.proofs.Common.{◌≡◌, ◌<◌, ℕ, length, slice_index_or}
use Rattle.wt_grid.specs.declared.limits.TheConstants.{MAX_TILES}
use Rattle.wt_step.specs.Words.{image_at}
use Rattle.wt_step.specs.Joins.{one_edge, met}
use Rattle.wt_step.proofs.joins.met_table.Given as goal

abbrev pub invariant-loop-j : goal.invariant-loop-j
invariant-loop-j l = record {
  long : length l.table ≡ MAX_TILES;
  met : (k : ℕ) → k < l.j → slice_index_or l.table k (one_edge 0) ≡ met l.raw l.axis (image_at l.raw k);
}
