use Rattle.std.proofs.Common.{◌-◌, ◌<◌, ◌≤◌, ℕ}
use Rattle.wt_strip.specs.Listed.{rows_in, row_at}
use Rattle.wt_strip.specs.Walks.{AreAlike}
use Rattle.wt_strip.proofs.rows.past_alike.Given as goal

abbrev pub invariant-halves : goal.invariant-halves
invariant-halves l = record {
  past : l.r < l.low;
  ordered : l.low ≤ l.high;
  within : l.high ≤ rows_in l.w l.cells;
  alike : (s : ℕ) → l.r ≤ s → s < l.low → AreAlike l.n (row_at l.w l.cells s) (row_at l.w l.cells l.r);
}

abbrev pub decreases-halves : goal.decreases-halves
decreases-halves l = l.high - l.low
