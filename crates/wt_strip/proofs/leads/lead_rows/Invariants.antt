use Rattle.std.proofs.Common.{◌-◌, ◌≤◌}
use Rattle.wt_strip.specs.Listed.{rows_in}
use Rattle.wt_strip.proofs.Led.{AreLed}
use Rattle.wt_strip.proofs.leads.lead_rows.Given as goal

abbrev pub invariant-rows : goal.invariant-rows
invariant-rows l = record {
  within : l.r ≤ rows_in l.w l.below;
  led : AreLed l.sides.tiles.now l.w l.below l.r l.leads.items;
}

abbrev pub decreases-rows : goal.decreases-rows
decreases-rows l = rows_in l.w l.below - l.r
