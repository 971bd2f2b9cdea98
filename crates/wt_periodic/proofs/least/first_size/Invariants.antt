use Rattle.std.proofs.Common.{ℕ, ◌*◌, ◌<◌}
use Rattle.wt_grid.specs.declared.axis.Axis.TheVariants.{One, Two}
use Rattle.wt_periodic.specs.Cylinders.{AreDead}
use Rattle.wt_periodic.specs.Wraps.{HasNoWrapOf}
use Rattle.wt_periodic.specs.Least.{IsSize}
use Rattle.wt_periodic.proofs.least.first_size.Given as goal

abbrev pub invariant-loop-area : goal.invariant-loop-area
invariant-loop-area l = record {
  none : (m n : ℕ) → IsSize l.limit m n → m * n < l.area → HasNoWrapOf l.rounds.tables.tiles.now m n;
  widths : AreDead l.rounds.tables.tiles.now One l.widths;
  heights : AreDead l.rounds.tables.tiles.now Two l.heights;
}
