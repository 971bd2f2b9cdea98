use Rattle.std.proofs.Common.{◌≡◌, ℕ, ◌*◌, ◌<◌}
use Rattle.wt_periodic.specs.Wraps.{HasNoWrapOf}
use Rattle.wt_periodic.specs.Least.{IsSize}
use Rattle.wt_periodic.proofs.least.of_area.Given as goal

abbrev pub invariant-loop-width : goal.invariant-loop-width
invariant-loop-width l = (m n : ℕ) → IsSize l.limit m n → m * n ≡ l.area → m < l.width → HasNoWrapOf l.rounds.tables.tiles.now m n
