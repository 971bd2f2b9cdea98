use Rattle.std.proofs.Common.{◌≡◌}
use Rattle.std.specs.Prelude.{Ok}
use Rattle.wt_search.specs.Lightened.{after_radii}
use Rattle.wt_search.specs.States.{IsLoweredTo}
use Rattle.wt_search.proofs.lower.light_entries.Given as goal

abbrev pub invariant-loop-below : goal.invariant-loop-below
invariant-loop-below l = record {
  come : IsLoweredTo l.raw l.below l.lowered;
  nodes : after_radii l.step l.raw l.budget l.below l.nodes ≡ Ok l.lowered.nodes;
}
