use Rattle.std.proofs.Common.{◌≡◌, ◌≤◌, ◌++◌, drop, map}
use Rattle.wt_search.specs.declared.light_end.LightenEnd.{LightenEnd}
use Rattle.wt_search.specs.declared.limits.TheConstants.{MAX_NODES}
use Rattle.wt_search.specs.Light.{light_link}
use Rattle.wt_search.specs.Lightened.{after_links, MayBeSpentFrom}
use Rattle.wt_search.proofs.lightening.light_links.Given as goal

abbrev pub invariant-loop-step : goal.invariant-loop-step
invariant-loop-step l = record {
  nodes : after_links l.step l.budget (drop l.step l.links) l.nodes ≡ after_links 0 l.budget l.links 0;
  links : l.lights.items ++ map light_link (drop l.step l.links) ≡ map light_link l.links;
  spent : (e : LightenEnd) → MayBeSpentFrom l.step l.budget (drop l.step l.links) l.nodes e → MayBeSpentFrom 0 l.budget l.links 0 e;
  few : l.nodes ≤ MAX_NODES;
}
