use Rattle.std.proofs.Common.{◌≡◌, ◌⊎◌, ◌≤◌, length}
use Rattle.wt_search.specs.declared.limits.TheConstants.{MAX_NODES}
use Rattle.wt_search.specs.Asked.{asked, HasNoMatches}
use Rattle.wt_search.specs.Found.{going, progress, links_of}
use Rattle.wt_search.proofs.finding.search_levels.Given as goal

abbrev pub invariant-loop-level : goal.invariant-loop-level
invariant-loop-level l = record {
  come : progress (asked l.axes l.side l.radius l.budget) l.set.list.now l.level ≡ going (links_of l.chain) l.nodes;
  steps : length (links_of l.chain) ≡ l.level;
  few : l.nodes ≤ MAX_NODES;
  zero : l.budget ≡ 0 → (l.level ≡ 0) ⊎ HasNoMatches l.set.list.now.tiles;
}
