use Rattle.std.proofs.Common.{◌≡◌, ◌≤◌, ◌++◌, drop}
use Rattle.std.specs.Prelude.{filter}
use Rattle.wt_search.specs.declared.light_end.LightenEnd.{LightenEnd}
use Rattle.wt_search.specs.declared.limits.TheConstants.{MAX_NODES}
use Rattle.wt_search.specs.Light.{has_window, entries_of}
use Rattle.wt_search.specs.Lightened.{after_pairs, MayBeSpentAmong}
use Rattle.wt_search.proofs.lowering.ask_all.Given as goal

abbrev pub invariant-loop-pair : goal.invariant-loop-pair
invariant-loop-pair l = record {
  nodes : after_pairs l.set.list.now.tiles l.known l.round (drop l.pair-index l.pairs) l.sum ≡ after_pairs l.set.list.now.tiles l.known l.round l.pairs l.nodes;
  entries : l.entries.items ++ entries_of l.set.list.now.tiles l.known l.round.radius l.round.axis (drop l.pair-index l.pairs)
      ≡ l.initial.entries.items ++ entries_of l.set.list.now.tiles l.known l.round.radius l.round.axis l.pairs;
  left : l.left.items ++ filter (has_window l.set.list.now.tiles l.round.axis l.round.radius) (drop l.pair-index l.pairs) ≡ filter (has_window l.set.list.now.tiles l.round.axis l.round.radius) l.pairs;
  spent : (e : LightenEnd) → MayBeSpentAmong l.set.list.now.tiles l.known l.round (drop l.pair-index l.pairs) l.sum e → MayBeSpentAmong l.set.list.now.tiles l.known l.round l.pairs l.nodes e;
  few : l.sum ≤ MAX_NODES;
}
